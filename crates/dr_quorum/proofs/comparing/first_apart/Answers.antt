use Rattle.std.proofs.Common.{arith}
use Rattle.dr_quorum.{specs.Handing.handed_by, proofs.Holding.along_more}
use Rattle.dr_quorum.proofs.comparing.first_apart.Goals as goal

pub loop-m-init : goal.loop-m-init
loop-m-init c i f l x = absurd (omega (arith, l))

pub loop-m-preserved : goal.loop-m-preserved
loop-m-preserved c =
    along_more (handed_by c.args.lists.now) c.args.age c.loop-m.m c.args.entries.now c.loop-m.invariant
    c.in_default.ensures.none

pub returns-in-Some-clause-some : goal.returns-in-Some-clause-some
returns-in-Some-clause-some c =
    let t = c.in-Some.ensures.some in
    record { below = c.loop-m-test.true; before = c.loop-m.invariant; other = t.0; held = t.1; differ = t.2 }

pub returns-clause-none : goal.returns-clause-none
returns-clause-none c i f l x = c.loop-m.invariant i f (omega (arith, l, c.loop-m-test.false)) x
