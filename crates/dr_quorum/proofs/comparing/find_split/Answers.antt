use Rattle.std.proofs.Common.{arith}
use Rattle.dr_quorum.{specs.Handing.handed_by, proofs.Holding.{all_along, all_more, first_split}}
use Rattle.dr_quorum.proofs.comparing.find_split.Goals as goal

pub loop-b-init : goal.loop-b-init
loop-b-init c i j f g l k x y = absurd (omega (arith, k))

pub loop-b-preserved : goal.loop-b-preserved
loop-b-preserved c =
    all_more (handed_by c.args.lists.now) c.args.age c.loop-b.b c.loop-b.invariant c.in_default.ensures.none

pub returns-in-Some-clause-some : goal.returns-in-Some-clause-some
returns-in-Some-clause-some c =
    let t = c.in-Some.ensures.some in
    first_split (handed_by c.args.lists.now) c.args.age c.loop-b.b c.in-Some.a c.in-Some.place t.0
    c.loop-b.invariant t.1 t.2

pub returns-in-Some-clause-within : goal.returns-in-Some-clause-within
returns-in-Some-clause-within c =
    let t = c.in-Some.ensures.some in (omega (arith, t.2.below, c.loop-b-test.true), c.loop-b-test.true)

pub returns-clause-none : goal.returns-clause-none
returns-clause-none c = all_along c.args.lists.now c.args.age c.loop-b.b c.loop-b-test.false c.loop-b.invariant
