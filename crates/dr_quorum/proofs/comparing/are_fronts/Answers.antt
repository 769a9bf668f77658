use Rattle.std.proofs.Common.{arith}
use Rattle.dr_quorum.{specs.Handing.handed_by, proofs.Holding.{along_more, fronts_along}}
use Rattle.dr_quorum.proofs.comparing.are_fronts.Goals as goal

pub loop-m-init : goal.loop-m-init
loop-m-init c i f l x = absurd (omega (arith, l))

pub loop-m-preserved : goal.loop-m-preserved
loop-m-preserved c =
    along_more (handed_by c.args.lists.now) c.args.age c.loop-m.m c.args.longest.now c.loop-m.invariant
    c.in_default.ensures.none

pub returns : goal.returns
returns c _ =
    fronts_along c.args.lists.now c.args.age c.loop-m.m c.args.longest.now c.loop-m-test.false c.loop-m.invariant
    c.requires
