use Rattle.std.proofs.Common.{inl, inr}
use Rattle.dr_restart.proofs.Choosing.{longest_step, none_longest}
use Rattle.dr_quorum.{specs.Handing.handed_by, proofs.Holding.longest_all}
use Rattle.dr_quorum.proofs.holders.longest.Goals.{then-most-len, else-most-len}
use Rattle.dr_quorum.proofs.holders.longest.Goals as goal

pub loop-m-init : goal.loop-m-init
loop-m-init c = none_longest (handed_by c.args.lists.now) c.args.age

pub loop-m-preserved : goal.loop-m-preserved
loop-m-preserved c = longest_step (handed_by c.args.lists.now) c.args.age c.loop-m.m c.loop-m.best c.loop-m.most
    c.held_length-len.result c.if-most-len.best c.if-most-len.most c.loop-m.invariant
    c.held_length-len.ensures.held c.held_length-len.ensures.some (elim c.if-most-len.branch [
      | then-most-len w ↦ inl (w.best-is, w.most-is, w.if-most-len.true)
      | else-most-len w ↦ inr (w.best-is, w.most-is, w.if-most-len.false)
    ])

pub returns : goal.returns
returns c m f x =
    longest_all c.args.lists.now c.args.age c.loop-m.m c.loop-m.best c.loop-m.most m f c.loop-m.invariant
    c.loop-m-test.false x
