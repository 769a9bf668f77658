use Rattle.std.proofs.Common.{arith, sym}
use Rattle.dr_entry.proofs.ListPlaces.{take_read}
use Rattle.dr_history.proofs.Letters.{end_more, up_to_view-none}
use Rattle.dr_install.proofs.letter_end.Goals.{then-is_view, else-is_view}
use Rattle.dr_install.proofs.letter_end.Goals as goal

pub loop-at-init : goal.loop-at-init
loop-at-init c = record { within = omega arith; letter = sym up_to_view-none }

pub loop-at-preserved : goal.loop-at-preserved
loop-at-preserved c = record {
  within = elim c.if-is_view.branch [
    | then-is_view w ↦ omega (arith, w.end-is)
    | else-is_view w ↦ omega (arith, w.end-is, c.loop-at.invariant.within)
  ];
  letter = end_more c.args.history.now c.loop-at.at c.loop-at.end c.if-is_view.end c.index-history-at.result
      c.is_view.result
      (take_read c.args.history.now c.loop-at.at c.index-history-at.result c.loop-at-test.true c.index-history-at.is)
      c.is_view.ensures c.loop-at.invariant.letter (elim c.if-is_view.branch [
        | then-is_view w ↦ rw w.if-is_view.true w.end-is
        | else-is_view w ↦ rw w.if-is_view.false w.end-is
      ]);
}
