use Rattle.std.proofs.Common.{refl, take}
use Rattle.dr_entry.proofs.ListPlaces.{take_read}
use Rattle.dr_history.proofs.Letters.{last_view-last, last_view-Msg, last_view-none}
use Rattle.dr_install.proofs.last_view.Goals.{in-View, in_default}
use Rattle.dr_install.proofs.last_view.Goals as goal

pub loop-entry-init : goal.loop-entry-init
loop-entry-init c = record { last = rw (last_view-none (0, 0), c.empty.ensures.bits) refl }

pub loop-entry-preserved : goal.loop-entry-preserved
loop-entry-preserved c = record {
  last = rw (take_read c.args.history.now c.loop-entry.entry-index c.entry-item.result c.loop-entry-test.true
      c.entry-item.is) (elim c.match-entry.branch [
        | in-View w ↦ rw (
          w.in-View.is,
          last_view-last (take c.loop-entry.entry-index c.args.history.now) (0, 0) w.in-View.age w.in-View.number
              w.in-View.members,
          w.last-is,
          w.of.ensures,
        ) refl
        | in_default w ↦ rw (
          w.in_default.is,
          last_view-Msg (take c.loop-entry.entry-index c.args.history.now) (0, 0) w.in_default.field-0
              w.in_default.field-1 w.in_default.field-2,
          w.last-is,
        ) c.loop-entry.invariant.last
      ]);
}
