use Rattle.std.proofs.Common.{sym}
use Rattle.dr_entry.proofs.ListPlaces.{take_read}
use Rattle.dr_history.proofs.{Following.view_of-nil, ViewLemmas.{view_of-View, view_of-Msg}}
use Rattle.dr_history.proofs.view.view_of.Goals.{in-View, in_default}
use Rattle.dr_history.proofs.view.view_of.Goals as goal

pub loop-entry-init : goal.loop-entry-init
loop-entry-init c = sym view_of-nil

pub loop-entry-preserved : goal.loop-entry-preserved
loop-entry-preserved c =
    rw (take_read c.args.history.now c.loop-entry.entry-index c.entry-item.result c.loop-entry-test.true
    c.entry-item.is) (elim c.match-entry.branch [
      | in-View w ↦ rw (w.in-View.is, view_of-View) (cc)
      | in_default w ↦ rw (w.in_default.is, view_of-Msg) (cc)
    ])
