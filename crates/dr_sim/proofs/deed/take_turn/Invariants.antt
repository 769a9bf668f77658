use Rattle.std.proofs.Common.{◌≡◌, ℕ, false, is_some}
use Rattle.dr_machine.specs.Group.{Group}
use Rattle.dr_program.specs.Program.{Program}
use Rattle.dr_log.specs.State.{LogState}
use Rattle.dr_sim.specs.{Lists.HasSpare, Places.{HasServedAt, IsReadyAt}, Sound.{IsAmong, with_member}}
use Rattle.dr_sim.proofs.Turns.{IsUnderWay}
use Rattle.dr_turn.specs.Work.{deeds_left}
use Rattle.dr_sim.proofs.deed.take_turn.Given as goal

abbrev pub invariant-loop : goal.invariant-loop
invariant-loop g l = record {
  way : (h : Group) (p : Program) (m : ℕ) → IsAmong h p m l.fn.member l.fn.table.items l.fn.posts.letters
      → IsUnderWay g.W.Watcher.sees l.fn.watcher l.watcher h p m (with_member p m l.member l.table.items
      l.posts.letters);
  lists : HasSpare l.posts l.member;
  same : l.posts.room ≡ l.fn.posts.room;
  going : is_some l.member.replica.end ≡ false;
  ready : IsReadyAt l.place l.member;
  served : (base : LogState g.row.D.Denot) → HasServedAt g.D.Disk.told g.D.Disk.faults base l.fn.place l.fn.member
      → HasServedAt g.D.Disk.told g.D.Disk.faults base l.place l.member;
}

abbrev pub decreases-loop : goal.decreases-loop
decreases-loop g l = deeds_left l.member
