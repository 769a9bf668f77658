use Rattle.std.proofs.Common.{◌≡◌}
use Rattle.dr_threads.specs.Course.{HasGone}
use Rattle.dr_turn.specs.Work.{deeds_left}
use Rattle.dr_threads.proofs.member.run_member.Given as goal

abbrev pub invariant-loop-seated : goal.invariant-loop-seated
invariant-loop-seated g l = record {
  table : l.seated.table ≡ l.fn.board.table;
  gone : HasGone g.D.Disk.told g.D.Disk.faults l.fn.seated.member l.fn.log l.seated.member l.log;
}

abbrev pub decreases-loop-seated : goal.decreases-loop-seated
decreases-loop-seated g l = deeds_left l.seated.member
