use Rattle.std.proofs.Common.{◌≡◌, ◌+◌, ◌<◌, ◌≤◌, length}
use Rattle.dr_machine.specs.declared.step.Step.TheVariants.{Append}
use Rattle.dr_play.specs.Persisted.{HasPersisted}
use Rattle.dr_program.specs.Running.{next_step}
use Rattle.dr_served.specs.Served.{entries_due}
use Rattle.dr_table.specs.Steps.{IsReachedMember}
use Rattle.dr_turn.specs.Work.{deeds_left}
use Rattle.dr_threads.proofs.member.persist.Given as goal

abbrev pub invariant-loop : goal.invariant-loop
invariant-loop l = record {
  few : l.counter ≤ length (entries_due l.fn.seated.member.replica);
  table : l.seated.table ≡ l.fn.board.table;
  persisted : HasPersisted l.counter l.fn.seated.member l.seated.member;
  next : l.counter < length (entries_due l.fn.seated.member.replica) → next_step l.seated.member ≡ Append;
  reached : IsReachedMember l.seated.member;
  falls : l.counter + deeds_left l.seated.member ≤ deeds_left l.fn.seated.member;
}
