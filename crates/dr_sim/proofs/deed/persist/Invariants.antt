use Rattle.std.proofs.Common.{◌≡◌, ◌+◌, ◌<◌, ◌≤◌, length}
use Rattle.dr_machine.specs.declared.step.Step.TheVariants.{Append}
use Rattle.dr_member.specs.Deeds.{table_size}
use Rattle.dr_play.specs.Persisted.{HasPersisted, words_persisted}
use Rattle.dr_program.specs.{Form.IsRunningMember, Running.next_step}
use Rattle.dr_served.specs.Served.{entries_due}
use Rattle.dr_turn.specs.Work.{deeds_left}
use Rattle.dr_sim.proofs.deed.persist.Given as goal

abbrev pub invariant-loop : goal.invariant-loop
invariant-loop l = record {
  few : l.counter ≤ length (entries_due l.fn.member.replica);
  persisted : HasPersisted l.counter l.fn.member l.member;
  words : l.table ≡ words_persisted l.counter l.fn.table l.fn.member;
  form : IsRunningMember l.member;
  next : l.counter < length (entries_due l.fn.member.replica) → next_step l.member ≡ Append;
  size : table_size l.member ≤ length l.table;
  falls : l.counter + deeds_left l.member ≤ deeds_left l.fn.member;
}
