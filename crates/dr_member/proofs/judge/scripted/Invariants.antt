use Rattle.std.{specs.List.find, proofs.Common.{◌≡◌, drop}}
use Rattle.dr_program.specs.Running.{is_scripted}
use Rattle.dr_member.proofs.judge.scripted.Given as goal

abbrev pub invariant-loop-suspicion : goal.invariant-loop-suspicion
invariant-loop-suspicion l =
    find (is_scripted l.replica) (drop l.suspicion-index l.script) ≡ find (is_scripted l.replica) l.script
