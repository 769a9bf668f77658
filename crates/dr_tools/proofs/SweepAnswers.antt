-- What is said of the crashes of a member.
use Rattle.std.proofs.{Common.{ℕ, ◌<◌, List, Result, Ok, Err, IfOk, length, string_bytes}, lemmas.Bool.lt-ltb}
use Rattle.dr_intake.specs.declared.answer.Answer.{Answer}
use Rattle.dr_script.specs.declared.script.{Fault.Fault, Script.Script}
use Rattle.dr_tools.specs.{Crashes.AreCrashes, SweepAnswer.{IsSaidOfCrashes, IsSaidOfVariants}}
use Rattle.dr_tools.specs.declared.sweeps.{variants.Variants.TheVariants.Crashes, words.Task.Task}

-- of a member of the script, which may have a fault more, it is told of its crashes
pub crashes_said : {E : Type 0} (r : Result Answer E) (member : ℕ) (task : Task) (script : Script)
    (faults : List Fault) → member < script.members → length script.faults < 256
    → AreCrashes script task.late member faults
    → IfOk r (λ a. IsSaidOfVariants (Crashes faults) task script (string_bytes a.text, a.status))
    → IfOk r (λ a. IsSaidOfCrashes member task script (string_bytes a.text, a.status))
crashes_said (Err e) member task script faults below few are said = tt
crashes_said (Ok a) member task script faults below few are said =
    rw (lt-ltb member script.members below, lt-ltb (length script.faults) 256 few) (faults, are, said)
