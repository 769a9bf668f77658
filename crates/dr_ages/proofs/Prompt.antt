-- Runs in which nobody is late.
use Rattle.std.{specs.Prelude.{◌&&◌, not}, proofs.Common.{refl, ℕ, ◌-◌, ◌^◌}}
use Rattle.dr_entry.specs.declared.end.AgeEnd.{AgeEnd}
use Rattle.dr_history.{specs.{Members.has, Soundness.IsNobodyLate}, proofs.Bits.has_zero}
use Rattle.dr_script.specs.declared.script.Script.{Script}
use Rattle.dr_words.proofs.Masks.{without-nobody}
use Rattle.dr_ages.specs.Ages.{HaveSomebodyPrompt, all_but, opening_of}

-- whoever is missing, somebody who takes part isn't late, where anybody does
pub all_prompt : (script : Script) (missing : ℕ) → HaveSomebodyPrompt script (all_but missing)
all_prompt script missing m l there = (m, l, there, has_zero m)

-- and nobody is late in an age of such a run
pub nobody_late : (script : Script) (missing : ℕ) (age : AgeEnd) → IsNobodyLate (opening_of script (all_but missing) age)
nobody_late script missing age = without-nobody (λ m. has (2 ^ script.members - 1) m && not (has missing m)) _ refl
