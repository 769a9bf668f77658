-- What is said of a text, by what is read of it, and with which status.
use Rattle.std.specs.declared.alloc.Global.{Global}
use Rattle.std.proofs.Common.{inl, inr, refl, sym, ap, subst, ℕ, List, Option, [], String, Result, Ok, Err, IfOk, map, string_bytes, arith}
use Rattle.dr_entry.proofs.{ListParts.run_known, NumberFacts.IsKnown}
use Rattle.dr_history.proofs.Bits.{has_zero}
use Rattle.dr_ages.specs.{Ages.all_with, declared.mode.Mode.TheVariants.Sim}
use Rattle.dr_intake.specs.{Answer.{IsLine, Said, done, no_memory, no_source, usage}, Status.{WroteText, status_of}}
use Rattle.dr_intake.specs.declared.answer.Answer.{Answer}
use Rattle.dr_outcome.{specs.Outcome.AreAllLate, proofs.Runs.part_lasts}
use Rattle.dr_script.specs.Reading.{Reading, TooLong, NotJson, Wrong, Reads, reading_of}
use Rattle.dr_script.specs.declared.script.Script.{Script}
use Rattle.dr_text.specs.declared.last.Last.TheVariants as lasts
use Rattle.dr_tools.specs.SummaryAnswer.{IsAnswerFor, IsRunAnswer, IsScriptAnswer, IsSummaryAnswer, SummaryTold, summary_usage}
use Rattle.dr_tools.specs.declared.summary.words.Asked.{Asked}

-- what is said of a script, where there was memory for it: of its run, or how it is called
pub run_if : {E : Type 0} (answer : Result Answer E) (k : Asked) (s : Script) → IfOk answer (λ a. IsRunAnswer k s
    (string_bytes a.text, a.status)) → IfOk answer (λ a. IsScriptAnswer k s (string_bytes a.text, a.status))
run_if (Ok a) k s answer = inl answer
run_if (Err e) k s answer = tt

pub unrun_if : {E : Type 0} (answer : Result Answer E) (k : Asked) (s : Script) → AreAllLate s (all_with k.late)
    → IfOk answer (λ a. IsLine summary_usage lasts.Usage (string_bytes a.text, a.status))
    → IfOk answer (λ a. IsScriptAnswer k s (string_bytes a.text, a.status))
unrun_if (Ok a) k s all said = inr (record { all = all; usage = said.0; due = said.1 })
unrun_if (Err e) k s all said = tt

answer_known : (k : Asked) (r : Reading) (said : Said) → IsAnswerFor k r said → IsKnown said.1
answer_known k TooLong said is = (2, omega arith, sym is.1)
answer_known k NotJson said is = (2, omega arith, sym is.1)
answer_known k (Wrong rule path) said is = (2, omega arith, sym is.1)
answer_known k (Reads script) said (inl is) = subst IsKnown (sym is.due) (run_known (status_of is.last)
    (part_lasts script (all_with k.late) Sim is.ages is.stop is.last (λ m below. has_zero m) is.run is.line))
answer_known k (Reads script) said (inr unrun) = (1, omega arith, sym unrun.due)

due_known : (words : List (String Global)) (old new : Option (List ℕ)) (failed fails : ℕ) (said : Said)
    → IsSummaryAnswer words old new failed fails said → IsKnown said.1
due_known words old new failed fails said answer = elim answer [
  | usage none kept alone ↦ (1, omega arith, sym alone.1)
  | no_source k asked reads rose alone ↦ (3, omega arith, sym alone.1)
  | no_memory k asked alone ↦ absurd alone
  | done k asked bytes was is ↦ answer_known k (reading_of bytes) said is
]

-- so is the status that is left by the sink
pub told_known : (words : List (String Global)) (old new : Option (List ℕ)) (failed fails : ℕ)
    (held holds : Option (List ℕ)) (fell falls status : ℕ)
    → SummaryTold words old new failed fails held holds fell falls status → IsKnown status
told_known words old new failed fails held holds fell falls status (inl wanting) = (7, omega arith, sym wanting.0)
told_known words old new failed fails held holds fell falls status (inr wrote) = by wrote.wrote
  where
    by : WroteText held holds fell falls status wrote.due wrote.text → IsKnown status
    by (inl whole) = subst IsKnown (sym whole.0)
        (due_known words old new failed fails (wrote.text, wrote.due) wrote.answer)
    by (inr front) = (4, omega arith, sym front.0)
