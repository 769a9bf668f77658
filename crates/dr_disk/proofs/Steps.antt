-- What one step more does to the record of a disk's calls.
use Rattle.std.proofs.Common.{◌≡◌, ℕ, ◌+◌, ◌≤◌, List, [], ◌∷◌, ◌++◌, length, drop, refl, sym, ap, ap₂, ◌∙◌, append-nil, arith, length-append, length-drop}
use Rattle.std.proofs.lemmas.List.{take-append-le, drop-append-le}
use Rattle.dr_disk.{specs.Calls.{Call, State, step, run}, proofs.{Filling.text_length-more, Moments.run-added}}
use Rattle.dr_disk.specs.Steps.{bytes_of_step, call_of, text_length, calls_of, IsWhole}
use Rattle.dr_disk.specs.declared.kept.Step.{Step, TheVariants.{Write, FailedWrite, Cut, FailedCut, Sync}}
use Rattle.dr_disk.specs.Calls as calls

-- what stands behind its bytes is nothing to a step
call_of-append : (s : Step) (text more : List ℕ) → bytes_of_step s ≤ length text
    → call_of s (text ++ more) ≡ call_of s text
call_of-append (Write at count) text more l = ap (λ (bytes : List ℕ). calls.Write at bytes)
    (take-append-le count text more l)
call_of-append (FailedWrite at count) text more l = refl
call_of-append (Cut to) text more l = refl
call_of-append (FailedCut to) text more l = refl
call_of-append Sync text more l = refl

-- one step more is one call more
calls_of-added : (steps : List Step) (s : Step) (text more : List ℕ) → length text ≡ text_length steps
    → calls_of (steps ++ s ∷ []) (text ++ more) ≡ calls_of steps text ++ call_of s more ∷ []
calls_of-added [] s [] more whole = refl
calls_of-added [] s (x ∷ text) more whole = absurd (omega (arith, whole))
calls_of-added (t ∷ steps) s text more whole =
    let rest = calls_of-added steps s (drop (bytes_of_step t) text) more
    (omega (arith, length-drop (bytes_of_step t) text, whole)) in
    let dropped = drop-append-le (bytes_of_step t) text more (omega (arith, whole)) in
    ap (λ (call : Call). call ∷ calls_of (steps ++ s ∷ []) (drop (bytes_of_step t) (text ++ more)))
    (call_of-append t text more (omega (arith, whole)))
    ∙ ap (λ (l : List Call). call_of t text ∷ l) (ap (calls_of (steps ++ s ∷ [])) dropped ∙ rest)

-- its calls are one more
pub calls_after : (steps steps' : List Step) (text text' bytes : List ℕ) (s : Step) (more : List ℕ)
    → IsWhole steps text bytes → steps' ≡ steps ++ s ∷ [] → text' ≡ text ++ more
    → calls_of steps' text' ≡ calls_of steps text ++ call_of s more ∷ []
calls_after steps steps' text text' bytes s more is pushed extended =
    ap₂ calls_of pushed extended ∙ calls_of-added steps s text more is.whole

-- The record after one step more, whose bytes came behind its text, where the bytes that a read
-- gives are those that the step leaves.
pub whole_after : (steps steps' : List Step) (text text' bytes new : List ℕ) (s : Step) (more : List ℕ)
    → IsWhole steps text bytes → bytes_of_step s ≡ length more → steps' ≡ steps ++ s ∷ [] → text' ≡ text ++ more
    → new ≡ (step (run (calls_of steps text)) (call_of s more)).content → IsWhole steps' text' new
whole_after steps steps' text text' bytes new s more is count pushed extended left = record {
  whole = ap length extended ∙ length-append text more
      ∙ omega (arith, is.whole, count, text_length-more steps s) ∙ sym (ap text_length pushed);
  same = left ∙ sym (ap (λ (s : State). s.content)
      (ap run (calls_after steps steps' text text' bytes s more is pushed extended)
      ∙ run-added (calls_of steps text) (call_of s more)));
}

-- the same of a step that has no bytes
pub whole_still : (steps steps' : List Step) (text bytes new : List ℕ) (s : Step)
    → IsWhole steps text bytes → bytes_of_step s ≡ 0 → steps' ≡ steps
    ++ s ∷ [] → new ≡ (step (run (calls_of steps text)) (call_of s [])).content → IsWhole steps' text new
whole_still steps steps' text bytes new s is none pushed left =
    whole_after steps steps' text text bytes new s [] is none pushed (sym (append-nil text)) left

pub calls_still : (steps steps' : List Step) (text bytes : List ℕ) (s : Step) → IsWhole steps text bytes
    → steps' ≡ steps ++ s ∷ [] → calls_of steps' text ≡ calls_of steps text ++ call_of s [] ∷ []
calls_still steps steps' text bytes s is pushed =
    calls_after steps steps' text text bytes s [] is pushed (sym (append-nil text))
