-- What is said of a text, by what is read of it.
use Rattle.std.proofs.Common.{◌≡◌, ◌∙◌, sym, ap, subst, ℕ, List, ◌++◌, Some, Result, Ok, Err, IfOk, string_bytes, append_assoc}
use Rattle.std.proofs.lemmas.Option.{none-some, same_Some}
use Rattle.dr_complete.specs.Enough.{most_messages}
use Rattle.dr_intake.specs.{Reading.refusal_in, Status.status_of, declared.answer.Answer.Answer}
use Rattle.dr_script.specs.{Reading.{Reading, TooLong, NotJson, Wrong, Reads}, declared.script.Script.Script}
use Rattle.dr_text.specs.{Report.last_text, declared.last.Last.Last}
use Rattle.dr_text.specs.declared.last.Last.TheVariants as lasts
use Rattle.dr_tools.specs.Explained.{BeginsWith, IsAnswerFor, TellsTurns, taken_line, turns_line}

-- the answer to a script
pub script_answer : (r : Reading) (s : Script) (text : List ℕ) (status : ℕ) → r ≡ Reads s
    → TellsTurns s text → status ≡ 0 → IsAnswerFor r text status
script_answer r s text status is turns due = subst (λ (x : Reading). IsAnswerFor x text status) (sym is) (record {
  begins = (
    taken_line (most_messages s) turns.taken ++ turns.begins.0,
    turns.begins.1 ∙ append_assoc (turns_line s) (taken_line (most_messages s) turns.taken) turns.begins.0,
  );
  turns = turns;
  due = due;
})

-- the answer to a text that is refused
pub refused_answer : (r : Reading) (line : Last) (text : List ℕ) (status : ℕ) → refusal_in r ≡ Some line
    → BeginsWith (last_text line) text → status ≡ status_of line → IsAnswerFor r text status
refused_answer TooLong line text status is begins due =
    let same = sym (same_Some lasts.TooLong line is) in
    record {
      begins = subst (λ (l : Last). BeginsWith (last_text l) text) same begins;
      turns = tt;
      due = due ∙ ap status_of same;
    }
refused_answer NotJson line text status is begins due =
    let same = sym (same_Some lasts.NotJson line is) in
    record {
      begins = subst (λ (l : Last). BeginsWith (last_text l) text) same begins;
      turns = tt;
      due = due ∙ ap status_of same;
    }
refused_answer (Wrong rule path) line text status is begins due =
    let same = sym (same_Some (lasts.Rule rule path) line is) in
    record {
      begins = subst (λ (l : Last). BeginsWith (last_text l) text) same begins;
      turns = tt;
      due = due ∙ ap status_of same;
    }
refused_answer (Reads script) line text status is begins due = absurd (none-some line is)

-- the same, where there was memory for the answer
pub script_if : {E : Type 0} (answer : Result Answer E) (r : Reading) (s : Script) → r ≡ Reads s
    → IfOk answer (λ a. TellsTurns s (string_bytes a.text)) → IfOk answer (λ a. a.status ≡ 0)
    → IfOk answer (λ a. IsAnswerFor r (string_bytes a.text) a.status)
script_if (Ok a) r s is turns due = script_answer r s (string_bytes a.text) a.status is turns due
script_if (Err e) r s is turns due = tt

pub refused_if : {E : Type 0} (answer : Result Answer E) (r : Reading) (line : Last)
    → refusal_in r ≡ Some line → IfOk answer (λ a. BeginsWith (last_text line) (string_bytes a.text))
    → IfOk answer (λ a. a.status ≡ status_of line) → IfOk answer (λ a. IsAnswerFor r (string_bytes a.text) a.status)
refused_if (Ok a) r line is begins due = refused_answer r line (string_bytes a.text) a.status is begins due
refused_if (Err e) r line is begins due = tt
