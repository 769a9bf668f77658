-- What comes of a report that was judged.
use Rattle.std.proofs.Common.{◌≡◌, ◌∙◌, inr, refl, ap, ℕ, List, [], ◌++◌, append_assoc, length, ◌≤◌, Option, Result, Ok, Err, IfErr, IfOk, OnOk, string_bytes}
use Rattle.dr_check.specs.{Verdicts.{IsVerdict, verdict_line}, declared.report.Report.Report}
use Rattle.dr_check.specs.declared.verdict.Verdict.{Verdict}
use Rattle.dr_entry.specs.declared.entry.Entry.{Entry}
use Rattle.dr_intake.specs.{Reading.{WasRead, WasReadTo}, Status.{WroteText, status_of}}
use Rattle.dr_intake.specs.declared.answer.Answer.{Answer}
use Rattle.dr_io.specs.Sink.{Gains}
use Rattle.dr_script.specs.{Reading.reading_of, declared.script.Script.Script}
use Rattle.dr_text.specs.Report.{last_text}
use Rattle.dr_tools.specs.Differing.{Differs, ShowsDifference, told_entry}
use Rattle.dr_tools.specs.Judged.{FollowsVerdict, IsJudged, Judged, SaysOfBytes, SaysOfText, judged, no_memory}

-- two entries that differ, one behind the other
pub shown_if : {A E : Type 0} (res : Result A E) (r : Report) (line before : ℕ) (entry other : Entry)
    (old now new : List ℕ) → Differs r line entry before other → now ≡ old ++ told_entry before other
    → OnOk res (new ≡ now ++ told_entry line entry)
    → OnOk res ((more : List ℕ) × ShowsDifference r line more × (new ≡ old ++ more))
shown_if (Ok v) r line before entry other old now new differ first second = (
  told_entry before other ++ told_entry line entry,
  record { entry = entry; before = before; other = other; differ = differ; shown = refl },
  second ∙ ap (λ (l : List ℕ). l ++ told_entry line entry) first
      ∙ append_assoc old (told_entry before other) (told_entry line entry),
)
shown_if (Err e) r line before entry other old now new differ first second = tt

-- the line of a verdict, and what stands behind it
pub verdict_told : (script : Script) (bytes : List ℕ) (v : Verdict) (text new : List ℕ) (status : ℕ)
    → IsVerdict script bytes v → text ≡ last_text (verdict_line v) → status ≡ status_of (verdict_line v)
    → (more : List ℕ) × FollowsVerdict v more × (new ≡ text ++ more) → SaysOfText script bytes (new, status)
verdict_told script bytes v text new status is line due behind = record {
  verdict = v;
  is = is;
  more = behind.0;
  behind = behind.1;
  text = behind.2 ∙ ap (λ (l : List ℕ). l ++ behind.0) line;
  status = due;
}

-- what is said of bytes that are not too many
pub few_if : {E : Type 0} (script : Script) (text : List ℕ) (r : Result Answer E) → length text ≤ 2147483648
    → IfOk r (λ a. SaysOfText script text (string_bytes a.text, a.status))
    → IfOk r (λ a. SaysOfBytes text script (string_bytes a.text, a.status))
few_if script text (Ok a) few says = inr (few, says)
few_if script text (Err e) few says = tt

-- what was written of what was read
pub judged_told : {E : Type 0} (r : Result Answer E) (script text : List ℕ)
    (old new before after held holds : Option (List ℕ)) (failed fails missed misses fell falls status : ℕ)
    → WasRead old new script → WasReadTo 2147483649 before after text → IfOk r (λ a. IsJudged (reading_of script) text
    (string_bytes a.text, a.status)) → IfOk r (λ a. WroteText held holds fell falls status a.status
    (string_bytes a.text)) → IfErr r (λ _. (status ≡ 10) × Gains held holds [])
    → Judged old new before after failed fails missed misses held holds fell falls status
judged_told (Ok a) script text old new before after held holds failed fails missed misses fell falls status
    script_read text_read says wrote wanting = judged (record {
      script = script;
      script_read = script_read;
      text = text;
      text_read = text_read;
      said = (string_bytes a.text, a.status);
      is = says;
      wrote = wrote;
    })
judged_told (Err e) script text old new before after held holds failed fails missed misses fell falls status
    script_read text_read says wrote wanting = no_memory wanting.0 wanting.1
