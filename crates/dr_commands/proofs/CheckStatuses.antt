-- With which statuses a check ends.
use Rattle.std.{specs.Prelude.IfSome, proofs.lemmas.Bool.cases_lt}
use Rattle.std.proofs.Common.{◌⊎◌, inl, inr, refl, sym, subst, arith, ℕ, ◌≤◌, ◌<◌, List, Contains, length, Some, None, Option}
use Rattle.serde_json.specs.Data.{Data}
use Rattle.dr_check.specs.{Verdicts.verdict_line, declared.verdict.Verdict.Verdict}
use Rattle.dr_check.specs.declared.verdict.Verdict.TheVariants as verdicts
use Rattle.dr_entry.proofs.NumberFacts.{IsEnd}
use Rattle.dr_intake.specs.Status.{status_of}
use Rattle.dr_script.specs.{Json.json_of, Reading.{NotJson, Reading, Reads, TooLong, Wrong, reading_of}}
use Rattle.dr_script.specs.declared.script.Script.{Script}
use Rattle.dr_text.specs.declared.last.Last.{Last}
use Rattle.dr_text.specs.declared.last.Last.TheVariants as lasts
use Rattle.dr_outcome.proofs.OutcomeKinds.{refused_ends, same_end}
use Rattle.dr_commands.specs.Check.{IsChecked, SaysOfScript, SaysOfStrings, SaysOfValue, TellsVerdict, check_ends, handed_in}

verdict_ends : (script : Script) (text : List ℕ) (last : Last) → TellsVerdict script text last
    → IsEnd (status_of last)
verdict_ends script text last (verdict, is, told) = subst (λ l. IsEnd (status_of l)) told (by verdict)
  where
    by : (v : Verdict) → IsEnd (status_of (verdict_line v))
    by (verdicts.Right r) = inl refl
    by (verdicts.Wrong r flaw) = inr (inr refl)
    by (verdicts.NoReport line) = inr (inl refl)

script_ends : (r : Reading) (text : List ℕ) (last : Last) → SaysOfScript r text last → IsEnd (status_of last)
script_ends (Reads script) text last is = verdict_ends script text last is
script_ends TooLong text last is = refused_ends lasts.TooLong last is (inr (inl refl))
script_ends NotJson text last is = refused_ends lasts.NotJson last is (inr (inl refl))
script_ends (Wrong rule path) text last is = refused_ends (lasts.Rule rule path) last is (inr (inl refl))

strings_end : (o : Option (List ℕ × List ℕ)) (last : Last) → SaysOfStrings o last → IsEnd (status_of last)
strings_end None last is = same_end lasts.NotCheck last is (inr (inl refl))
strings_end (Some texts) last is = script_ends (reading_of texts.0) texts.1 last is

value_ends : (o : Option Data) (last : Last) → SaysOfValue o last → IsEnd (status_of last)
value_ends None last is = same_end lasts.NotJson last is (inr (inl refl))
value_ends (Some d) last is = strings_end (handed_in d) last is

pub checked_ends : (bytes : List ℕ) (last : Last) → IsChecked bytes last → IsEnd (status_of last)
checked_ends bytes last is = by (cases_lt 1048576 (length bytes))
  where
    by : (1048576 < length bytes) ⊎ (length bytes ≤ 1048576) → IsEnd (status_of last)
    by (inl more) = same_end lasts.TooLong last (is.long more) (inr (inl refl))
    by (inr most) = value_ends (json_of bytes) last (is.read most)

pub is_known : (n : ℕ) → IsEnd n → Contains check_ends n
is_known n (inl is) = (0, omega arith, sym is)
is_known n (inr (inl is)) = (1, omega arith, sym is)
is_known n (inr (inr is)) = (2, omega arith, sym is)

-- a last line on what was read for a check has one of these statuses
pub ends_well : (bytes : List ℕ) (r : Option Last) → IfSome r (IsChecked bytes)
    → IfSome r (λ last. Contains check_ends (status_of last))
ends_well bytes None is = tt
ends_well bytes (Some last) is = is_known (status_of last) (checked_ends bytes last is)
