-- An opening for which no log is missing.
use Rattle.std.{specs.Prelude.{is_some, option_map, slice_get}, proofs.lemmas.Option.slice_get-map}
use Rattle.std.proofs.Common.{◌≡◌, refl, ap, ◌∙◌, ℕ, ◌≤◌, true, List, length, Option, None, Some}
use Rattle.dr_history.specs.{Members.has, declared.opening.Opening.Opening}
use Rattle.dr_log_bytes.specs.Content.{OnLog}
use Rattle.dr_restart.specs.{Left.entries_on_logs, declared.{lists.LogLists.LogLists, start.Start.Start}}
use Rattle.dr_opening.{specs.Tries.{AreAmong, IsChosenOf, content_at}, proofs.Trying.in_set}

-- the entries of a log among the lists of all
pub entries_among : (contents : List (Option OnLog)) (lists : List LogLists) (m : ℕ) (c : OnLog)
    → AreAmong contents lists → content_at contents m ≡ Some c → slice_get (entries_on_logs lists) m ≡ Some c.entries
entries_among contents lists m c among at = slice_get-map (λ (log : LogLists). log.entries) lists m
    ∙ ap (option_map (λ (log : LogLists). log.entries)) (among m c at)

-- where none is missing all are in the set
pub all_in_set : (o : Opening) (contents : List (Option OnLog)) (start : Start) (m : ℕ) → IsChosenOf o contents start
    → length o.messages ≤ 16 → is_some (content_at contents m) ≡ true → has start.present m ≡ true
all_in_set o contents start m is few there = by (content_at contents m) refl there
  where
    by : (d : Option OnLog) → content_at contents m ≡ d → is_some d ≡ true → has start.present m ≡ true
    by (Some c) at is_there = in_set o contents start m c is few at
    by None at is_there = absurd (cc)
