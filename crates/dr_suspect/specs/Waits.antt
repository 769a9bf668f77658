-- How long a member has waited for news of others.
use Rattle.std.specs.Prelude.{◌≡◌, ℕ, suc, ◌-◌, ◌^◌, ◌==◌, Bool, ◌&&◌, not, nat_lt, min, if◌then◌else◌, List, length, replicate, slice_index, slice_set}
use Rattle.dr_entry.specs.declared.limits.TheConstants.{MAX_MEMBERS}
use Rattle.dr_history.specs.Members.{has}
use Rattle.dr_words.specs.declared.column.TheConstants.{BEAT_COLUMN, DONE_COLUMN}
use Rattle.dr_rows.specs.Words.{Words, seen}

-- the limit, 0 where there is none, and by row how many turns in a row brought no news and the beat that
-- was compared last
pub record Waits : Type 0 where
  pub limit : ℕ
  pub counts : List ℕ
  pub beats : List ℕ

-- the form that they always have: a place for each member of the greatest group
pub record IsWaits (w : Waits) : Type 0 where
  pub counts : length w.counts ≡ MAX_MEMBERS
  pub beats : length w.beats ≡ MAX_MEMBERS

-- for how many turns in a row there was no news of a row
abbrev pub turns_without_news : Waits → ℕ → ℕ
turns_without_news w i = slice_index w.counts i

-- the beat of a row that was compared last
abbrev pub beat_of : Waits → ℕ → ℕ
beat_of w i = slice_index w.beats i

-- at the beginning all counts and beats are 0
abbrev pub begun : ℕ → Waits
begun limit =
    record { limit = limit; counts = replicate MAX_MEMBERS 0; beats = replicate MAX_MEMBERS 0 }

-- the count after one turn more, where this beat was compared last: 0 where the beat is another, else one
-- more, as far as 32 bits go
abbrev pub next_count : ℕ → ℕ → ℕ → ℕ
next_count count last beat = if beat == last then min (suc count) (2 ^ 32 - 1) else 0

-- the waits once a row was seen whole: its beat is compared with the one that was compared last, and kept
abbrev pub compared : Waits → Words → ℕ → Waits
compared w rows i = record w {
  counts = slice_set w.counts i (next_count (turns_without_news w i) (beat_of w i) (seen rows i BEAT_COLUMN));
  beats = slice_set w.beats i (seen rows i BEAT_COLUMN);
}

-- whether the count of a row has reached the limit, and its member isn't done
abbrev pub is_late : Waits → Words → ℕ → Bool
is_late w rows i = not (nat_lt (turns_without_news w i) w.limit) && seen rows i DONE_COLUMN == 0

-- whether news of the row is waited for: of an unsuspected member other than the own
abbrev pub is_awaited : Words → ℕ → ℕ → Bool
is_awaited rows unsuspected i = has unsuspected i && not (i == rows.me)

-- whether there is a limit, and the row is waited for, and late
abbrev pub is_overdue : Waits → Words → ℕ → ℕ → Bool
is_overdue w rows unsuspected i =
    not (w.limit == 0) && (is_awaited rows unsuspected i && is_late w rows i)
