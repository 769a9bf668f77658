-- How long a member waits for news of others.
use Rattle.std.specs.{Option.option_and_then, Prelude.{None, is_some}}
use Rattle.std.proofs.Common.{refl, ℕ, suc, ◌+◌, ◌-◌, ◌^◌, ◌≤◌, ◌==◌, Bool, true, false, min, if◌then◌else◌, arith, ◌≡◌, ◌≢◌, ◌⊎◌, inl, inr, ◌<◌, length, replicate, ap}
use Rattle.std.proofs.{Math.Path.fun_ext, lemmas.Bool.{cases_eq, cases_lt, Decides.nat_tests}}
use Rattle.std.proofs.lemmas.List.{get_or-set_same, get_or-set_other, get_or-replicate, get_or_past}
use Rattle.dr_rows.specs.Words.{Words, seen}
use Rattle.dr_words.specs.declared.column.TheConstants.{BEAT_COLUMN}
use Rattle.dr_suspect.specs.Answers.{least_where}
use Rattle.dr_suspect.specs.Waits.{IsWaits, begun, next_count, Waits, beat_of, compared, turns_without_news}

pub begun_waits : (limit : ℕ) → IsWaits (begun limit)
begun_waits limit = record { counts = refl; beats = refl }

-- a comparison counts one turn more at most, and of its own row alone
counted : (count last beat : ℕ) → next_count count last beat ≤ count + 1
counted count last beat = by (beat == last)
  where
    by : (b : Bool) → (if b then min (suc count) (2 ^ 32 - 1) else 0) ≤ count + 1
    by true = omega arith
    by false = omega arith

pub compared_count : (w : Waits) (rows : Words) (j i : ℕ) → j < length w.counts
    → turns_without_news (compared w rows j) i ≤ turns_without_news w i + 1
compared_count w rows j i l = by (cases_eq i j)
  where
    by : (i ≡ j) ⊎ (i ≢ j) → turns_without_news (compared w rows j) i ≤ turns_without_news w i + 1
    by (inl same) = rw same (omega (
      arith,
      get_or-set_same w.counts j (next_count (turns_without_news w j) (beat_of w j) (seen rows j BEAT_COLUMN)) 0 l,
      counted (turns_without_news w j) (beat_of w j) (seen rows j BEAT_COLUMN),
    ))
    by (inr other) = omega (
      arith,
      get_or-set_other w.counts j i (next_count (turns_without_news w j) (beat_of w j)
          (seen rows j BEAT_COLUMN)) 0 other,
    )

pub compared_other : (w : Waits) (rows : Words) (j i : ℕ) → i ≢ j
    → turns_without_news (compared w rows j) i ≡ turns_without_news w i
compared_other w rows j i other =
    get_or-set_other w.counts j i (next_count (turns_without_news w j) (beat_of w j) (seen rows j BEAT_COLUMN)) 0 other

-- who waits anew has waited for nobody
pub no_news : (limit i : ℕ) → turns_without_news (begun limit) i ≡ 0
no_news limit i = by (cases_lt i 16)
  where
    by : (i < 16) ⊎ (16 ≤ i) → turns_without_news (begun limit) i ≡ 0
    by (inl l) = get_or-replicate 16 i 0 0 l
    by (inr past) = get_or_past (replicate 16 0) i 0 past

-- nothing is found where nothing passes the test
pub nothing_found : (test : ℕ → Bool) → ((i : ℕ) → test i ≡ false) → least_where test ≡ None
nothing_found test none = ap least_where (fun_ext none)

pub nothing_spreads : (test : ℕ → ℕ → Bool) → ((i j : ℕ) → test i j ≡ false)
    → option_and_then (λ i. least_where (test i)) (least_where (λ i. is_some (least_where (test i)))) ≡ None
nothing_spreads test none = ap (λ (t : ℕ → ℕ → Bool). option_and_then (λ i. least_where (t i))
    (least_where (λ i. is_some (least_where (t i))))) (fun_ext λ i. fun_ext (none i))

-- a look at another row leaves what is known of one
pub compared_beat : (w : Waits) (rows : Words) (j i : ℕ) → i ≢ j → beat_of (compared w rows j) i ≡ beat_of w i
compared_beat w rows j i other = get_or-set_other w.beats j i (seen rows j BEAT_COLUMN) 0 other

-- the member compares what it has seen with what it sees now, and that differs
pub newly : (count last beat : ℕ) → (count ≡ 0) ⊎ (last < beat) → next_count count last beat ≤ 1
newly count last beat (inl none) = by (beat == last)
  where
    by : (b : Bool) → (if b then min (suc count) (2 ^ 32 - 1) else 0) ≤ 1
    by true = omega (arith, none)
    by false = omega arith
newly count last beat (inr less) = by (beat == last) refl
  where
    by : (b : Bool) → (beat == last) ≡ b → (if b then min (suc count) (2 ^ 32 - 1) else 0) ≤ 1
    by true e = absurd (grind (arith, nat_tests, e, less))
    by false e = omega arith
