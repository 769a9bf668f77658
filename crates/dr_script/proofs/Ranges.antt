-- Which messages may stand, by what was read.
use Rattle.std.specs.Prelude.{unwrap_or}
use Rattle.std.proofs.Common.{◌≡◌, ap, sym, ◌∙◌, subst, ℕ, ◌<◌, ◌≤◌, ◌⊎◌, inl, inr, arith, List, [], length, Some, slice_get, get_or}
use Rattle.std.proofs.lemmas.{Bool.cases_lt, Option.{slice_get_within, slice_get_past, unwrap_or-slice_get}}
use Rattle.dr_entry.proofs.Bits.{few_at}
use Rattle.dr_script.specs.{Ranges.HasGroupRanges, declared.script.Script.Script}

-- who has a message in the script is a member of the roster
pub sender_small : (script : Script) (s i : ℕ) (b : List ℕ) → HasGroupRanges script
    → slice_get (get_or script.messages s []) i ≡ Some b → s < 16
sender_small script s i b ranges at = by (cases_lt s (length script.messages))
  where
    by : (s < length script.messages) ⊎ (length script.messages ≤ s) → s < 16
    by (inl l) = omega (arith, l, ranges.lists, ranges.most_members)
    by (inr past) =
        let none : get_or script.messages s [] ≡ [] = sym (unwrap_or-slice_get script.messages s [])
        ∙ ap (λ o. unwrap_or o []) (slice_get_past script.messages s past) in
        let there : slice_get {X = List ℕ} [] i ≡ Some b = subst (λ xs. slice_get xs i ≡ Some b) none at in
        absurd (omega (arith, slice_get_within {A = List ℕ} [] i b there))

-- and its messages are few
pub index_small : (script : Script) (s i : ℕ) (b : List ℕ) → HasGroupRanges script
    → slice_get (get_or script.messages s []) i ≡ Some b → i < 4096
index_small script s i b ranges at = omega (
  arith,
  slice_get_within (get_or script.messages s []) i b at,
  few_at script.messages s 4096 ranges.few,
)

-- the roster is small
pub few : (script : Script) → HasGroupRanges script → length script.messages ≤ 16
few script ranges = omega (arith, ranges.lists, ranges.most_members)
