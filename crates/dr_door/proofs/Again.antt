-- Where the words stand that a door pushed last to another member: in its own row of that one's copy, in each bank.
use Rattle.std.proofs.Common.{◌≡◌, ◌≢◌, ◌⊎◌, ◌∙◌, inl, inr, sym, ap, ℕ, ◌+◌, ◌-◌, ◌*◌, ◌/◌, ◌%◌, ◌<◌, ◌≤◌, arith}
use Rattle.std.proofs.lemmas.{Bool.cases_eq, Nat.{div-add-mod', div-mul-add, mod_below}}
use Rattle.dr_program.{specs.Replica.{Replica, me}, proofs.Replicas.{bank_of, row_begins}}
use Rattle.dr_words.specs.{Columns.columns_of, Layout.word_index_of}
use Rattle.dr_door.{specs.{Coming.row_in, Inside.IsKept, Lone.Lone, Sending.IsLastSent}, proofs.Places.copy_found}

-- a place in it
pub found_there : (r : Replica) (bank to index : ℕ) → to < r.roster → me r < r.roster → row_begins r bank to ≤ index
    → index < row_begins r bank to + columns_of r.roster r.window
    → (index / columns_of r.roster r.window / r.roster % r.roster ≡ to) × (bank_of r index ≡ bank)
found_there r bank to index copy row low high = (
  copy_found n r.window bank to (me r) (index - row_begins r bank to) index copy row within at,
  ap (λ x. x / columns_of n r.window / n / n) at
      ∙ ap (λ x. x / n / n) (div-mul-add ((bank * n + to) * n + me r) (columns_of n r.window)
      (index - row_begins r bank to) within)
      ∙ ap (λ x. x / n) (div-mul-add (bank * n + to) n (me r) row) ∙ div-mul-add bank n to copy,
)
  where
    n : ℕ
    n = r.roster

    within : index - row_begins r bank to < columns_of n r.window
    within = omega (arith, low, high)

    at : index ≡ word_index_of n r.window bank to (me r) (index - row_begins r bank to)
    at = omega (arith, low)

-- and none but those
pub only_there : (d : Lone) (bank to k : ℕ) → IsKept d.member.replica d.words → IsLastSent d to k
    → bank_of d.member.replica k ≡ bank → (row_begins d.member.replica bank to ≤ k)
    × (k < row_begins d.member.replica bank to + columns_of d.member.replica.roster d.member.replica.window)
only_there d bank to k kept sent at = (omega (arith, place), omega (arith, place, mod_below k columns (omega arith)))
  where
    r : Replica
    r = d.member.replica

    n : ℕ
    n = r.roster

    columns : ℕ
    columns = columns_of n r.window

    row : row_in n r.window k ≡ me r
    row = by (cases_eq (row_in n r.window k) (me r))
      where
        by : (row_in n r.window k ≡ me r) ⊎ (row_in n r.window k ≢ me r) → row_in n r.window k ≡ me r
        by (inl same) = same
        by (inr other) = absurd (sent.some (kept.places.rest k (λ e. sent.other (sym sent.copy ∙ e)) other))

    place : ((bank * n + to) * n + me r) * columns + k % columns ≡ k
    place = ap (λ x. (x * n + me r) * columns + k % columns)
        ((λ z. sym at z * n + sym sent.copy z) ∙ div-add-mod' (k / columns / n) n)
        ∙ ap (λ x. x * columns + k % columns) (ap (λ x. k / columns / n * n + x) (sym row) ∙ div-add-mod' (k / columns) n)
        ∙ div-add-mod' k columns

-- where the words for another begin in a bank, of so many columns
pub record IsAtBank (d : Lone) (bank to first columns : ℕ) : Type 0 where
  pub kept : IsKept d.member.replica d.words
  pub number : me d.member.replica < d.member.replica.roster
  pub within : bank < d.member.replica.banks
  pub copy : to < d.member.replica.roster
  pub begins : first ≡ row_begins d.member.replica bank to
  pub wide : columns ≡ columns_of d.member.replica.roster d.member.replica.window
