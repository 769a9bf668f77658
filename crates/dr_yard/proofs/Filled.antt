-- The places of a yard as they are filled.
use Rattle.std.proofs.Common.{◌≡◌, refl, sym, ap, ◌∙◌, subst, ⊎_elim, ℕ, ◌+◌, ◌<◌, ◌≤◌, false, arith, List, [], ◌∷◌, ◌++◌, length, map, take, None}
use Rattle.std.proofs.lemmas.{Bool.cases_lt, List.{get_or_append_left, get_or_at, get_or-map, get_or-take}}
use Rattle.dr_disk.specs.Memory.{MemoryState}
use Rattle.dr_io.specs.Plan.{plan_of}
use Rattle.dr_yard.specs.{Memory.{IsEmptyDisk, is_lent, place_of}, declared.berth.Berth.Berth}
use Rattle.dr_yard.specs.declared.berth.Berth.TheVariants.{Here, Lent}

-- one place more has an empty disk
pub one_more_empty : (places : List Berth) (p : Berth) (held n : ℕ) → length places ≡ n
    → ((m : ℕ) → held ≤ m → m < n → IsEmptyDisk (place_of places m)) → IsEmptyDisk p
    → (m : ℕ) → held ≤ m → m < n + 1 → IsEmptyDisk (place_of (places ++ p ∷ []) m)
one_more_empty places p held n count so_far empty m from below = ⊎_elim (λ (l : m < length places). subst IsEmptyDisk
    (sym (get_or_append_left places (p ∷ []) (Lent 0) m l)) (so_far m from (omega (arith, l, count))))
    (λ (l : length places ≤ m). subst IsEmptyDisk
    (sym (get_or_at places p [] (Lent 0) m (omega (arith, l, count, below)))) empty) (cases_lt m (length places))

empty_here : (p : Berth) → IsEmptyDisk p → is_lent p ≡ false
empty_here (Here disk) empty = refl
empty_here (Lent faults) empty = absurd empty

-- the first places have these disks, and the others empty ones: so none is lent
pub all_here : (places : List Berth) (disks : List MemoryState) (held : ℕ) → length disks ≡ held
    → take held places ≡ map (λ disk. Here disk) disks
    → (n : ℕ) → ((m : ℕ) → held ≤ m → m < n → IsEmptyDisk (place_of places m))
    → (m : ℕ) → m < n → is_lent (place_of places m) ≡ false
all_here places disks held count same n empty m below = ⊎_elim (λ (l : m < held). ap is_lent
    (sym (get_or-take held places m (Lent 0) l) ∙ ap (λ (ps : List Berth). place_of ps m) same
    ∙ get_or-map (λ disk. Here disk) disks m none (Lent 0) (omega (arith, l, count))))
    (λ (l : held ≤ m). empty_here (place_of places m) (empty m l below)) (cases_lt m held)
  where
    none : MemoryState
    none = record { calls = []; room_calls = 0; room_bytes = 0; plan = plan_of []; stop = None }
