-- The number of a member in its shard.
use Rattle.std.specs.Prelude.{Some, slice_get}
use Rattle.std.proofs.Common.{◌≡◌, ℕ, zero, suc, ◌+◌, ◌-◌, ◌*◌, ◌/◌, ◌%◌, ◌<◌, true, false, cond, eqb, ltb, [], ◌∷◌, ◌++◌, length, refl, ap, sym, subst, ◌∙◌, arith}
use Rattle.std.proofs.{Math.Nat.mod-lt, lemmas.{Bool.{eq-eqb, ltb-true, ltb-false}, Nat.{div-add-mod', mod-mul-add}}}
use Rattle.dr_entry.proofs.ListPlaces.{slice_get-left, slice_get-seam}
use Rattle.dr_entry.proofs.NumberFacts.{one_below, last_one, none_below}
use Rattle.dr_shards.{specs.Layout.{is_of_shard, shard_members}, proofs.Counting.{count_above, counted, members_more}}

-- of each full row of shards every shard has one member, and of a row begun those that it has come past
counted_by_rows : (shards k n q r : ℕ) → k < shards → r < shards → n ≡ q * shards + r
    → length (shard_members shards k n) ≡ q + cond (ltb k r) 1 0
counted_by_rows shards k zero zero zero small less is = sym (none_below k 0 (omega arith))
counted_by_rows shards k zero zero (suc r) small less is = absurd (omega (arith, is))
counted_by_rows shards k zero (suc q) r small less is = absurd (omega (arith, is))
counted_by_rows shards k (suc n) q (suc r) small less is =
    let e : n ≡ q * shards + r = omega (arith, is) in
    let here : n % shards ≡ r = ap (λ x. x % shards) e ∙ mod-mul-add q shards r (omega arith) in
    let rest = counted_by_rows shards k n q r small (omega arith) e in
    counted shards k n ∙ ap (λ x. length (shard_members shards k n) + cond (eqb x k) 1 0) here
    ∙ omega (arith, rest, one_below k r)
counted_by_rows shards k (suc n) zero zero small less is = absurd (omega (arith, is))
counted_by_rows shards k (suc n) (suc q) zero small less is =
    let e : n ≡ q * shards + (shards - 1) = omega (arith, is, small) in
    let here : n % shards ≡ shards - 1 = ap (λ x. x % shards) e ∙ mod-mul-add q shards (shards - 1) (omega arith) in
    let rest = counted_by_rows shards k n q (shards - 1) small (omega arith) e in
    counted shards k n ∙ ap (λ x. length (shard_members shards k n) + cond (eqb x k) 1 0) here
    ∙ omega (arith, rest, last_one k shards small, none_below k 0 (omega arith))

pub numbered : (shards k n i : ℕ) → 0 < shards → i < n → i % shards ≡ k
    → slice_get (shard_members shards k n) (i / shards) ≡ Some i
numbered shards k zero i some below is = absurd (omega (arith, below))
numbered shards k (suc n) i some below is =
    let longer : suc n ≡ n + 1 = omega arith in
    let more : shard_members shards k (suc n) ≡ shard_members shards k n ++ cond (is_of_shard shards k n) (n ∷ []) []
    = ap (shard_members shards k) longer ∙ members_more shards k n in
    elim (ltb i n) as (λ b. ltb i n ≡ b → slice_get (shard_members shards k (suc n)) (i / shards) ≡ Some i) [
      | true ↦ λ earlier.
          let front = count_above shards k n i some (ltb-true i n earlier) is in
          ap (λ xs. slice_get xs (i / shards)) more
          ∙ slice_get-left (shard_members shards k n) (cond (is_of_shard shards k n) (n ∷ []) []) (i / shards) front
          ∙ numbered shards k n i some (ltb-true i n earlier) is
      | false ↦ λ last.
          let same : i ≡ n = omega (arith, ltb-false i n last, below) in
          let rest : n % shards ≡ k = ap (λ m. m % shards) (sym same) ∙ is in
          let small : k < shards = subst (λ x. x < shards) rest (mod-lt n some) in
          let rows = counted_by_rows shards k n (n / shards) (n % shards) small (mod-lt n some)
          (sym (div-add-mod' n shards)) in
          let count : length (shard_members shards k n) ≡ i / shards
          = omega (arith, rows, none_below k (n % shards) (omega (arith, rest)), ap (λ m. m / shards) same) in
          ap (λ xs. slice_get xs (i / shards)) (more ∙ ap (λ b. shard_members shards k n ++ cond b (n ∷ []) [])
          (eq-eqb (n % shards) k rest)) ∙ ap (slice_get (shard_members shards k n ++ n ∷ [])) (sym count)
          ∙ slice_get-seam (shard_members shards k n) n [] ∙ ap Some (sym same)
    ] refl

pub by_number : (shards members m : ℕ) → 0 < shards → m < members
    → slice_get (shard_members shards (m % shards) members) (m / shards) ≡ Some m
by_number shards members m some there = numbered shards (m % shards) members m some there refl
