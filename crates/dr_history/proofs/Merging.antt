-- The merge of all that was sent in a view is what is laid of it, and where all messages are laid it is
-- what is laid so far.
use Rattle.std.proofs.Common.{Contains, ℕ, ◌≤◌, length, map, ◌≡◌, ap, ◌∙◌, ◌-◌, ◌/◌, ◌%◌, nat_lt, List, slice_index, Some, slice_get, refl, sym, arith, false, Option, None, subst, ◌*◌, max, fold, le_refl}
use Rattle.std.proofs.lemmas.{List.length-map, Option.{slice_get_past, slice_get_within}}
use Rattle.dr_entry.{specs.declared.end.SentItem.SentItem, proofs.ListFacts.top_place}
use Rattle.dr_entry.proofs.{ListPlaces.{count-rank, Contains-slice_get, count_max}, RankPlaces.rounds-le}
use Rattle.dr_history.{specs.{History.{GroupView, Sent, item_at}, Places.is_held}, proofs.Indices.item_at-parts}

-- counts by member that leave out no item that was sent
abbrev pub CountsAll : Sent → GroupView → (ℕ → ℕ) → Type 0
CountsAll sent v counts = (s : ℕ) → Contains v.members s → length (sent s v.number) ≤ counts s

-- whether a place is held, by its member
pub is_held-member : (counts : ℕ → ℕ) (ms : List ℕ) (q s : ℕ) → slice_get ms (q % length ms) ≡ Some s
    → is_held (map counts ms) q ≡ nat_lt (q / length ms) (counts s)
is_held-member counts ms q s e = ap (λ n. nat_lt (q / n) (slice_index (map counts ms) (q % n))) (length-map ms counts)
    ∙ ap (nat_lt (q / length ms)) (count-rank counts ms (q % length ms) s e)

-- a place that isn't held by such counts has no item
pub not_held-none : (sent : Sent) (v : GroupView) (counts : ℕ → ℕ) (q : ℕ) → CountsAll sent v counts
    → is_held (map counts v.members) q ≡ false → item_at sent v q ≡ None
not_held-none sent v counts q all gap = by (slice_get v.members (q % length v.members)) refl
  where
    past : (s : ℕ) → slice_get v.members (q % length v.members) ≡ Some s → length (sent s v.number)
        ≤ q / length v.members
    past s e =
        let test : nat_lt (q / length v.members) (counts s)
        ≡ false = sym (is_held-member counts v.members q s e) ∙ gap in
        let less = all s (Contains-slice_get v.members (q % length v.members) s e) in grind (arith, test, less)

    by : (z : Option ℕ) → slice_get v.members (q % length v.members) ≡ z → item_at sent v q ≡ None
    by None e = rw e refl
    by (Some s) e =
        let none : slice_get (sent s v.number) (q / length v.members)
        ≡ None = slice_get_past (sent s v.number) (q / length v.members) (past s e) in
        rw (e, none) refl

-- no item stands there or further on
pub none_above : (sent : Sent) (v : GroupView) (counts : ℕ → ℕ) (q : ℕ) → CountsAll sent v counts
    → top_place (map counts v.members) ≤ q → item_at sent v q ≡ None
none_above sent v counts q all l = by (item_at sent v q) refl
  where
    no : (s : ℕ) (item : SentItem) → item_at sent v q ≡ Some (s, item) → ⊥
    no s item e =
        let rank = q % length v.members in
        let parts = item_at-parts sent v q s item e in
        let within = slice_get_within v.members rank s parts.0 in
        let most = count_max (map counts v.members) 0 rank (omega (arith, within, length-map v.members counts)) in
        let rounds : length v.members * fold max 0 (map counts v.members) ≤ q =
        subst (λ n. n * fold max 0 (map counts v.members) ≤ q) (length-map v.members counts) l in
        omega (
          arith,
          most,
          count-rank counts v.members rank s parts.0,
          all s (Contains-slice_get v.members rank s parts.0),
          slice_get_within (sent s v.number) (q / length v.members) item parts.1,
          rounds-le (length v.members) (fold max 0 (map counts v.members)) q (omega (arith, within)) rounds,
        )

    by : (z : Option (ℕ × SentItem)) → item_at sent v q ≡ z → item_at sent v q ≡ None
    by None e = e
    by (Some (s, item)) e = absurd (no s item e)

-- the counts of what was sent
pub CountsAll-sent : (sent : Sent) (v : GroupView) → CountsAll sent v (λ s. length (sent s v.number))
CountsAll-sent sent v s member = le_refl (length (sent s v.number))
