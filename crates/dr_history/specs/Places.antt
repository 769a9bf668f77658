-- The round robin of a view: item 0 of each member by ascending rank, then item 1 of each, and so on.
-- A rank is a member's position among the members of the view, and counts are listed by rank.
use Rattle.std.specs.List.{range_with_len}
use Rattle.std.specs.Prelude.{cond, ℕ, zero, suc, ◌+◌, ◌-◌, ◌*◌, ◌/◌, ◌%◌, ◌<◌, ◌≤◌, Bool, not, nat_lt, max, List, length, slice_index, filter, fold}

-- the place of item k of the member of this rank, where the view has so many ranks
abbrev pub place_of : ℕ → ℕ → ℕ → ℕ
place_of ranks rank k = k * ranks + rank

-- every place below p holds an item, where each rank has sent as many items as its count
abbrev pub AllHeldBelow : List ℕ → ℕ → Type 0
AllHeldBelow counts p =
    (rank k : ℕ) → rank < length counts → place_of (length counts) rank k < p → k
    < slice_index counts rank

-- the front of the counts: the greatest place below which every place holds an item
pub record IsFront (counts : List ℕ) (front : ℕ) : Type 0 where
  pub held : AllHeldBelow counts front
  pub greatest : (p : ℕ) → AllHeldBelow counts p → p ≤ front

-- whether the place holds an item
abbrev pub is_held : List ℕ → ℕ → Bool
is_held counts p = nat_lt (p / length counts) (slice_index counts (p % length counts))

-- the places that hold an item, ascending
unfoldable pub held_places : List ℕ → List ℕ
held_places counts = filter (is_held counts) (range_with_len 0 (length counts * fold max 0 counts))

-- those of them that are not below p, ascending: what a merge has left for who has come to place p
unfoldable pub rest_places : List ℕ → ℕ → List ℕ
rest_places counts p =
    filter (is_held counts) (range_with_len p (length counts * fold max 0 counts - p))

-- the least of the k numbers from n on that passes the test, and n + k where none does
unfoldable pub first : (ℕ → Bool) → ℕ → ℕ → ℕ
first p n zero = n
first p n (suc k) = cond (p n) n (first p (suc n) k)

-- the front of the counts as a number: the first place that holds no item
unfoldable pub front_of : List ℕ → ℕ
front_of counts = first (λ p. not (is_held counts p)) 0 (length counts * fold max 0 counts)
