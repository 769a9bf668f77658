-- A view that ends with a cut: of each member so many of its first items, and no more.
use Rattle.std.proofs.Common.{ℕ, ◌==◌, take, if◌then◌else◌, ◌≡◌, refl, true, eq-eqb, ◌≢◌, false, ne_eqb, ap, ◌∙◌, ◌<◌, slice_get, arith, length, sym, ◌/◌, ◌%◌, nat_lt, map, Option, None, Some, List, ◌-◌}
use Rattle.std.proofs.{Math.Nat.mul-zero, lemmas.List.length-take}
use Rattle.dr_entry.{specs.declared.entry.Entry.{Entry, TheVariants.View}, proofs.ListFacts.none_most}
use Rattle.dr_entry.proofs.ListPlaces.{slice_get-take}
use Rattle.dr_history.specs.{History.{GroupView, Sent, item_at}, Members.has, Places.{is_held, first, front_of}}
use Rattle.dr_history.{specs.declared.opening.Opening.Opening, proofs.Merging.{CountsAll, is_held-member}}

-- what was sent, with the items of a view cut behind those that are taken
abbrev pub cut : Sent → GroupView → (ℕ → ℕ) → Sent
cut sent v taken s n = if n == v.number then take (taken s) (sent s n) else sent s n

pub cut_here : (sent : Sent) (v : GroupView) (taken : ℕ → ℕ) (s : ℕ) → cut sent v taken s v.number
    ≡ take (taken s) (sent s v.number)
cut_here sent v taken s = let e : (v.number == v.number) ≡ true = eq-eqb v.number v.number refl in rw e refl

pub cut_elsewhere : (sent : Sent) (v : GroupView) (taken : ℕ → ℕ) (s n : ℕ) → n ≢ v.number
    → cut sent v taken s n ≡ sent s n
cut_elsewhere sent v taken s n other = let e : (n == v.number) ≡ false = ne_eqb n v.number other in
    rw e refl

-- an item within the cut
cut_item : (sent : Sent) (v : GroupView) (taken : ℕ → ℕ) (s k : ℕ) → k < taken s
    → slice_get (cut sent v taken s v.number) k ≡ slice_get (sent s v.number) k
cut_item sent v taken s k l = ap (λ items. slice_get items k) (cut_here sent v taken s)
    ∙ slice_get-take (taken s) (sent s v.number) k l

-- and has no more items than are taken
pub cut_counts : (sent : Sent) (v : GroupView) (taken : ℕ → ℕ) → CountsAll (cut sent v taken) v taken
cut_counts sent v taken s member =
    omega (arith, ap length (cut_here sent v taken s), length-take (taken s) (sent s v.number))

-- the item of a held place is not cut off
pub cut_held : (sent : Sent) (v : GroupView) (taken : ℕ → ℕ) (q : ℕ) → is_held (map taken v.members) q ≡ true
    → item_at (cut sent v taken) v q ≡ item_at sent v q
cut_held sent v taken q held = by (slice_get v.members (q % length v.members)) refl
  where
    less : (s : ℕ) → slice_get v.members (q % length v.members) ≡ Some s → q / length v.members < taken s
    less s e =
        let test : nat_lt (q / length v.members) (taken s)
        ≡ true = sym (is_held-member taken v.members q s e) ∙ held in
        grind (arith, test)

    by : (z : Option ℕ) → slice_get v.members (q % length v.members) ≡ z
        → item_at (cut sent v taken) v q ≡ item_at sent v q
    by None e = rw e refl
    by (Some s) e = rw (e, cut_item sent v taken s (q / length v.members) (less s e)) refl

-- the front of no items is 0
pub front_of_none : (ms : List ℕ) → front_of (map (λ (s : ℕ). 0) ms) ≡ 0
unfolding front_of first
front_of_none ms =
    let ranks : ℕ = length (map {A = ℕ} {B = ℕ} (λ s. 0) ms) in rw (none_most ms) (rw (mul-zero ranks) refl)

-- an entry that passes names the member in no View of the age
abbrev pub Spares : ℕ → ℕ → Entry → Type 0
Spares age j e = (number members : ℕ) → e ≡ View age number members → has members j ≡ false

-- an opening with the messages of another
abbrev pub with_messages : Opening → List (List (List ℕ)) → Opening
with_messages o messages = record o { messages = messages }
