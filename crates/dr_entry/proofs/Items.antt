-- Items, and which of them are null.
use Rattle.std.specs.Prelude.{nat_lt, slice_set, Option}
use Rattle.std.proofs.Common.{◌≡◌, Bool, true, false, cond, ◌&&◌, Some, None, is_some, refl, IsSome, ℕ, zero, suc, ◌<◌, List, [], ◌∷◌, length, replicate, get_or, arith, ◌≤◌, set, ◌∙◌, ◌+◌, ◌*◌, le_refl, le_trans, if◌then◌else◌, ◌==◌, inl, inr, slice_index_or, ◌↔◌}
use Rattle.std.proofs.{Math.Nat.suc-mul, lemmas.Bool.{cases_eq, Decides.nat_tests}}
use Rattle.std.proofs.lemmas.{List.{get_or-set_same, get_or-set_other}, Nat.{mul-le, mul-add-lt, same_from_place}}
use Rattle.dr_entry.{specs.declared.entry.Item.{Item, TheVariants.Null}, proofs.ListFacts.counts_rise}
use Rattle.dr_entry.proofs.NumberFacts.{same_number, other_number}

pub some_rest : (a b : Bool) (x : Item) → a ≡ true → is_some (cond (a && b) (Some x) None) ≡ b
some_rest true true x e = refl
some_rest true false x e = refl
some_rest false b x e = absurd (cc)

pub some_three : (a b c : Bool) (x : Item) → IsSome (cond (a && (b && c)) (Some x) None)
    → (a ≡ true) × (b ≡ true) × (c ≡ true)
some_three true true true x s = (refl, refl, refl)
some_three true true false x s = absurd (cc)
some_three true false c x s = absurd (cc)
some_three false b c x s = absurd (cc)

-- items that are each a null are as many nulls
pub all_null : (items : List Item) (n : ℕ) → length items ≡ n
    → ((k : ℕ) → k < n → get_or items k Null ≡ Null) → items ≡ replicate n Null
all_null [] zero e all = refl
all_null [] (suc n) e all = absurd (omega (arith, e))
all_null (x ∷ items) zero e all = absurd (omega (arith, e))
all_null (x ∷ items) (suc n) e all =
    let first : x ≡ Null = all 0 (omega arith) in
    let rest = all_null items n (omega (arith, e)) (λ k l. all (suc k) (omega (arith, l))) in cc (first, rest)

-- behind the items of all members there are nulls with an item more too
pub nulls_after : (counts : List ℕ) (items : List Item) (roster s c : ℕ) (item : Item) → s < length counts
    → s < roster → get_or counts s 0 ≤ c
    → ((k : ℕ) → ((j : ℕ) → get_or counts j 0 * roster ≤ k) → get_or items k Null ≡ Null)
    → (k : ℕ) → ((j : ℕ) → get_or (set counts s (c + 1)) j 0 * roster ≤ k)
    → get_or (set items (c * roster + s) item) k Null ≡ Null
nulls_after counts items roster s c item there within le nulls k behind =
    let mine = behind s in
    let new = get_or-set_same counts s (c + 1) 0 there in
    let past : (c + 1) * roster ≤ k = rw new at mine in
    get_or-set_other items (c * roster + s) k item Null (λ e. absurd (omega (arith, past, e, suc-mul c roster)))
    ∙ nulls k (λ j. le_trans (mul-le (get_or counts j 0) roster (get_or (set counts s (c + 1)) j 0) roster
    (counts_rise counts s (c + 1) j there (omega (arith, le))) (le_refl roster)) (behind j))

pub item_shown : (n s : ℕ) (x : Item) → s < n → (if nat_lt s n then x else Null) ≡ x
item_shown n s x within =
    let test : nat_lt s n ≡ true = grind (arith, nat_tests, within) in rw test refl

-- the items with one of them set; that of another place stays
pub item_set : (items : List Item) (n k s : ℕ) (x : Item) (most l t : ℕ) → length items ≡ most * n
    → k < most → s < n → t < n → slice_index_or (slice_set items (k * n + s) x) (l * n + t) Null ≡ (if t == s then
    (if l == k then x else slice_index_or items (l * n + t) Null) else slice_index_or items (l * n + t) Null)
item_set items n k s x most l t len few row other = elim (cases_eq t s) [
  | inr apart ↦ rw (other_number t s apart)
      (get_or-set_other items (k * n + s) (l * n + t) x Null (λ e. apart (same_from_place l t k s n other row e).1))
  | inl same ↦ rw (same, same_number s) (elim (cases_eq l k) [
    | inr apart ↦ rw (other_number l k apart)
        (get_or-set_other items (k * n + s) (l * n + s) x Null (λ e. apart (same_from_place l s k s n row row e).0))
    | inl here ↦ rw (here, same_number k)
        (get_or-set_same items (k * n + s) x Null (omega (arith, len, mul-add-lt k n s most few row)))
  ])
]

pub some_test : (o : Option Item) → (is_some o ≡ true) ↔ IsSome o
some_test None = (λ e. absurd (cc), λ s. absurd (cc))
some_test (Some x) = (λ e. refl, λ s. refl)
