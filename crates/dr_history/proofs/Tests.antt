-- Tests of a mask's members: what they gather, and which of them pass.
use Rattle.std.specs.List.{list_all, Contains, All}
use Rattle.std.proofs.Common.{◌≡◌, refl, ◌∙◌, ℕ, zero, suc, Bool, true, cond, [], ◌∷◌, sym, ap, ◌<◌, inl, inr, arith, List, map, ◌+◌, ◌⊎◌, ◌++◌, if◌then◌else◌, false, append-nil, subst, slice_index_or, length, slice_index}
use Rattle.std.proofs.lemmas.{Bool.{and_from, and_parts}, List.{map-append, Folds.list_all-append}}
use Rattle.std.proofs.lemmas.List.Elements.{Contains-append_left, Contains-push, Contains-push_cases, Contains-get_or}
use Rattle.dr_entry.proofs.{ListFacts.{one_passes, passes_one}, NumberFacts.below_or_last}
use Rattle.dr_history.specs.Members.{has, members_below, members_of}

all_below : (p : ℕ → Bool) (mask n : ℕ) → ((i : ℕ) → has mask i ≡ true → p i ≡ true)
    → list_all p (members_below mask n) ≡ true
unfolding members_below
all_below p mask zero each = refl
all_below p mask (suc n) each = list_all-append p (members_below mask n) (cond (has mask n) (n ∷ []) [])
    ∙ and_from _ _ (all_below p mask n each) (one_passes p (has mask n) n (each n))

pub each_below : (p : ℕ → Bool) (mask n i : ℕ) → list_all p (members_below mask n) ≡ true → i < n
    → has mask i ≡ true → p i ≡ true
unfolding members_below
each_below p mask zero i all lt member = absurd (omega arith)
each_below p mask (suc n) i all lt member =
    let two = and_parts _ _ (sym (list_all-append p (members_below mask n) (cond (has mask n) (n ∷ []) [])) ∙ all) in
    elim (below_or_last i n lt) [
      | inl below ↦ each_below p mask n i two.0 below member
      | inr last ↦ rw last (passes_one p (has mask n) n two.1 (ap (has mask) (sym last) ∙ member))
    ]

-- a test that each member of a mask passes is passed by all
pub all_members : (p : ℕ → Bool) (mask : ℕ) → ((i : ℕ) → has mask i ≡ true → p i ≡ true)
    → list_all p (members_of mask) ≡ true
unfolding members_of
all_members p mask each = all_below p mask 16 each

-- the words of a mask's members, by its bits
pub by_bits : (f : ℕ → ℕ) (bits m : ℕ) (words : List ℕ) → words ≡ map f (members_of bits) → bits ≡ m
    → words ≡ map f (members_of m)
by_bits f bits m words so same = so ∙ ap (λ (n : ℕ). map f (members_of n)) same

pub contains_word : (f : ℕ → ℕ) (m n i : ℕ) → i < n → has m i ≡ true → Contains (map f (members_below m n)) (f i)
unfolding members_below
contains_word f m zero i l h = absurd (omega arith)
contains_word f m (suc n) i l h = rw map-append (by (last_or_below i n l) (λ p. contains_word f m n i p h))
  where
    last_or_below : (j k : ℕ) → j < suc k → (j ≡ k) ⊎ (j < k)
    last_or_below j k p = grind arith

    by : (i ≡ n) ⊎ (i < n) → (i < n → Contains (map f (members_below m n)) (f i))
        → Contains (map f (members_below m n) ++ map f (if has m n then n ∷ [] else [])) (f i)
    by (inl e) rest = rw (← e, h) (Contains-push (map f (members_below m i)) (f i))
    by (inr p) rest = Contains-append_left (map f (members_below m n))
        (map f (if has m n then n ∷ [] else [])) (f i) (rest p)

word_of : (f : ℕ → ℕ) (m n x : ℕ) → Contains (map f (members_below m n)) x → (i : ℕ) × (has m i ≡ true) × (x ≡ f i)
unfolding members_below
word_of f m zero x h = absurd (omega (arith, h.1))
word_of f m (suc n) x h = by (has m n) refl (rw map-append at h) (word_of f m n x)
  where
    by : (b : Bool) → has m n ≡ b → Contains (map f (members_below m n) ++ map f (if has m n then n ∷ [] else [])) x
        → (Contains (map f (members_below m n)) x → (i : ℕ) × (has m i ≡ true) × (x ≡ f i))
        → (i : ℕ) × (has m i ≡ true) × (x ≡ f i)
    by true e c rest = last (Contains-push_cases (map f (members_below m n)) (f n) x (rw e at c))
      where
        last : Contains (map f (members_below m n)) x ⊎ (f n ≡ x) → (i : ℕ) × (has m i ≡ true) × (x ≡ f i)
        last (inl d) = rest d
        last (inr q) = (n, e, sym q)
    by false e c rest = rest (rw append-nil at (rw e at c))

-- what holds of each member's word holds of all words of the list
pub all_words : (P : ℕ → Type 0) (f : ℕ → ℕ) (m : ℕ)
    → ((i : ℕ) → has m i ≡ true → P (f i)) → All P (map f (members_of m))
unfolding members_of
all_words P f m h k d l = let w = word_of f m 16 (slice_index_or (map f (members_below m 16)) k d)
    (Contains-get_or (map f (members_below m 16)) k d l) in
    subst P (sym w.2) (h w.0 w.1)

-- a word of the list is that of some member
pub some_word : (f : ℕ → ℕ) (m x : ℕ) → Contains (map f (members_of m)) x → (i : ℕ) × (has m i ≡ true) × (x ≡ f i)
unfolding members_of
some_word f m x h = word_of f m 16 x h

-- each member below this one has a number as it is to be, and whoever is no member has 0
pub record IsFilledTo (P : ℕ → ℕ → Type 0) (of n : ℕ) (xs : List ℕ) : Type 0 where
  pub size : length xs ≡ 16
  pub below : (k : ℕ) → k < n → has of k ≡ true → P k (slice_index xs k)
  pub others : (k : ℕ) → has of k ≡ false → slice_index xs k ≡ 0
