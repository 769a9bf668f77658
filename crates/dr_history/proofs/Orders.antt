-- Messages of one member in a history.
use Rattle.std.proofs.Common.{◌≡◌, ℕ, suc, ◌==◌, ◌⊎◌, inl, inr, Bool, true, false, List, [], ◌∷◌, slice_get, Some, refl, ap, ◌≤◌, length, arith, ◌<◌, get_or, sym, ◌∙◌, zero, true≢false}
use Rattle.std.proofs.lemmas.{Bool.{eqb-true, cases_eq}, List.get_or-replicate}
use Rattle.dr_entry.{specs.declared.entry.Entry.{Entry, TheVariants.{View, Msg}}, proofs.ListFacts.none_counted}
use Rattle.dr_history.{specs.{Members.has, Order.{messages_from, AreOfRoster}}, proofs.Bits.has_zero}
use Rattle.dr_history.proofs.Masks.{same_masks}

-- a sender has no messages in a history, or one at some place
pub has_message_or_not : (s : ℕ) (h : List Entry)
    → (messages_from s h ≡ []) ⊎ ((k i : ℕ) × (b : List ℕ) × (slice_get h k ≡ Some (Msg s i b)))
has_message_or_not s [] = inl refl
has_message_or_not s (View a n m ∷ h) = further (has_message_or_not s h)
  where
    further : (messages_from s h ≡ []) ⊎ ((k i : ℕ) × (b : List ℕ) × (slice_get h k ≡ Some (Msg s i b)))
        → (messages_from s (View a n m ∷ h) ≡ [])
        ⊎ ((k i : ℕ) × (b : List ℕ) × (slice_get (View a n m ∷ h) k ≡ Some (Msg s i b)))
    further (inl none) = inl none
    further (inr at) = inr (suc at.0, at.1, at.2, at.3)
has_message_or_not s (Msg sender j c ∷ h) = by (sender == s) refl (has_message_or_not s h)
  where
    by : (t : Bool) → (sender == s) ≡ t → (messages_from s h ≡ []) ⊎ ((k i : ℕ)
        × (b : List ℕ) × (slice_get h k ≡ Some (Msg s i b))) → (messages_from s (Msg sender j c ∷ h) ≡ [])
        ⊎ ((k i : ℕ) × (b : List ℕ) × (slice_get (Msg sender j c ∷ h) k ≡ Some (Msg s i b)))
    by true same rest = inr (0, j, c, ap (λ (z : ℕ). Some (Msg z j c)) (eqb-true sender s same))
    by false apart (inl none) = inl (rw apart none)
    by false apart (inr at) = inr (suc at.0, at.1, at.2, at.3)

-- there are no more messages than entries
pub few_messages : (s : ℕ) (es : List Entry) → length (messages_from s es) ≤ length es
few_messages s [] = omega arith
few_messages s (View a n m ∷ es) = omega (arith, few_messages s es)
few_messages s (Msg sender i b ∷ es) = by (sender == s) refl (few_messages s es)
  where
    by : (x : Bool) → (sender == s) ≡ x → length (messages_from s es) ≤ length es
        → length (messages_from s (Msg sender i b ∷ es)) ≤ length (Msg sender i b ∷ es)
    by true e h = rw e (omega (arith, h))
    by false e h = rw e (omega (arith, h))

-- the numbers of messages of the members are these
abbrev pub Counts : List ℕ → List Entry → Type 0
Counts counts es = (s : ℕ) → s < length counts → get_or counts s 0 ≡ length (messages_from s es)

pub zero_at : (s : ℕ) → s < 16 → get_or none_counted s 0 ≡ length (messages_from s [])
zero_at s l = get_or-replicate 16 s 0 0 l

-- a mask of some members has one
pub some_of : (n mask : ℕ) → AreOfRoster n mask → (m : ℕ) × (has mask m ≡ true)
some_of n mask of = elim (search n) [
  | inl found ↦ found
  | inr none ↦ absurd (omega (arith, of.some, same_masks mask 0 (λ m. out none m (has mask m) refl)))
]
  where
    search : (k : ℕ) → ((m : ℕ) × (has mask m ≡ true)) ⊎ ((m : ℕ) → m < k → has mask m ≡ false)
    search zero = inr (λ m below. absurd (omega arith))
    search (suc k) = by (has mask k) refl (search k)
      where
        by : (b : Bool) → has mask k ≡ b → ((m : ℕ) × (has mask m ≡ true)) ⊎ ((m : ℕ) → m < k → has mask m ≡ false)
            → ((m : ℕ) × (has mask m ≡ true)) ⊎ ((m : ℕ) → m < suc k → has mask m ≡ false)
        by true e rest = inl (k, e)
        by false e (inl found) = inl found
        by false e (inr none) = inr (λ m below. elim (cases_eq m k) [
          | inl here ↦ ap (has mask) here ∙ e
          | inr other ↦ none m (omega arith)
        ])

    out : ((m : ℕ) → m < n → has mask m ≡ false) → (m : ℕ) (b : Bool) → has mask m ≡ b → has mask m ≡ has 0 m
    out none m false e = e ∙ sym (has_zero m)
    out none m true e = absurd (true≢false (sym e ∙ none m (of.within m e)))
