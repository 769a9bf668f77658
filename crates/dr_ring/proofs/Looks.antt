-- What a member sees of an item that another has put.
use Rattle.std.{specs.List.list_any, proofs.lemmas.Bool.Decides.nat_tests}
use Rattle.std.proofs.Common.{◌≡◌, ◌≢◌, ℕ, ◌+◌, ◌<◌, ◌≤◌, Bool, true, false, cond, ◌==◌, List, [], ◌∷◌, length, get_or, Some, None, refl, sym, ap, subst, ◌∙◌, arith}
use Rattle.dr_words.specs.{Packing.{ring_word, ring_tag}, declared.column.TheConstants.PIECES}
use Rattle.dr_entry.{specs.declared.entry.Item.Item, proofs.{Fields.IsItem, NumberFacts.merged}}
use Rattle.dr_rows.specs.Words.{Words, IsGrid, looked, own, word_at, with_word}
use Rattle.dr_rows.proofs.Grids.{with_word-same, with_word-column, IsGrid-with_word}
use Rattle.dr_ring.specs.{Arrival.{Awaits, after_looks, has_all}, Slots.{slot_column, slot_of, with_item, item_in}}
use Rattle.dr_ring.{specs.Pieces.pieces, proofs.{Arrivals.item_in-come, Items.few_pieces, Writes.{HasSlot, own_set}}}

-- the word that one look leaves at a part of the slot
one_look : (window : ℕ) (w : Words) (me k column p v part : ℕ) → IsGrid w.members w.columns w.words
    → me < w.members → column ≡ slot_column w.members window k + p
    → slot_column w.members window k + PIECES ≤ w.columns → part < PIECES
    → slot_of window (looked w me column v) me k part ≡ cond (p == part) v (slot_of window w me k part)
one_look window w me k column p v part grid present at room lt = by (p == part) refl
  where
    by : (b : Bool) → (p == part) ≡ b → slot_of window (looked w me column v) me k part
        ≡ cond (p == part) v (slot_of window w me k part)
    by true e =
        let here : p ≡ part = grind (arith, nat_tests) in
        let place : slot_column w.members window k + part ≡ column = omega (arith, at, here) in
        rw e (ap (λ (c : ℕ). word_at (with_word w.words me column v) me c) place
        ∙ with_word-same w.members w.columns w.words me column v grid present (omega (arith, place)))
    by false e =
        let other : p ≢ part = grind (arith, nat_tests) in
        rw e (with_word-column w.words me column v me (slot_column w.members window k + part) (omega (arith, at)))

-- a part that was looked at is as the owner has it, and another is as before
looks_slot : (window : ℕ) (owner : Words) (k : ℕ) (parts : List ℕ) (w : Words) (part : ℕ)
    → IsGrid w.members w.columns w.words → owner.me < w.members → w.members ≡ owner.members
    → slot_column w.members window k + PIECES ≤ w.columns → part < PIECES
    → slot_of window (after_looks window owner k w parts) owner.me k part
    ≡ cond (list_any (λ p. p == part) parts) (slot_of window owner owner.me k part) (slot_of window w owner.me k part)
looks_slot window owner k [] w part grid present same room lt = refl
looks_slot window owner k (p ∷ parts) w part grid present same room lt =
    let column : ℕ = slot_column owner.members window k + p in
    let word : ℕ = own owner column in
    let at : column ≡ slot_column w.members window k + p = rw same refl in
    let theirs : ℕ = slot_of window owner owner.me k part in
    let some : Bool = list_any (λ q. q == part) parts in
    looks_slot window owner k parts (looked w owner.me column word) part
    (IsGrid-with_word w.members w.columns w.words owner.me column word grid present) present same room lt
    ∙ ap (λ (x : ℕ). cond some theirs x) (one_look window w owner.me k column p word part grid present at room lt)
    ∙ merged (p == part) some theirs word (slot_of window w owner.me k part)
    (λ e. let here : p ≡ part = grind (arith, nat_tests) in
    ap (λ (q : ℕ). slot_of window owner owner.me k q) here)

-- whichever parts another member looks at, it sees the item exactly once it has looked at all that the item
-- needs
pub item_arrives : (window : ℕ) (old : Words) (k : ℕ) (item : Item) → HasSlot window old k
    → slot_column old.members window k + PIECES ≤ old.columns → old.me < old.members → IsItem item
    → (w : Words) (parts : List ℕ) → Awaits window (with_item window old k item) k w
    → item_in k (slot_of window (after_looks window (with_item window old k item) k w parts) old.me k)
    ≡ cond (has_all item parts) (Some item) None
item_arrives window old k item slot room present is w parts awaits =
    item_in-come k item (slot_of window (after_looks window (with_item window old k item) k w parts) old.me k)
    (λ part. list_any (λ p. p == part) parts) is (record { here = here; earlier = earlier })
  where
    seen_at : (part : ℕ) → part < length (pieces item) → slot_of window (after_looks window
        (with_item window old k item) k w parts) old.me k part ≡ cond (list_any (λ p. p == part) parts)
        (slot_of window (with_item window old k item) old.me k part) (slot_of window w old.me k part)
    seen_at part lt = looks_slot window (with_item window old k item) k parts w part awaits.form.rows
        (rw awaits.members present) awaits.members (rw (awaits.members, awaits.columns) room)
        (omega (arith, few_pieces item is))

    here : (part : ℕ) → part < length (pieces item) → list_any (λ p. p == part) parts ≡ true
        → slot_of window (after_looks window (with_item window old k item) k w parts) old.me k part
        ≡ ring_word k (get_or (pieces item) part 0)
    here part lt e = seen_at part lt
        ∙ ap (λ (b : Bool). cond b (slot_of window (with_item window old k item) old.me k part)
        (slot_of window w old.me k part)) e ∙ own_set window old k (pieces item) part slot lt

    earlier : (part : ℕ) → part < length (pieces item) → list_any (λ p. p == part) parts ≡ false
        → ring_tag (slot_of window (after_looks window (with_item window old k item) k w parts) old.me k part) ≤ k
    earlier part lt e =
        let as_before = seen_at part lt ∙ ap (λ (b : Bool). cond b
        (slot_of window (with_item window old k item) old.me k part) (slot_of window w old.me k part)) e in
        subst (λ (x : ℕ). ring_tag x ≤ k) (sym as_before) (awaits.earlier part (omega (arith, few_pieces item is)))
