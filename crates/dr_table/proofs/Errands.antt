-- How words, slots and errands stand after a step of one seat.
use Rattle.std.{specs.Prelude.{Option, None, Some, slice_get, slice_set}, proofs.lemmas.Bool.cases_eq}
use Rattle.std.proofs.Common.{◌≡◌, ◌≢◌, ◌⊎◌, inl, inr, sym, ap, ◌∙◌, subst, ℕ, ◌<◌, true, false, true≢false, List, slice_index, length, arith}
use Rattle.std.proofs.lemmas.{List.{get_or-set_other, get_or-set_same}, Option.{same_Some, slice_get_within}}
use Rattle.dr_entry.{specs.declared.entry.Entry.Entry, proofs.ListPlaces.{replica_kept, replica_set, at_set}}
use Rattle.dr_history.specs.Members.{has}
use Rattle.dr_machine.specs.Group.{Group, late_members}
use Rattle.dr_program.{specs.{Presence.present_at, Reading.letters_of, Running.Running}, proofs.Present.AreFurther}
use Rattle.dr_table.specs.{Slots.{HaveSlots, IsAbout, IsPosted, Slot, slot_number}, declared.rule.Errand.Errand}
use Rattle.dr_table.specs.declared.rule.View.{View}
use mathlib.Core.Option.{Option as Maybe}
use lib.ListN.{get_elem?}

-- ---- no word and no slot changes

-- a seat that was about nothing is about this, or nothing still
pub slots_stay : (g : Group) (members after : List (Option Running)) (letters : List (Option (List Entry)))
    (most : ℕ) (flags : List ℕ) (homes : List (Maybe Slot)) (views : List View) (id : ℕ) (v w : View)
    → slice_get views id ≡ Some v → v.errand ≡ None → AreFurther members after
    → ((e : Errand) → w.errand ≡ Some e → IsAbout letters flags w.members e)
    → HaveSlots g members letters most flags homes views
    → HaveSlots g after letters most flags homes (slice_set views id w)
slots_stay g members after letters most flags homes views id v w is free further about h = record {
  late = h.late;
  others = h.others;
  abouts = λ s u e at busy. elim (at_set views id s w u at) [
    | inl here ↦ subst (λ (z : View). IsAbout letters flags z.members e) here.1
        (about e (ap (λ (z : View). z.errand) here.1 ∙ busy))
    | inr other ↦ h.abouts s u e other.1 busy
  ];
  out = λ j at. let (s, u, e, there, busy, named) = h.out j at in (
    s,
    u,
    e,
    replica_kept views id s w (λ same. cc (
      free,
      busy,
      ap (λ (z : View). z.errand) (same_Some v u (sym is ∙ ap (slice_get views) (sym same) ∙ there)),
    )) ∙ there,
    busy,
    named,
  );
  joined = λ j x at there.
      let (r, was, later, room) = further j x there in
      let first = h.joined j r at was in omega (arith, later, first);
  room = λ m x there.
      let (r, was, later, room) = further m x there in
      let most = h.room m r was in omega (arith, room, most);
}

-- ---- the word and the slot of one late member change

-- they change so, by a seat that was about this member's letter or nothing, while no other is about it
pub record SlotChange (g : Group) (members after : List (Option Running)) (letters posts : List (Option (List Entry)))
    (most : ℕ) (flags : List ℕ) (homes cells : List (Maybe Slot)) (views : List View) (id : ℕ) (v w : View)
    (j word : ℕ) : Type 0 where
  pub late : has (late_members g) j ≡ true
  pub within : j < length flags
  pub is : slice_get views id ≡ Some v
  pub mine : (e : Errand) → v.errand ≡ Some e → e.late ≡ j
  pub alone : (s : ℕ) (u : View) (e : Errand) → s ≢ id → slice_get views s ≡ Some u → u.errand ≡ Some e → e.late ≢ j
  pub posts_stay : (i : ℕ) → i ≢ j → letters_of posts i ≡ letters_of letters i
  pub homes_stay : (i : ℕ) → has (late_members g) i ≡ true → i ≢ j
      → get_elem? cells (slot_number (late_members g) i) ≡ get_elem? homes (slot_number (late_members g) i)
  pub posted : IsPosted most word (get_elem? cells (slot_number (late_members g) j)) (letters_of posts j)
  pub further : AreFurther members after
  pub about : (e : Errand) → w.errand ≡ Some e → IsAbout posts (slice_set flags j word) w.members e
  pub out : (word ≡ 1) ⊎ (word ≡ 3) → (e : Errand) × (w.errand ≡ Some e) × (e.late ≡ j)
  pub joined : (x : Running) → word ≡ 4 → present_at after j ≡ Some x → 0 < x.replica.view

pub slots_changed : (g : Group) (members after : List (Option Running)) (letters posts : List (Option (List Entry)))
    (most : ℕ) (flags : List ℕ) (homes cells : List (Maybe Slot)) (views : List View) (id : ℕ) (v w : View)
    (j word : ℕ) → SlotChange g members after letters posts most flags homes cells views id v w j word
    → HaveSlots g members letters most flags homes views
    → HaveSlots g after posts most (slice_set flags j word) cells (slice_set views id w)
slots_changed g members after letters posts most flags homes cells views id v w j word c h = record {
  late = λ i late. elim (cases_eq i j) [
    | inl same ↦ subst (λ k. IsPosted most (slice_index (slice_set flags j word) k)
        (get_elem? cells (slot_number (late_members g) k)) (letters_of posts k)) (sym same)
        (subst (λ n. IsPosted most n (get_elem? cells (slot_number (late_members g) j)) (letters_of posts j)) (sym here)
        c.posted)
    | inr other ↦ subst (λ n. IsPosted most n (get_elem? cells (slot_number (late_members g) i)) (letters_of posts i))
        (sym (apart i other))
        (subst (λ o. IsPosted most (slice_index flags i) o (letters_of posts i)) (sym (c.homes_stay i late other))
        (subst (IsPosted most (slice_index flags i) (get_elem? homes (slot_number (late_members g) i)))
        (sym (c.posts_stay i other)) (h.late i late)))
  ];
  others = λ i no. apart i (λ same. true≢false (sym c.late ∙ ap (has (late_members g)) (sym same) ∙ no))
      ∙ h.others i no;
  abouts = λ s u e at busy. elim (at_set views id s w u at) [
    | inl mine ↦ subst (λ (z : View). IsAbout posts (slice_set flags j word) z.members e) mine.1
        (c.about e (ap (λ (z : View). z.errand) mine.1 ∙ busy))
    | inr other ↦
        let was = h.abouts s u e other.1 busy in
        let away = c.alone s u e other.0 other.1 busy in record {
          word = apart e.late away ∙ was.word;
          begun = was.begun;
          member = was.member;
          letter = λ three. c.posts_stay e.late away ∙ was.letter three;
        }
  ];
  out = λ i at. elim (cases_eq i j) [
    | inl same ↦
        let now : slice_index (slice_set flags j word) i ≡ word =
        ap (slice_index (slice_set flags j word)) same ∙ here in
        let (e, busy, named) = c.out (which (slice_index (slice_set flags j word) i) word now at) in
        (id, w, e, set, busy, named ∙ sym same)
    | inr other ↦
        let (s, u, e, there, busy, named) =
        h.out i (which (slice_index (slice_set flags j word) i) (slice_index flags i) (apart i other) at) in (
          s,
          u,
          e,
          replica_kept views id s w (λ same. other (sym named ∙ c.mine e (ap (λ (z : View). z.errand)
              (same_Some v u (sym c.is ∙ ap (slice_get views) (sym same) ∙ there)) ∙ busy))) ∙ there,
          busy,
          named,
        )
  ];
  joined = λ i x at there. elim (cases_eq i j) [
    | inl same ↦ c.joined x (sym here ∙ ap (slice_index (slice_set flags j word)) (sym same) ∙ at)
        (ap (present_at after) (sym same) ∙ there)
    | inr other ↦
        let (r, was, later, room) = c.further i x there in
        let first = h.joined i r (sym (apart i other) ∙ at) was in omega (arith, later, first)
  ];
  room = λ m x there.
      let (r, was, later, room) = c.further m x there in
      let most = h.room m r was in omega (arith, room, most);
}
  where
    here : slice_index (slice_set flags j word) j ≡ word
    here = get_or-set_same flags j word 0 c.within

    apart : (i : ℕ) → i ≢ j → slice_index (slice_set flags j word) i ≡ slice_index flags i
    apart i other = get_or-set_other flags j i word 0 other

    set : slice_get (slice_set views id w) id ≡ Some w
    set = replica_set views id w (slice_get_within views id v c.is)

    which : (a b : ℕ) → a ≡ b → (a ≡ 1) ⊎ (a ≡ 3) → (b ≡ 1) ⊎ (b ≡ 3)
    which a b same (inl one) = inl (sym same ∙ one)
    which a b same (inr three) = inr (sym same ∙ three)
