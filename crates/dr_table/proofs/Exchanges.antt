-- The steps with a slot are allowed, one for each kind.
use Rattle.std.specs.{Prelude.{None, Some, Option, Vec, slice_get, slice_set}, declared.alloc.Global.Global}
use Rattle.std.proofs.Common.{◌≡◌, inl, inr, refl, sym, ap, ◌∙◌, subst, ℕ, ◌+◌, [], ◌∷◌, List, slice_index, set-set, arith}
use Rattle.std.proofs.lemmas.{Bool.cases_eq, List.set-get_or, Option.same_Some}
use Rattle.atomic_table.specs.Table.{gives, keeps, takes, put_back, rest, Allows, Me}
use Rattle.dr_entry.{specs.declared.entry.Entry.Entry, proofs.ListPlaces.{behind_read, by_table}}
use Rattle.dr_history.specs.History.{up_to_view}
use Rattle.dr_member.specs.Deeds.{table_size}
use Rattle.dr_program.specs.declared.deed.Deed.TheVariants as deeds
use Rattle.dr_program.specs.Running.{Running, after_step, next_deed, settled, took_letter}
use Rattle.dr_table.{specs.Rule.{HasSuchProgram, number}, proofs.Keeping.{Caught, catch_up, no_slots, went_on}}
use Rattle.dr_table.specs.{Slots.{Slot, slot_number}, declared.rule.{Errand.Errand, View.View}}
use Rattle.dr_table.specs.Steps.{Fetched, HasFetched, IsAhead, Opened, Peeked, Returned, Stored, alone, busy}
use Rattle.dr_table.proofs.Posting.{about, fetched, homed, kept, missed, no_letter, noticed, one, opened, returned, sized, sound, stood}
use mathlib.Core.Option.{Option as Maybe, none, some}
use lib.ListN.{get_elem?}

-- a seat that caught up and is about something now
errand_on : (dealt : List (Option Running)) (words : List ℕ) (homes : List (Maybe Slot)) (views : List View)
    (id : ℕ) (q : Running) (e : Errand) → HasSuchProgram dealt words homes (slice_set (slice_set views id (one q)) id
    (about q e)) → HasSuchProgram dealt words homes (slice_set views id (about q e))
errand_on dealt words homes views id q e =
    subst (λ vs. HasSuchProgram dealt words homes vs) (set-set views id (one q) (about q e))

-- what a seat about something has
module _ {r : Running} {e : Errand} {slots : List (ℕ × Slot)} where
  errand_of : (me : Me Slot View) → me ≡ busy r e slots → me.0.errand ≡ Some e
  errand_of me is = ap (λ (m : Me Slot View). m.0.errand) is

  slots_of : (me : Me Slot View) → me ≡ busy r e slots → me.1 ≡ slots
  slots_of me is = ap (λ (m : Me Slot View). m.1) is

  view_of : (views : List View) (id : ℕ) (me : Me Slot View) → get_elem? views id ≡ some me.0 → me ≡ busy r e slots
      → slice_get views id ≡ Some (about r e)
  view_of views id me at is = by_table views id me.0 at ∙ ap (λ (m : Me Slot View). Some m.0) is

pub open_allowed : (dealt : List (Option Running)) (slots id index : ℕ) (me : Me Slot View) (e : Errand) (r q : Running)
    → me ≡ alone r → e.word ≡ 1 → IsAhead r q → next_deed q ≡ deeds.Give e.late → index ≡ table_size q + e.late
    → Allows {S = Slot} {V = View} (λ s. HasSuchProgram dealt s.words s.homes s.views) slots id me index (λ _. 1)
    (λ _ w. Opened e q w)
open_allowed dealt slots id index me e r q only first ahead next at s k _ is _ =
    let c = catch_up dealt s.words s.homes s.views id me r q is only ahead k in
    let slot = slot_number q.replica.late e.late in
    let (list, home, blank, on) = opened c.rule id e slot index q c.is first next refl at in (
      about q e,
      takes slot (Some list),
      home,
      errand_on dealt (slice_set s.words index 1) (slice_set s.homes slot none) s.views id q e on,
      (list, blank, λ z. (about q e, (slot, Some list) ∷ no_slots me (Some r ∷ []) only z)),
    )

pub home_allowed : (dealt : List (Option Running)) (slots id index slot : ℕ) (me : Me Slot View) (e : Errand)
    (list : Vec Entry Global) (q : Running) → me ≡ busy q e ((slot, Some list) ∷ []) → e.word ≡ 1
    → next_deed q ≡ deeds.Give e.late → index ≡ table_size q + e.late → slot ≡ slot_number q.replica.late e.late
    → list.items ≡ up_to_view q.replica.history
    → Allows {S = Slot} {V = View} (λ s. HasSuchProgram dealt s.words s.homes s.views) slots id me index (λ _. 2)
    (λ _ w. Stored q w)
home_allowed dealt slots id index slot me e list q has first next at same_slot items s k _ is _ =
    let x = one (after_step 0 q) in
    let on = homed k id e slot index list q (view_of s.views id me is has) first next same_slot at items in (
      x,
      gives,
      tt,
      subst (λ (c : List (ℕ × Slot)). HasSuchProgram dealt (slice_set s.words index 2)
          (put_back s.homes c) (slice_set s.views id x)) (sym (slots_of me has)) on,
      λ z. (x, rest (slots_of me has z)),
    )

pub peek_allowed : (dealt : List (Option Running)) (slots id index : ℕ) (me : Me Slot View) (e : Errand) (r q : Running)
    → me ≡ alone r → e.word ≡ 2 → IsAhead r q
    → next_deed q ≡ deeds.Take → number q ≡ e.late → index ≡ table_size q + number q
    → Allows {S = Slot} {V = View} (λ s. HasSuchProgram dealt s.words s.homes s.views) slots id me index (λ n. n)
    (λ n w. Peeked e q n w)
peek_allowed dealt slots id index me e r q only two ahead next named at s k _ is _ =
    elim (cases_eq (slice_index s.words index) 2) [
      | inl there ↦ (
        about q e,
        keeps,
        tt,
        same (about q e) (errand_on dealt s.words s.homes s.views id q e
            (noticed c.rule id e q c.is two next named (sym read ∙ there))),
        inl (there, λ z. (about q e, no_slots me (Some r ∷ []) only z)),
      )
      | inr other ↦
          let nothing = no_letter c.rule id q c.is next (λ there. other (read ∙ there)) in (
            one x,
            keeps,
            tt,
            same (one x) (went_on dealt s.words s.homes s.views id q x (missed c.rule id q c.is next nothing)),
            inr (
              other,
              (c.rule.opening.group, kept c.rule, record { sound = sound c.rule; there = c.there }, nothing),
              λ z. (one x, no_slots me (Some r ∷ []) only z),
            ),
          )
    ]
  where
    x : Running
    x = settled (took_letter None q)

    c : Caught dealt s.words s.homes s.views id q
    c = catch_up dealt s.words s.homes s.views id me r q is only ahead k

    read : slice_index s.words index ≡ slice_index c.rule.flags (number q)
    read = ap (λ ws. slice_index ws index) c.rule.laid
        ∙ behind_read c.rule.table c.rule.flags index (number q) (omega (arith, at, sized c.rule q c.there))

    same : (v : View) → HasSuchProgram dealt s.words s.homes (slice_set s.views id v)
        → HasSuchProgram dealt (slice_set s.words index (slice_index s.words index)) s.homes (slice_set s.views id v)
    same v = subst (λ ws. HasSuchProgram dealt ws s.homes (slice_set s.views id v)) (sym (set-get_or s.words index 0))

pub fetch_allowed : (dealt : List (Option Running)) (slots id index : ℕ) (me : Me Slot View) (e : Errand) (q : Running)
    → me ≡ busy q e [] → e.word ≡ 2 → next_deed q ≡ deeds.Take → number q ≡ e.late → index ≡ table_size q + e.late
    → Allows {S = Slot} {V = View} (λ s. HasSuchProgram dealt s.words s.homes s.views) slots id me index (λ _. 3)
    (λ _ w. Fetched e q w)
fetch_allowed dealt slots id index me e q seen two next named at s k _ is _ =
    let slot = slot_number q.replica.late e.late in
    let home = view_of s.views id me is seen in
    let (list, there, letter, on) = fetched k id e slot index q home two next named refl at in
    let w = about q (record e { word = 3; letter = list.items }) in (
      w,
      takes slot (Some list),
      there,
      on,
      (
        list,
        (k.opening.group, kept k, record { sound = sound k; there = stood k id (about q e) q home refl }, letter),
        λ z. (w, (slot, Some list) ∷ slots_of me seen z),
      ),
    )

pub return_allowed : (dealt : List (Option Running)) (slots id index : ℕ) (me : Me Slot View) (e : Errand)
    (q : Running) → HasFetched e q me → next_deed q ≡ deeds.Take → number q ≡ e.late → index ≡ table_size q + e.late
    → Allows {S = Slot} {V = View} (λ s. HasSuchProgram dealt s.words s.homes s.views) slots id me index (λ _. 4)
    (λ _ w. Returned q me w)
return_allowed dealt slots id index me e q (letter, has) next named at s k _ is _ =
    let f : Errand = record e { word = 3; letter = letter } in
    let x = one (settled (took_letter (Some letter) q)) in
    let on = returned k id f (slot_number q.replica.late e.late) index q (view_of s.views id me is has) refl next named
    refl at in (
      x,
      gives,
      tt,
      subst (λ (c : List (ℕ × Slot)). HasSuchProgram dealt (slice_set s.words index 4)
          (put_back s.homes c) (slice_set s.views id x)) (sym (slots_of me has)) on,
      λ g same. (λ z. (x, rest (slots_of me has z))) ∙ ap (λ (o : Errand). alone
          (settled (took_letter (Some o.letter) q))) (same_Some f g (sym (errand_of me has) ∙ same)),
    )
