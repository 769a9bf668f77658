-- A hand has no more places than were dealt, and a hand of all members has those of the program.
use Rattle.std.specs.Prelude.{Option, None, Some, is_some, option_map, slice_get, slice_set}
use Rattle.std.proofs.Common.{◌≡◌, refl, sym, ap, ◌∙◌, subst, ℕ, ◌<◌, ◌≤◌, List, length, arith}
use Rattle.std.proofs.lemmas.List.{length-map, set-get_or, Sums.get_or-le-sum_by}
use Rattle.std.proofs.lemmas.Option.{get_or_from_slice_get, same_Some, slice_get_within}
use Rattle.atomic_table.specs.Table.{keeps, Allows, Me}
use Rattle.dr_machine.specs.Group.{roster}
use Rattle.dr_program.specs.{Presence.present_at, Running.{Running, begun_running}}
use Rattle.dr_program.proofs.Present.{present_map, present_within, same_places}
use Rattle.dr_refine.specs.Programs.{IsProgram}
use Rattle.dr_table.specs.{Cards.AreSame, Rule.{HasSuchProgram, hands, number}, Slots.Slot, declared.rule.View.View}
use Rattle.dr_table.proofs.{Hands.{dealt_few, dealt_number}, Posting.{kept, sound}, Seats.hands_get}
use mathlib.Core.Option.{Option as Maybe}
use Rattle.dr_entry.proofs.ListPlaces.{by_table, set_again}

few : (dealt : List (Option Running)) (words : List ℕ) (homes : List (Maybe Slot)) (views : List View) (id : ℕ)
    (v : View) → slice_get views id ≡ Some v → HasSuchProgram dealt words homes views
    → length v.members ≤ length dealt
few dealt words homes views id v is k =
    let mine = hands_get views id v is in omega (
      arith,
      get_or-le-sum_by length (hands views) id v.members (slice_get_within (hands views) id v.members mine),
      ap length (get_or_from_slice_get (hands views) id v.members v.members mine),
      k.places,
    )

pub count_allowed : (dealt : List (Option Running)) (slots id n : ℕ) (me : Me Slot View) → length dealt ≡ n
    → Allows {S = Slot} {V = View} (λ s. HasSuchProgram dealt s.words s.homes s.views) slots id me 0 (λ n. n)
    (λ _ w. (w ≡ me) × (length me.0.members ≤ n))
count_allowed dealt slots id n me many s k _ is _ =
    let home = by_table s.views id me.0 is in (
      me.0,
      keeps,
      tt,
      subst (λ ws. HasSuchProgram dealt ws s.homes (slice_set s.views id me.0)) (sym (set-get_or s.words 0 0))
          (subst (λ vs. HasSuchProgram dealt s.words s.homes vs) (sym (set_again s.views id me.0 home)) k),
      (refl, subst (λ most. length me.0.members ≤ most) many (few dealt s.words s.homes s.views id me.0 home k)),
    )

-- a hand that holds the dealt members, in their order, holds those of the program
pub whole : (dealt : List (Option Running)) (words : List ℕ) (homes : List (Maybe Slot)) (views : List View) (id : ℕ)
    (v : List (Option Running)) → slice_get (hands views) id ≡ Some v → AreSame dealt v
    → (k : HasSuchProgram dealt words homes views) → k.members ≡ v
whole dealt words homes views id v is same k = same_places k.members v lengths filled here
  where
    form : IsProgram k.opening.group (kept k)
    form = (sound k).form

    lengths : length k.members ≡ length v
    lengths = form.all ∙ sym (dealt_few dealt k.opening) ∙ sym (length-map dealt (option_map number))
        ∙ ap length (sym same) ∙ length-map v (option_map number)

    -- the numbers at a place
    names : (m : ℕ) → option_map number (present_at v m) ≡ option_map number (present_at dealt m)
    names m = sym (present_map number v m) ∙ ap (λ l. present_at l m) same ∙ present_map number dealt m

    -- who is there was dealt
    dealt_there : (m : ℕ) (r : Running) → present_at k.members m ≡ Some r
        → (q : Running) × (present_at dealt m ≡ Some q)
    dealt_there m r there =
        let below : m < roster k.opening.group = omega (arith, present_within k.members m r there, form.all) in
        let (s, at) = k.opening.are.there m below (form.of m r there).present in (
          begun_running s,
          ap (λ l. present_at l m) k.opening.begun ∙ present_map begun_running k.opening.setups m
              ∙ ap (option_map begun_running) at,
        )

    named : (m : ℕ) (q : Running) → present_at v m ≡ Some q → number q ≡ m
    named m q here = by (present_at dealt m) refl (sym (names m) ∙ ap (option_map number) here)
      where
        by : (o : Option Running) → present_at dealt m ≡ o → option_map number o ≡ Some (number q) → number q ≡ m
        by None none e = absurd (cc)
        by (Some r) there e = sym (same_Some (number r) (number q) e) ∙ dealt_number dealt k.opening m r there

    stood : (m : ℕ) (q : Running) → present_at v m ≡ Some q → present_at k.members m ≡ Some q
    stood m q here = ap (present_at k.members) (sym (named m q here)) ∙ k.stands.each id m q (v, is, here)

    filled : (m : ℕ) → is_some (present_at v m) ≡ is_some (present_at k.members m)
    filled m = by (present_at v m) (present_at k.members m) refl refl
      where
        by : (o p : Option Running) → present_at v m ≡ o → present_at k.members m ≡ p
            → is_some (present_at v m) ≡ is_some (present_at k.members m)
        by None None none too = ap is_some none ∙ sym (ap is_some too)
        by (Some q) p here there = ap is_some here ∙ sym (ap is_some (stood m q here))
        by None (Some r) none there =
            let (q, dealt) = dealt_there m r there in
            absurd (cc (names m, ap (option_map number) none, ap (option_map number) dealt))

    here : (m : ℕ) (r q : Running) → present_at k.members m ≡ Some r → present_at v m ≡ Some q → r ≡ q
    here m r q there stands = same_Some r q (sym there ∙ stood m q stands)
