-- Cutting a hand in two, and putting two together, keep the rule.
use Rattle.std.specs.Prelude.{slice_get, slice_set, sum_by, Option, None, Some}
use Rattle.std.proofs.Common.{◌≡◌, refl, sym, ap, ◌∙◌, subst, ℕ, List, [], ◌∷◌, ◌++◌, length, take, drop, inl, inr}
use Rattle.std.proofs.lemmas.Option.{slice_get_within}
use Rattle.atomic_table.specs.Table.{Splits, Joins}
use Rattle.dr_entry.specs.declared.entry.Entry.{Entry}
use Rattle.dr_entry.proofs.ListPlaces.{replica_kept, by_table, places_cut, places_joined, slice_get-left, slice_get-push_cases}
use Rattle.dr_machine.specs.Group.{Group}
use Rattle.dr_program.{specs.Running.Running, proofs.Present.further_same}
use Rattle.dr_table.specs.{Rule.{HasSuchProgram, Stands, hands}, Slots.{HaveSlots, Slot}, declared.rule.View.View}
use Rattle.dr_table.proofs.{Errands.slots_stay, Places.{stands_cut, stands_joined}, Posting.free}
use Rattle.dr_table.proofs.Seats.{hands_behind, hands_get, hands_set}
use mathlib.Core.Option.{Option as Maybe}

-- a seat more that is about nothing
slots_more : (g : Group) (members : List (Option Running)) (letters : List (Option (List Entry))) (most : ℕ)
    (flags : List ℕ) (homes : List (Maybe Slot)) (views : List View) (w : View) → w.errand ≡ None
    → HaveSlots g members letters most flags homes views
    → HaveSlots g members letters most flags homes (views ++ w ∷ [])
slots_more g members letters most flags homes views w none h = record {
  late = h.late;
  others = h.others;
  abouts = λ s u e at busy. elim (slice_get-push_cases views w u s at) [
    | inl first ↦ h.abouts s u e first.1 busy
    | inr last ↦ absurd (cc (none, busy, ap (λ (z : View). z.errand) last.1))
  ];
  out = λ j at.
      let (s, u, e, there, busy, named) = h.out j at in
      (s, u, e, slice_get-left views (w ∷ []) s (slice_get_within views s u there) ∙ there, busy, named);
  joined = h.joined;
  room = h.room;
}

pub cut_allowed : (dealt : List (Option Running)) (id at : ℕ) (v : View) → v.errand ≡ None
    → Splits {S = Slot} {V = View} (λ s. HasSuchProgram dealt s.words s.homes s.views) id v
    (free (take at v.members)) (free (drop at v.members))
cut_allowed dealt id at v none s k is = record {
  opening = k.opening;
  members = k.members;
  table = k.table;
  letters = k.letters;
  flags = k.flags;
  most = k.most;
  ran = k.ran;
  laid = k.laid;
  all = k.all;
  stands = subst (λ hs. Stands hs k.members) (sym same)
      (stands_cut (hands s.views) k.members id at v.members (hands_get s.views id v home) k.stands);
  places = ap (sum_by length) same
      ∙ places_cut (hands s.views) id at v.members (hands_get s.views id v home) ∙ k.places;
  slots = slots_more k.opening.group k.members k.letters k.most k.flags s.homes
      (slice_set s.views id (free (take at v.members))) (free (drop at v.members)) refl
      (slots_stay k.opening.group k.members k.members k.letters k.most k.flags s.homes s.views id v
      (free (take at v.members)) home none (further_same k.members) (λ e busy. absurd (cc busy)) k.slots);
}
  where
    home : slice_get s.views id ≡ Some v
    home = by_table s.views id v is

    same : hands (slice_set s.views id (free (take at v.members)) ++ free (drop at v.members) ∷ [])
        ≡ slice_set (hands s.views) id (take at v.members) ++ drop at v.members ∷ []
    same = hands_behind (slice_set s.views id (free (take at v.members))) (free (drop at v.members))
        ∙ ap (λ hs. hs ++ drop at v.members ∷ []) (hands_set s.views id (free (take at v.members)))

pub join_allowed : (dealt : List (Option Running)) (id : ℕ) (v : View) (other : ℕ) (w : View) → v.errand ≡ None
    → w.errand ≡ None → Joins {S = Slot} {V = View} (λ s. HasSuchProgram dealt s.words s.homes s.views) id v other w
    (free (v.members ++ w.members)) (free [])
join_allowed dealt id v other w none too s k is apart there = record {
  opening = k.opening;
  members = k.members;
  table = k.table;
  letters = k.letters;
  flags = k.flags;
  most = k.most;
  ran = k.ran;
  laid = k.laid;
  all = k.all;
  stands = subst (λ hs. Stands hs k.members) (sym same)
      (stands_joined (hands s.views) k.members id v.members other w.members (hands_get s.views id v home) apart
      (hands_get s.views other w (sym (replica_kept s.views id other both apart) ∙ away)) k.stands);
  places = ap (sum_by length) same ∙ places_joined (hands s.views) id v.members other w.members
      (hands_get s.views id v home) (ap (λ hs. slice_get hs other) (sym (hands_set s.views id both))
      ∙ hands_get (slice_set s.views id both) other w away) ∙ k.places;
  slots = slots_stay k.opening.group k.members k.members k.letters k.most k.flags s.homes
      (slice_set s.views id both) other w (free []) away too (further_same k.members) (λ e busy. absurd (cc busy))
      (slots_stay k.opening.group k.members k.members k.letters k.most k.flags s.homes s.views id v both home none
      (further_same k.members) (λ e busy. absurd (cc busy)) k.slots);
}
  where
    both : View
    both = free (v.members ++ w.members)

    home : slice_get s.views id ≡ Some v
    home = by_table s.views id v is

    away : slice_get (slice_set s.views id both) other ≡ Some w
    away = by_table (slice_set s.views id both) other w there

    same : hands (slice_set (slice_set s.views id both) other (free []))
        ≡ slice_set (slice_set (hands s.views) id (v.members ++ w.members)) other []
    same = hands_set (slice_set s.views id both) other (free [])
        ∙ ap (λ hs. slice_set hs other []) (hands_set s.views id both)
