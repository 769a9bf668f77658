-- Room on the logs of members, made one after the other.
use Rattle.std.specs.Prelude.{Option, None, Some, is_some, slice_set}
use Rattle.std.proofs.Common.{◌≡◌, refl, sym, ap, ◌∙◌, subst, inl, inr, ℕ, ◌+◌, ◌<◌, List, length, length-set, le_refl, get_or, arith}
use Rattle.std.proofs.lemmas.{Bool.cases_eq, List.get_or_default, Option.same_Some}
use Rattle.dr_disk.specs.Disk.{Told}
use Rattle.dr_log.specs.State.{LogState}
use Rattle.dr_program.specs.{Presence.present_at, Running.Running}
use Rattle.dr_served.{specs.Served.{HaveSamePlaces, IsRoomy}, proofs.Rooms.{here_set, others_set}}
use Rattle.dr_play.{specs.Logged.{AreAsBefore, AreCalm, IsAsBefore}, proofs.LoggedMembers.HasMadeRoom}
use Rattle.dr_sim.specs.Rooms.{GotRoomAt, StaysAt}

-- a place that stays as it was, in the place of one
pub stays_set : {D : Type 0} (told : D → Option Told) (count : D → ℕ) (olds news : List (Option (LogState D)))
    (k : ℕ) (x new : Option (LogState D)) → k < length news → StaysAt told count (get_or news k x) new
    → HaveSamePlaces olds news → AreAsBefore olds news → AreCalm told count olds news
    → HaveSamePlaces olds (slice_set news k new) × AreAsBefore olds (slice_set news k new)
    × AreCalm told count olds (slice_set news k new)
stays_set {D} told count olds news k x new within stays places same calm = (
  record {
    all = length-set news k new ∙ places.all;
    each = λ m. elim (cases_eq m k) [
      | inr other ↦ ap is_some (others_set news m k new other) ∙ places.each m
      | inl at ↦ ap (λ n. is_some (present_at (slice_set news k new) n)) at ∙ ap is_some (here_set news k new within)
          ∙ stays.place ∙ ap is_some (sym was) ∙ ap (λ n. is_some (present_at news n)) (sym at) ∙ places.each m
    ];
  },
  λ m old y there here. elim (cases_eq m k) [
    | inr other ↦ same m old y there (sym (others_set news m k new other) ∙ here)
    | inl at ↦ by_same m old y at there (sym (now m at) ∙ here)
  ],
  λ m old y there here. elim (cases_eq m k) [
    | inr other ↦ calm m old y there (sym (others_set news m k new other) ∙ here)
    | inl at ↦ by_calm m old y at there (sym (now m at) ∙ here)
  ],
)
  where
    was : present_at news k ≡ get_or news k x
    was = get_or_default news k None x within

    now : (m : ℕ) → m ≡ k → present_at (slice_set news k new) m ≡ new
    now m at = ap (present_at (slice_set news k new)) at ∙ here_set news k new within

    before : (m : ℕ) (y : LogState D) → m ≡ k → new ≡ Some y
        → (z : LogState D) × (get_or news k x ≡ Some z) × (present_at news m ≡ Some z)
    before m y at is = by (get_or news k x) refl
      where
        by : (o : Option (LogState D)) → get_or news k x ≡ o
            → (z : LogState D) × (get_or news k x ≡ Some z) × (present_at news m ≡ Some z)
        by None none = absurd (cc (ap is_some is, stays.place, ap is_some none))
        by (Some z) some = (z, some, ap (present_at news) at ∙ was ∙ some)

    by_same : (m : ℕ) (old y : LogState D) → m ≡ k → present_at olds m ≡ Some old → new ≡ Some y → IsAsBefore old y
    by_same m old y at there is =
        let z = before m y at is in stays.kept z.0 y z.1 is ∙ same m old z.0 there z.2

    by_calm : (m : ℕ) (old y : LogState D) → m ≡ k → present_at olds m ≡ Some old → new ≡ Some y
        → (told y.disk ≡ told old.disk) × (count y.disk ≡ count old.disk)
    by_calm m old y at there is =
        let z = before m y at is in
        let first = calm m old z.0 there z.2 in
        let then = stays.calm z.0 y z.1 is in (then.0 ∙ first.0, then.1 ∙ first.1)

-- the log of the next place got room
pub one_more_made : {D : Type 0} (told : D → Option Told) (count : D → ℕ) (members : List (Option Running))
    (olds news : List (Option (LogState D))) (k : ℕ) (o : Option Running) (x new : Option (LogState D))
    → HasMadeRoom told count members olds news k → k < length news → present_at members k ≡ o
    → StaysAt told count (get_or news k x) new → GotRoomAt told count o (get_or news k x) new
    → HasMadeRoom told count members olds (slice_set news k new) (k + 1)
one_more_made {D} told count members olds news k o x new so_far within member stays room =
    let stay = stays_set told count olds news k x new within stays so_far.places so_far.same so_far.calm in
    record {
      made = λ m q old y below there from here. elim (cases_eq m k) [
        | inr other ↦ so_far.made m q old y (omega (arith, below, other)) there from
            (sym (others_set news m k new other) ∙ here)
        | inl at ↦ room q old y (sym member ∙ ap (present_at members) (sym at) ∙ there)
            (get_or_default news k x None within ∙ so_far.others k (le_refl k) ∙ ap (present_at olds) (sym at) ∙ from)
            (sym (here_set news k new within) ∙ ap (present_at (slice_set news k new)) (sym at) ∙ here)
      ];
      others = λ m above. others_set news m k new (λ at. absurd (omega (arith, above, at)))
          ∙ so_far.others m (omega (arith, above));
      places = stay.0;
      same = stay.1;
      calm = stay.2;
    }

-- ---- one place

-- a place stays as it was where nothing was done
pub stays_same : {D : Type 0} (told : D → Option Told) (count : D → ℕ) (place : Option (LogState D))
    → StaysAt told count place place
stays_same {D} told count place = record {
  place = refl;
  kept = λ x y from to. ap (λ (l : LogState D). l.content) (same_Some y x (sym to ∙ from));
  calm = λ x y from to.
      let is = same_Some y x (sym to ∙ from) in
      (ap (λ (l : LogState D). told l.disk) is, ap (λ (l : LogState D). count l.disk) is);
}

-- no room is asked where no member stands, nor where no log does
pub no_member_there : {D : Type 0} (told : D → Option Told) (count : D → ℕ) (member : Option Running)
    (old new : Option (LogState D)) → member ≡ None → GotRoomAt told count member old new
no_member_there told count member old new none = λ r x y there from to. absurd (cc (none, there))

pub no_log_there : {D : Type 0} (told : D → Option Told) (count : D → ℕ) (member : Option Running)
    (old new : Option (LogState D)) → old ≡ None → GotRoomAt told count member old new
no_log_there told count member old new none = λ r x y there from to. absurd (cc (none, from))

-- a log in the place of one
pub log_stays : {D : Type 0} (told : D → Option Told) (count : D → ℕ) (place : Option (LogState D))
    (old new : LogState D) → place ≡ Some old → IsAsBefore old new → told new.disk ≡ told old.disk
    → count new.disk ≡ count old.disk → StaysAt told count place (Some new)
log_stays {D} told count place old new there same tells calm = record {
  place = sym (ap is_some there);
  kept = λ x y from to. ap (λ (l : LogState D). l.content) (sym (same_Some new y to)) ∙ same
      ∙ ap (λ (l : LogState D). l.content) (same_Some old x (sym there ∙ from));
  calm = λ x y from to.
      let is = sym (same_Some new y to) in
      let was = same_Some old x (sym there ∙ from) in (
        ap (λ (l : LogState D). told l.disk) is ∙ tells ∙ ap (λ (l : LogState D). told l.disk) was,
        ap (λ (l : LogState D). count l.disk) is ∙ calm ∙ ap (λ (l : LogState D). count l.disk) was,
      );
}

pub log_got_room : {D : Type 0} (told : D → Option Told) (count : D → ℕ) (member : Option Running)
    (place : Option (LogState D)) (r : Running) (old new : LogState D) → member ≡ Some r → place ≡ Some old
    → IsRoomy told count r old new → GotRoomAt told count member place (Some new)
log_got_room {D} told count member place r old new at there roomy = λ q x y member from to.
    subst (λ s. IsRoomy told count s x y) (same_Some r q (sym at ∙ member)) (subst (λ l. IsRoomy told count r l y)
    (same_Some old x (sym there ∙ from)) (subst (λ l. IsRoomy told count r old l) (same_Some new y to) roomy))
