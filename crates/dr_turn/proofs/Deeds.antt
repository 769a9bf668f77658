-- Each deed of a running member is done once and for all: it has fewer left then.
use Rattle.std.{specs.Prelude.{Option, Some, None, is_some, drop, slice_index_or}, proofs.lemmas.Bool.and_parts}
use Rattle.std.proofs.Common.{◌≡◌, refl, sym, ap, ◌∙◌, subst, ℕ, ◌+◌, ◌-◌, ◌*◌, ◌^◌, ◌<◌, ◌≤◌, inl, inr, Bool, true, false, length, le_trans, suc-le-suc, arith}
use Rattle.dr_entry.{specs.declared.end.End.End, proofs.NumberFacts.no_row}
use Rattle.dr_words.specs.Columns.{columns_of}
use Rattle.dr_machine.{specs.{Effects.one_more, declared.step.Step.Step}, proofs.Worlds.{one_more_at_most, one_turn}}
use Rattle.dr_program.specs.{Form.{HasForm, IsOf, IsRunningMember}, Steps.{NoWordFell, allows, stepped}}
use Rattle.dr_program.specs.{Replica.{Replica, value_due}, declared.place.{Part.Part, Place.Place}}
use Rattle.dr_program.specs.Running.{Running, members, columns, asks, waits_after, settled, goes, pushes_after, took, next_step, after_step, WaitsAt}
use Rattle.dr_program.specs.Turn.{after, is_beat, IsIn, part_of, places_in, rows_in, columns_in, turn_begins}
use Rattle.dr_program.{specs.declared.place.TheConstants.TURN, proofs.Going.{Going, going, pending_stays, vote_waits}}
use Rattle.dr_program.proofs.{Deeds.{IsPublishing, publishing}, Fixed.{step_told, of_told, Told}}
use Rattle.dr_program.proofs.Order.{after_beat, after_in, beat_last, ends_in, from_part}
use Rattle.dr_program.proofs.Parts.{acts_on, due_at, end_comes, end_stays, is_final, none_waits, pending_gone, turns_stay, waits_keep, is_publish, is_vote, is_take}
use Rattle.dr_program.proofs.Search.{beat_test, part_before, settle_only, some_column, some_member}
use Rattle.dr_program.specs.declared.place.Part.TheVariants as parts
use Rattle.dr_program.proofs.Fixed as fixed
use Rattle.dr_turn.specs.Search.{left, IsUnderway}
use Rattle.dr_turn.specs.Work.{work, deeds_of, left_to, may_fail, deeds_left, HasGrownTo, IsAfterDeed}
use Rattle.dr_turn.proofs.{Fewer.{fewer_here, fewer_turns}, Order.{left_falls, left_small, left_some, left_take}}
use Rattle.dr_turn.proofs.{Parts.{Lowers, lowers}, Search.{settle_less, settled_running, settled_underway}}

-- ---- deeds

-- where both have no end, fewer are left by the numbers of members without one
pub lower : (r x : Running) → r.replica.end ≡ None → x.replica.end ≡ r.replica.end
    → left_to x None < left_to r None → deeds_left x < deeds_left r
lower r x none same h = subst (λ o. left_to x o < deeds_left r) (sym (same ∙ none))
    (subst (λ o. left_to x None < left_to r o) (sym none) h)

some_deed : (turns places here work fails : ℕ) → 0 < here → 0 < deeds_of turns places here work + fails
unfolding deeds_of
some_deed turns places here work fails h = omega arith

-- an end
over : (r x : Running) → r.replica.end ≡ None → IsUnderway r → is_some x.replica.end ≡ true
    → deeds_left x < deeds_left r
over r x none u ends = by x.replica.end refl ends
  where
    some : 0 < left_to r None
    some = some_deed (r.limit - r.replica.turns) (places_in (members r) (columns r) TURN) (left (members r)
        (columns r) r.place) (work r.replica) (may_fail r.failed) (left_some (members r) (columns r) r.place u.place)

    by : (o : Option End) → x.replica.end ≡ o → is_some o ≡ true → deeds_left x < deeds_left r
    by None e is = absurd (cc)
    by (Some end) e is = subst (λ n. n < deeds_left r) (sym (ap (left_to x) e))
        (subst (λ o. 0 < left_to r o) (sym none) some)

-- the member after the deed of this part
abbrev does_at : ℕ → Running → Part → Running
does_at word r part = record r {
  replica = stepped word r.replica (due_at r part);
  place = goes (members r) (columns r) part r.place;
  pushes = pushes_after r.pushes (due_at r part);
  waits = waits_after word r (due_at r part);
}

-- what is known before a deed, and of the replica after it
record IsDue (word : ℕ) (r : Running) (part : Part) : Type 0 where
  at : part_of r.place ≡ part
  underway : IsUnderway r
  none : r.replica.end ≡ None
  allowed : allows r.replica (due_at r part) ≡ true
  form : HasForm (does_at word r part).replica

-- ---- where it stands

-- there is one place more left before it
back : (n k : ℕ) (p : Place) → p.part < length TURN → IsPublishing n k p
    → left n k (record p { part = p.part - 1 }) ≤ left n k p + 1
unfolding left
back n k p inside is =
    let x = from_part n k p.part (p.part + 1) TURN turn_begins (omega arith) inside in
    let number : p.part - 1 + 1 ≡ p.part = omega (arith, is.some) in
    let same : places_in n k (drop (p.part - 1 + 1) TURN)
    ≡ places_in n k (drop p.part TURN) = ap (λ (i : ℕ). places_in n k (drop i TURN)) number in
    let size : rows_in n (slice_index_or TURN (p.part - 1) turn_begins)
    * columns_in k (slice_index_or TURN (p.part - 1) turn_begins) ≡ 1 = rw is.before refl in
    omega (
      arith,
      x,
      same,
      is.size,
      size,
      no_row p.row (columns_in k (part_of p)) is.row,
      no_row p.row (columns_in k (slice_index_or TURN (p.part - 1) turn_begins)) is.row,
    )

-- a member that publishes is at such a place
publishing_at : (word : ℕ) (r : Running) (part : Part) → IsDue word r part → is_publish part ≡ true
    → IsPublishing (members r) (columns r) r.place
publishing_at word r part d is = publishing (members r) (columns r) r.place d.underway.place (ap is_publish d.at ∙ is)

-- the member stands in its turn
goes_in : (word : ℕ) (r : Running) (part : Part) → IsDue word r part
    → IsIn (members r) (columns r) (goes (members r) (columns r) part r.place)
goes_in word r part d = by (going r part)
  where
    by : Going r part → IsIn (members r) (columns r) (goes (members r) (columns r) part r.place)
    by (inl on) = rw on (after_in _ _ r.place (some_member r d.underway.replica) (some_column r) d.underway.place)
    by (inr (inl went)) = let at = publishing_at word r part d went.0 in
        rw went.1 (record {
          part = omega (arith, d.underway.place.part);
          row = subst (λ x. r.place.row < rows_in (members r) x) (sym at.before) at.row;
          column = subst (λ x. r.place.column < columns_in (columns r) x) (sym at.before) at.column;
        })
    by (inr (inr (inl stays))) = rw stays.0 d.underway.place
    by (inr (inr (inr ends))) = rw ends.1 (ends_in (members r) (columns r))

-- its turns are within the limit
turns_keep : (word : ℕ) (r : Running) (part : Part) → IsDue word r part
    → (does_at word r part).replica.turns ≤ r.limit
turns_keep word r part d = by (is_beat part) refl
  where
    by : (b : Bool) → is_beat part ≡ b → (does_at word r part).replica.turns ≤ r.limit
    by false e = omega (arith, turns_stay word r part e, d.underway.turns)
    by true e = let first : part ≡ turn_begins = beat_test part e in
        subst (λ x. (does_at word r x).replica.turns ≤ r.limit) (sym first)
        (omega (arith, one_more_at_most r.replica.turns, d.underway.left d.none (d.at ∙ first)))

-- before a turn one more is left
left_behind : (r : Running) → IsUnderway r → is_beat (part_of r.place) ≡ false
    → part_of (after (members r) (columns r) r.place) ≡ turn_begins → part_of r.place ≡ parts.Spent
left_behind r u other begins = after_beat (members r) (columns r) r.place
    (after_in _ _ r.place (some_member r u.replica) (some_column r) u.place) other (ap is_beat begins)

-- a turn begins at the last place
pub beat_place : (r : Running) → IsUnderway r → part_of r.place ≡ turn_begins → r.place
    ≡ record { part = length TURN - 1; row = 0; column = 0 }
beat_place r u at = λ z. record { part = last z; row = none r.place.row row z; column = none r.place.column column z }
  where
    row : r.place.row < 1
    row = subst (λ x. r.place.row < rows_in (members r) x) at u.place.row

    column : r.place.column < 1
    column = subst (λ x. r.place.column < columns_in (columns r) x) at u.place.column

    last : r.place.part ≡ length TURN - 1
    last = let e = beat_last r.place.part u.place.part (ap is_beat at) in omega (arith, e)

    none : (n : ℕ) → n < 1 → n ≡ 0
    none n l = omega arith

-- a turn that begins leads to its first part
pub first_part : (r : Running) → IsUnderway r → part_of r.place ≡ turn_begins
    → part_of (after (members r) (columns r) r.place) ≡ parts.Take
first_part r u at = ap (λ (p : Place). part_of (after (members r) (columns r) p)) (beat_place r u at)

unturned : (word : ℕ) (r : Running) (part : Part) → IsDue word r part → (does_at word r part).replica.end ≡ None
    → part_of (goes (members r) (columns r) part r.place) ≡ turn_begins
    → (does_at word r part).replica.turns < r.limit
unturned word r part d none begins = absurd (by (is_beat part) refl (going r part))
  where
    by : (b : Bool) → is_beat part ≡ b → Going r part → ⊥
    by true e going = let first : part ≡ turn_begins = beat_test part e in
        cc (sym (first_part r d.underway (d.at ∙ first))
        ∙ sym (ap (λ x. part_of (goes (members r) (columns r) x r.place)) first) ∙ begins)
    by false e (inl on) =
        cc (sym d.at ∙ left_behind r d.underway (ap is_beat d.at ∙ e) (sym (ap part_of on) ∙ begins))
    by false e (inr (inl back)) =
        cc (sym (publishing_at word r part d back.0).before ∙ sym (ap part_of back.1) ∙ begins)
    by false e (inr (inr (inl stays))) =
        cc (sym (ap is_beat d.at ∙ e) ∙ ap is_beat (sym (ap part_of stays.0) ∙ begins))
    by false e (inr (inr (inr ends))) = cc (sym (ap part_of ends.1) ∙ begins)

-- ---- how many deeds are left

-- what is left to a member with this shape
pub left_shaped : (r x : Running) → fixed.told x.replica ≡ fixed.told r.replica → left_to x None
    ≡ deeds_of (x.limit - x.replica.turns) (places_in (members r) (columns r) TURN)
    (left (members r) (columns r) x.place) (work x.replica) + may_fail x.failed
left_shaped r x same =
    let roster : members x ≡ members r = ap (λ (t : Told). t.roster) same in
    let window : x.replica.window ≡ r.replica.window = ap (λ (t : Told). t.window) same in rw (roster, window) refl

-- a beat leaves a turn less
fewer_beat : (word : ℕ) (r : Running) → r.limit < 2 ^ 32 → IsDue word r turn_begins
    → work (does_at word r turn_begins).replica ≤ work r.replica
    → deeds_left (does_at word r turn_begins) < deeds_left r
fewer_beat word r fits d less = let l = d.underway.left d.none d.at in
    lower r (does_at word r turn_begins) d.none refl
    (fewer_turns (r.limit - r.replica.turns) (r.limit - one_more 32 r.replica.turns)
    (places_in (members r) (columns r) TURN) _ _ _ _ _ (omega (arith, one_turn r.replica.turns r.limit l fits, l))
    (left_small (members r) (columns r) (goes (members r) (columns r) turn_begins r.place)
    (goes_in word r turn_begins d)) less)

-- another step that is no end leaves fewer places and less work together
fewer_amid : (word : ℕ) (r : Running) (part : Part) → IsDue word r part → is_beat part ≡ false
    → is_final (due_at r part) ≡ false → Lowers (due_at r part) (work r.replica) (work (does_at word r part).replica)
    → left (members r) (columns r) (does_at word r part).place + work (does_at word r part).replica
    < left (members r) (columns r) r.place + work r.replica
fewer_amid word r part d amid other less = by (going r part)
  where
    by : Going r part → left (members r) (columns r) (does_at word r part).place + work (does_at word r part).replica
        < left (members r) (columns r) r.place + work r.replica
    by (inl on) = rw on (omega (
      arith,
      less,
      left_falls (members r) (columns r) r.place d.underway.place
          (part_before (members r) (columns r) r.place d.underway.place (ap is_beat d.at ∙ amid)),
    ))
    by (inr (inl went)) = rw went.1 (omega (
      arith,
      less,
      went.2,
      back (members r) (columns r) r.place d.underway.place.part (publishing_at word r part d went.0),
    ))
    by (inr (inr (inl stays))) = rw stays.0 (omega (arith, less, stays.1 other))
    by (inr (inr (inr ends))) = rw ends.1 (omega (
      arith,
      less,
      left_take (members r) (columns r) r.place d.underway.place (ap is_take d.at ∙ ends.0),
    ))

fewer : (word : ℕ) (r : Running) (part : Part) → r.limit < 2 ^ 32 → IsDue word r part
    → Lowers (due_at r part) (work r.replica) (work (does_at word r part).replica)
    → deeds_left (does_at word r part) < deeds_left r
fewer word r part fits d less = by (is_final (due_at r part)) (is_beat part) refl refl
  where
    by : (final beat : Bool) → is_final (due_at r part) ≡ final → is_beat part ≡ beat
        → deeds_left (does_at word r part) < deeds_left r
    by true beat ends e =
        over r (does_at word r part) d.none d.underway (end_comes word r.replica (due_at r part) ends)
    by false true other e = subst (λ x. IsDue word r x → work (does_at word r x).replica ≤ work r.replica
        → deeds_left (does_at word r x) < deeds_left r)
        (sym (beat_test part e)) (fewer_beat word r fits) d (omega (arith, less))
    by false false other amid = lower r (does_at word r part) d.none (end_stays word r.replica (due_at r part) other)
        (rw (
          left_shaped r (does_at word r part) (step_told word r.replica (due_at r part)),
          turns_stay word r part amid,
        ) (fewer_here (r.limit - r.replica.turns) _ _ _ _ _ _ (fewer_amid word r part d amid other less)))

-- ---- every deed

-- where it stands, by what its replica says of the shape
place_in : (word : ℕ) (r : Running) (part : Part) → IsDue word r part → (q : Replica)
    → fixed.told q ≡ fixed.told r.replica → IsIn q.roster (columns_of q.roster q.window)
    (goes (members r) (columns r) part r.place)
place_in word r part d q f = subst (λ (w : ℕ). IsIn q.roster
    (columns_of q.roster w) (goes (members r) (columns r) part r.place)) (sym (ap (λ (t : Told). t.window) f))
    (subst (λ (n : ℕ). IsIn n (columns_of n r.replica.window) (goes (members r) (columns r) part r.place))
    (sym (ap (λ (t : Told). t.roster) f)) (goes_in word r part d))

-- behind any other deed than a vote none waits
none_after : (word : ℕ) (r : Running) (part : Part) → is_vote part ≡ false → IsDue word r part
    → (does_at word r part).replica.pending ≡ None
none_after word r part other d = by (acts_on part) refl
  where
    by : (b : Bool) → acts_on part ≡ b → (does_at word r part).replica.pending ≡ None
    by true acts = pending_gone word r part acts
    by false acts = pending_stays word r part other acts ∙ none_waits r part d.at acts d.underway.free

-- and behind a vote it is acted on
free_after : (word : ℕ) (r : Running) (part : Part) → IsDue word r part
    → WaitsAt (does_at word r part) (part_of (goes (members r) (columns r) part r.place))
free_after word r parts.Vote d = vote_waits word r (value_due r.replica) r.failed d.underway.place d.at
    (none_waits r parts.Vote d.at refl d.underway.free)
free_after word r part d = inl (none_after word r part refl d)

-- it is underway behind the deed
goes_on : (word : ℕ) (r : Running) (part : Part) → IsDue word r part → IsUnderway (does_at word r part)
goes_on word r part d = record {
  replica = d.form;
  place = place_in word r part d (does_at word r part).replica (step_told word r.replica (due_at r part));
  turns = turns_keep word r part d;
  waits = waits_keep word r (due_at r part) d.underway.waits;
  free = free_after word r part d;
  left = unturned word r part d;
}

does : (word : ℕ) (r : Running) (part : Part) → r.limit < 2 ^ 32 → IsDue word r part
    → HasGrownTo r (does_at word r part) → IsAfterDeed r (does_at word r part)
does word r part fits d grown = record {
  underway = goes_on word r part d;
  grown = grown;
  fewer = fewer word r part fits d (lowers word r.replica (due_at r part) d.underway.replica d.allowed d.form grown);
  still = λ g m. of_told g m r.replica (does_at word r part).replica (step_told word r.replica (due_at r part));
}

-- the search keeps what a deed has done
pub settled_done : (r y : Running) → IsAfterDeed r y → IsAfterDeed r (settled y)
settled_done r y d = record {
  underway = settled_underway y d.underway;
  grown = subst (λ (q : Replica). q.view ≡ r.replica.view → NoWordFell r.replica q) (sym same) d.grown;
  fewer = le_trans (suc-le-suc (settle_less _ y d.underway)) d.fewer;
  still = λ g m o. subst (IsOf g m) (sym same) (d.still g m o);
}
  where
    same : (settled y).replica ≡ y.replica
    same = ap (λ (z : Running). z.replica) (settle_only (places_in (members y) (columns y) TURN) y)

deed_due : (word : ℕ) (r : Running) → IsRunningMember r → r.replica.end ≡ None
    → HasForm (took word r (next_step r)).replica → IsDue word r (part_of r.place)
deed_due word r m none form = record {
  at = refl;
  underway = record { replica = m.replica; place = m.place; turns = m.turns; waits = m.waits; free = m.free; left = m.left };
  none = none;
  allowed = (and_parts (asks r (part_of r.place) r.place.row r.place.column)
      (allows r.replica (next_step r)) (m.due none)).1;
  form = form;
}

-- a running member stays one, where its replica keeps its form
pub deeds_keep_form : (word : ℕ) (r : Running) → IsRunningMember r → r.replica.end ≡ None
    → HasForm (took word r (next_step r)).replica → IsRunningMember (after_step word r)
deeds_keep_form word r m none form =
    settled_running _ (goes_on word r (part_of r.place) (deed_due word r m none form))

-- a deed is done after which the replica has its form and no word has fallen
pub deed_done : (word : ℕ) (r : Running) → IsRunningMember r → r.limit < 2 ^ 32 → r.replica.end ≡ None
    → HasForm (took word r (next_step r)).replica → HasGrownTo r (took word r (next_step r))
    → IsAfterDeed r (took word r (next_step r))
deed_done word r m fits none form grown = does word r (part_of r.place) fits (deed_due word r m none form) grown

-- after such a deed the member is a running member, and the deed is done
pub deeds_keep : (word : ℕ) (r : Running) → IsRunningMember r → r.limit < 2 ^ 32 → r.replica.end ≡ None
    → HasForm (took word r (next_step r)).replica → HasGrownTo r (took word r (next_step r))
    → IsRunningMember (after_step word r) × IsAfterDeed r (after_step word r)
deeds_keep word r m fits none form grown =
    (deeds_keep_form word r m none form, settled_done r _ (deed_done word r m fits none form grown))
