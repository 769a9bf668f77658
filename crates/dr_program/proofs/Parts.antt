-- Parts of a turn, by what they do.
use Rattle.std.{specs.Option.{option_map, option_or}, proofs.lemmas.{Bool.Decides.nat_tests, List.length-set}}
use Rattle.std.{specs.Prelude.{Option, Some, None, unwrap_or, is_some, slice_index_or}, proofs.lemmas.Bool.not-true}
use Rattle.std.proofs.Common.{◌≡◌, refl, ℕ, if◌then◌else◌, Bool, true, false, ◌⊎◌, inl, inr, ap, arith, ◌+◌, nat_lt, length, ◌-◌, ◌<◌, not, ◌&&◌, ◌||◌, sym, ◌∙◌, ◌==◌, subst}
use Rattle.dr_entry.{specs.declared.end.End.End, proofs.NumberFacts.{all_below, each_below}}
use Rattle.dr_entry.specs.declared.end.End.TheVariants as ends
use Rattle.dr_words.{specs.declared.column.TheConstants.BEAT_COLUMN, proofs.Layouts.first_rows}
use Rattle.dr_suspect.specs.Waits.{IsWaits}
use Rattle.dr_machine.specs.declared.event.Act.TheVariants as acts
use Rattle.dr_machine.specs.{Acts.effect_of, Group.Group, World.World, declared.{event.Act.Act, step.Step.Step}}
use Rattle.dr_machine.{specs.declared.step.Step.TheVariants.Do, proofs.Ends.{is_verdict, judges}}
use Rattle.dr_machine.proofs.Events.{least, is_look}
use Rattle.dr_machine.specs.declared.step.Step.TheVariants as steps
use Rattle.dr_program.specs.{Acts.{taken, is_outside_act, leaves_view, may}, declared.place.TheConstants.TURN}
use Rattle.dr_program.specs.{Replica.{Replica, has_majority, is_wedged, me, unsuspected}, declared.place.Part.Part}
use Rattle.dr_program.specs.Running.{columns, Running, judged, named_by, overdue, scripted, told, step_at, waits_after, WaitsAt}
use Rattle.dr_program.specs.{Steps.{stepped, allows, IsNoJoin}, declared.{outcome.LogWhy.LogWhy, place.Place.Place}}
use Rattle.dr_program.specs.Turn.{IsIn, columns_in, part_of, rows_in, turn_begins, is_beat, after}
use Rattle.dr_program.specs.declared.place.Part.TheVariants as parts
use Rattle.dr_program.specs.declared.deed.Deed.TheVariants as deeds

-- the replica as its member has ended
abbrev pub crashed : Replica → End → Replica
crashed r end = taken r (acts.Crash end)

-- a step that an append has failed for or hasn't, by what it is in either case
pub unless_failed : (f : Option LogWhy → Step) (o : Option LogWhy) (s : Step) → (o ≡ None → s ≡ f None)
    → ((why : LogWhy) → o ≡ Some why → s ≡ f (Some why)) → s ≡ f o
unless_failed f None s none some = none refl
unless_failed f (Some why) s none some = some why refl

-- what a member judges is for members in their view alone
pub judged_inside : (named script spread late : Option ℕ) (few : Bool) (end : End) (i : ℕ)
    → is_outside_act (unwrap_or (option_or (option_map (λ by. acts.Halt (ends.Suspected by)) named)
    (option_or (option_map acts.Suspect script) (option_or (option_map acts.Suspect spread)
    (option_or (option_map acts.Suspect late) (if few then Some (acts.Halt end) else None)))))
    (acts.Suspect i)) ≡ false
judged_inside (Some x) script spread late few end i = refl
judged_inside None (Some x) spread late few end i = refl
judged_inside None None (Some x) late few end i = refl
judged_inside None None None (Some x) few end i = refl
judged_inside None None None None true end i = refl
judged_inside None None None None false end i = refl

-- and has nothing to do at these parts
abbrev pub is_inner : Part → Bool
is_inner parts.Look = true
is_inner parts.Judge = true
is_inner parts.Receive = true
is_inner parts.Excluded = true
is_inner parts.Done = true
is_inner parts.Give = true
is_inner part = false

pub inner_part : (part : Part)
    → (part ≡ parts.Look) ⊎ ((part ≡ parts.Judge) ⊎ ((part ≡ parts.Receive) ⊎ ((part ≡ parts.Excluded)
    ⊎ ((part ≡ parts.Done) ⊎ (part ≡ parts.Give))))) → is_inner part ≡ true
inner_part part (inl e) = ap is_inner e
inner_part part (inr (inl e)) = ap is_inner e
inner_part part (inr (inr (inl e))) = ap is_inner e
inner_part part (inr (inr (inr (inl e)))) = ap is_inner e
inner_part part (inr (inr (inr (inr (inl e))))) = ap is_inner e
inner_part part (inr (inr (inr (inr (inr e))))) = ap is_inner e

-- a part is the take, or the letters'
abbrev pub is_take : Part → Bool
is_take parts.Take = true
is_take part = false

abbrev pub is_give : Part → Bool
is_give parts.Give = true
is_give part = false

-- the first place of a part
abbrev pub begin : ℕ → Place
begin i = record { part = i; row = 0; column = 0 }

-- a part with one place has none but its first
pub only_place : (n k i : ℕ) (p : Place) → IsIn n k p → rows_in n (part_of p) ≡ 1
    → columns_in k (part_of p) ≡ 1 → p.part ≡ i → p ≡ begin i
only_place n k i p is rows columns number =
    let row : p.row ≡ 0 = omega (arith, is.row, rows) in
    let column : p.column ≡ 0 = omega (arith, is.column, columns) in
    λ z. record { part = number z; row = row z; column = column z }

-- the place of the letter for a member
abbrev pub give_to : ℕ → Place
give_to i = record { part = 20; row = i; column = 0 }

-- a part is that of appends
abbrev pub is_append_part : Part → Bool
is_append_part parts.Append = true
is_append_part part = false

abbrev pub is_receive : Part → Bool
is_receive parts.Receive = true
is_receive part = false

-- the deeds of a part behind which the next place comes
abbrev pub is_left : Part → Bool
is_left parts.Look = true
is_left parts.Append = true
is_left parts.Vote = true
is_left parts.Push = true
is_left (parts.Do acts.Beat) = true
is_left part = false

abbrev pub is_publish : Part → Bool
is_publish (parts.Do acts.Publish) = true
is_publish part = false

-- the number of the part that comes after one
abbrev pub next_part : ℕ → ℕ
next_part i = if nat_lt (i + 1) (length TURN) then i + 1 else 0

-- deeds that are one name one index
pub same_look : (x y : ℕ) → deeds.Look x ≡ deeds.Look y → x ≡ y
same_look x y e = cc

pub same_push : (x y v w : ℕ) → deeds.Push x v ≡ deeds.Push y w → x ≡ y
same_push x y v w e = cc

-- a part is the vote's
abbrev pub is_vote : Part → Bool
is_vote parts.Vote = true
is_vote part = false

-- the part with this number
abbrev pub numbered : ℕ → Part
numbered a = slice_index_or TURN a turn_begins

-- the part is that at which members judge
abbrev pub is_judge : Part → Bool
is_judge parts.Judge = true
is_judge part = false

abbrev pub is_propose : Part → Bool
is_propose (parts.Do acts.Propose) = true
is_propose part = false

abbrev pub is_accept : Part → Bool
is_accept (parts.Do acts.Accept) = true
is_accept part = false

-- the part is an end that comes by itself; no part of a turn is
abbrev pub is_end : Part → Bool
is_end (parts.Do (acts.Halt end)) = true
is_end (parts.Do (acts.Crash end)) = true
is_end part = false

pub no_end : (i : ℕ) → i < length TURN → is_end (numbered i) ≡ false
unfolding all_below
no_end i within = not-true _ (each_below (length TURN) i (λ j. not (is_end (numbered j))) refl within)

-- the step is such an end
abbrev pub is_final : Step → Bool
is_final (steps.Do a) = is_end (parts.Do a)
is_final s = false

-- what a member judges is one of them
pub verdict_of : (r : Running) → is_verdict (judged r) ≡ true
verdict_of r = by (named_by r.replica) (scripted r) (told r.replica) (overdue r)
    (is_wedged r.replica && not (has_majority r.replica))
  where
    by : (named script spread late : Option ℕ) (few : Bool)
        → is_verdict (unwrap_or (option_or (option_map (λ by. acts.Halt (ends.Suspected by)) named)
        (option_or (option_map acts.Suspect script)
        (option_or (option_map acts.Suspect spread) (option_or (option_map acts.Suspect late)
        (if few then Some (acts.Halt (ends.NoMajority (unsuspected r.replica))) else None)))))
        (acts.Suspect (me r.replica))) ≡ true
    by (Some i) script spread late few = refl
    by None (Some i) spread late few = refl
    by None None (Some i) late few = refl
    by None None None (Some i) few = refl
    by None None None None true = refl
    by None None None None false = refl

-- the part is an act that members judge; no part of a turn names one
abbrev pub has_verdict : Part → Bool
has_verdict (parts.Do a) = is_verdict a
has_verdict part = false

pub no_verdict : (i : ℕ) → i < length TURN → has_verdict (numbered i) ≡ false
unfolding all_below
no_verdict i within = not-true _ (each_below (length TURN) i (λ j. not (has_verdict (numbered j))) refl within)

-- what a member judges is no beat
pub verdict_no_beat : (a : Act) → is_verdict a ≡ true → is_beat (parts.Do a) ≡ false
verdict_no_beat a verdict = grind (arith, verdict)

-- only a beat counts a turn, and only an end ends the member
pub taken_turns : (r : Replica) (a : Act) → is_beat (parts.Do a) ≡ false → (taken r a).turns ≡ r.turns
taken_turns r a other = grind (arith, other)

pub taken_end : (r : Replica) (a : Act) → is_end (parts.Do a) ≡ false → (taken r a).end ≡ r.end
taken_end r a other = grind (arith, other)

-- the step ends a view
abbrev pub ends_view : Step → Bool
ends_view (Do a) = leaves_view a
ends_view s = false

-- no act by which the member stays in its view changes what was pushed
pub taken_pushed : (r : Replica) (a : Act) → ends_view (steps.Do a) ≡ false → (taken r a).rows.sent ≡ r.rows.sent
taken_pushed r a stays = grind (arith, stays)

-- so it is with the ends of steps
pub end_stays : (word : ℕ) (r : Replica) (s : Step) → is_final s ≡ false → (stepped word r s).end ≡ r.end
end_stays word r s other = grind (arith, other)

pub end_comes : (word : ℕ) (r : Replica) (s : Step) → is_final s ≡ true → is_some (stepped word r s).end ≡ true
end_comes word r s final = grind (arith, final)

-- and with the turns of the step that a part has where the member stands
abbrev pub due_at : Running → Part → Step
due_at r part = step_at r part r.place.row r.place.column

pub turns_stay : (word : ℕ) (r : Running) (part : Part) → is_beat part ≡ false
    → (stepped word r.replica (due_at r part)).turns ≡ r.replica.turns
turns_stay word r parts.Judge other = taken_turns r.replica (judged r) (verdict_no_beat (judged r) (verdict_of r))
turns_stay word r part other = grind (arith, other)

pub no_task : Replica → ℕ
no_task r = 0

pub verdict_less : (a : Act) → is_verdict a ≡ true → is_final (steps.Do a) ≡ false → least (steps.Do a) ≡ 1
verdict_less a verdict other = grind (arith, verdict, other)

-- there is a count and a beat of each member of the greatest group after each step
pub waits_keep : (word : ℕ) (r : Running) (s : Step) → IsWaits r.waits → IsWaits (waits_after word r s)
waits_keep word r s is = record {
  counts = grind (arith, is.counts, length-set);
  beats = grind (arith, is.beats, length-set);
}

-- a vote that waits is gone after the acts on it, and no other step but a vote changes which one waits
abbrev pub acts_on : Part → Bool
acts_on part = is_propose part || is_accept part

pub pending_gone : (word : ℕ) (r : Running) (part : Part) → acts_on part ≡ true
    → (stepped word r.replica (due_at r part)).pending ≡ None
pending_gone word r part acts = grind (arith, acts)

pub verdict_pending : (r : Replica) (a : Act) → is_verdict a ≡ true → (taken r a).pending ≡ r.pending
verdict_pending r a verdict = grind (arith, verdict)

-- no vote waits at a part that doesn't act on it
pub none_waits : (r : Running) (part : Part) → part_of r.place ≡ part → acts_on part ≡ false
    → WaitsAt r (part_of r.place) → r.replica.pending ≡ None
none_waits r part at other (inl none) = none
none_waits r part at other (inr (inl e)) = absurd (cc (sym (ap acts_on e) ∙ ap acts_on at, other))
none_waits r part at other (inr (inr t)) = absurd (cc (sym (ap acts_on t.0) ∙ ap acts_on at, other))

pub propose_test : (part : Part) → is_propose part ≡ true → part ≡ parts.Do acts.Propose
propose_test part e = grind (arith, e)

pub accept_test : (part : Part) → is_accept part ≡ true → part ≡ parts.Do acts.Accept
accept_test part e = grind (arith, e)

-- other steps stay in the view
pub view_stays : (word : ℕ) (r : Replica) (s : Step) → ends_view s ≡ false → (stepped word r s).view ≡ r.view
view_stays word r s stays = grind (arith, stays)

-- the parts behind the end of a member that was to crash, and the beginning of the next turn
abbrev pub is_behind_crash : Part → Bool
is_behind_crash parts.Done = true
is_behind_crash parts.Give = true
is_behind_crash parts.Spent = true
is_behind_crash (parts.Do a) = ends_view (steps.Do a) || is_beat (parts.Do a)
is_behind_crash part = false

-- the part is one that a member of the first view which suspects nobody passes: it takes and gives no letter,
-- judges nothing, has no vote, and doesn't end its view
abbrev pub is_passed : Part → Bool
is_passed parts.Take = true
is_passed parts.Judge = true
is_passed parts.Vote = true
is_passed (parts.Do acts.Propose) = true
is_passed (parts.Do acts.Accept) = true
is_passed (parts.Do acts.Commit) = true
is_passed (parts.Do a) = ends_view (Do a)
is_passed parts.Excluded = true
is_passed parts.Give = true
is_passed part = false

-- the act of such a part it may not do
pub passed_act : (r : Replica) (a : Act) → r.suspects ≡ 0 → r.pending ≡ None → r.committed ≡ None
    → is_passed (parts.Do a) ≡ true → may r a ≡ false
passed_act r a calm idle none passed = grind (arith, calm, idle, none, passed)

-- the part is that of a crash
abbrev pub is_crash : Part → Bool
is_crash parts.Crash = true
is_crash part = false

pub crash_test : (part : Part) → is_crash part ≡ true → part ≡ parts.Crash
crash_test parts.Crash e = refl
crash_test part e = absurd (cc)

-- these parts come only behind such ones, and behind that of a crash
behind_next : (i : ℕ) → i + 1 < length TURN → is_behind_crash (slice_index_or TURN (i + 1) turn_begins) ≡ true
    → (is_behind_crash (slice_index_or TURN i turn_begins)
    || is_crash (slice_index_or TURN i turn_begins)) ≡ true
unfolding all_below
behind_next i l late = implied _ _
    (each_below (length TURN - 1) i (λ j. not (is_behind_crash (slice_index_or TURN (j + 1) turn_begins))
    || (is_behind_crash (slice_index_or TURN j turn_begins)
    || is_crash (slice_index_or TURN j turn_begins))) refl (omega (arith, l))) late
  where
    implied : (a b : Bool) → (not a || b) ≡ true → a ≡ true → b ≡ true
    implied true b t e = t
    implied false b t e = absurd (cc)

-- such a place comes only behind such a one or one at a crash
pub behind_after : (n k : ℕ) (p : Place) → is_behind_crash (part_of (after n k p)) ≡ true
    → (is_behind_crash (part_of p) || is_crash (part_of p)) ≡ true
behind_after n k p late = by (nat_lt (p.column + 1) (columns_in k (part_of p)))
    (nat_lt (p.row + 1) (rows_in n (part_of p))) (nat_lt (p.part + 1) (length TURN)) refl late
  where
    same : (a b : Bool) → a ≡ true → (a || b) ≡ true
    same a b e = rw e refl

    by : (x y z : Bool) → nat_lt (p.part + 1) (length TURN) ≡ z → is_behind_crash (part_of
        (if x then record p { column = p.column + 1 } else (if y then record p { row = p.row + 1; column = 0 }
        else record { part = if z then p.part + 1 else 0; row = 0; column = 0 }))) ≡ true
        → (is_behind_crash (part_of p) || is_crash (part_of p)) ≡ true
    by true y z e h = same _ _ h
    by false true z e h = same _ _ h
    by false false true e h = behind_next p.part (grind (arith, nat_tests, e)) h
    by false false false e h = absurd (cc)

-- who has committed nothing doesn't end its view
pub view_goes_on : (r : Replica) (s : Step) → r.committed ≡ None → allows r s ≡ true → ends_view s ≡ false
view_goes_on r s none may = grind (arith, none, may)

-- and no other step makes a member suspect anybody
pub suspects_stay : (word : ℕ) (r : Replica) (s : Step) → judges s ≡ false → ends_view s ≡ false
    → (stepped word r s).suspects ≡ r.suspects
suspects_stay word r s other stays = grind (arith, other, stays)

-- who ends a view has pushed nothing in the next one
pub begins_anew : (r : Replica) (a : Act) → ends_view (steps.Do a) ≡ true
    → ((taken r a).rows ≡ first_rows r.rows.members r.rows.columns r.rows.me r.logged)
    × ((taken r a).view ≡ r.view + 1)
begins_anew r acts.Finish ends = (refl, refl)
begins_anew r a ends = absurd (cc ends)

-- the step begins a turn
abbrev pub begins_turn : Step → Bool
begins_turn (steps.Do a) = is_beat (parts.Do a)
begins_turn s = false

-- only a look and a join change what a member has seen
pub seen_stays : (g : Group) (w : World) (m i : ℕ) (s : Step) → is_look s ≡ false → IsNoJoin s → ends_view s ≡ false
    → (effect_of g w m s).seen m i BEAT_COLUMN ≡ w.seen m i BEAT_COLUMN
seen_stays g w m i s other no_join stays = grind (arith, other, no_join, stays)

-- the part is not one of the last ends, or stands at its number from the end
abbrev is_at : ℕ → Part → Bool
is_at i parts.Done = i == length TURN - 5
is_at i parts.Spent = i == length TURN - 2
is_at i part = true

pub stands_at : (i : ℕ) (part : Part) → i < length TURN → numbered i ≡ part → is_at i part ≡ true
unfolding all_below
stands_at i part within at = subst (λ x. is_at i x ≡ true) at
    (each_below (length TURN) i (λ j. is_at j (numbered j)) refl within)

-- the parts whose deeds are done once
abbrev pub is_once : Part → Bool
is_once parts.Look = true
is_once parts.Append = true
is_once parts.Push = true
is_once part = false
