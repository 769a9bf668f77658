-- What is due to a running member, by the kind of its next deed.
use Rattle.std.specs.Prelude.{Option, None, Some, slice_get, unwrap_or, option_map, is_some}
use Rattle.std.proofs.Common.{◌≡◌, refl, List, Bool, true, false, ℕ, ◌<◌, ◌&&◌, nat_lt, sym, ap, ◌∙◌, ◌||◌, ◌+◌, ◌==◌, if◌then◌else◌, arith, ◌≤◌, not, subst, [], ◌∷◌, map, length, inl, inr, zero, suc, ◌≢◌, ◌⊎◌}
use Rattle.std.proofs.lemmas.Bool.{and_parts, ltb-true, Decides.nat_tests}
use Rattle.std.proofs.lemmas.Option.{get_or_from_slice_get, same_Some}
use Rattle.dr_entry.specs.{declared.{end.End.End, entry.Entry.{Entry, TheVariants.View}}, declared.record.Vote.Vote}
use Rattle.dr_entry.proofs.{BoolFacts.{other_ballot, tested, stops_due}, Ends.stops_end}
use Rattle.dr_entry.specs.declared.record.Record.TheVariants as records
use Rattle.dr_entry.specs.declared.end.End.TheVariants as ends
use Rattle.dr_history.specs.Order.{first_entries}
use Rattle.dr_rows.specs.Words as rows
use Rattle.dr_rows.specs.Words.{own}
use Rattle.dr_words.specs.{Columns.columns_of, declared.column.TheConstants.BEAT_COLUMN}
use Rattle.dr_suspect.specs.Waits.{compared, beat_of, turns_without_news}
use Rattle.dr_machine.specs.{Group.{Group, roster}, World.World, declared.{event.Act.Act, step.Step.Step}}
use Rattle.dr_machine.{specs.declared.step.Step.TheVariants.{Do, Join, Push, Look}, proofs.Groups.{IsPlace, place_in}}
use Rattle.dr_machine.specs.declared.step.Step.TheVariants as steps
use Rattle.dr_machine.specs.declared.event.Act.TheVariants as acts
use Rattle.dr_program.{specs.Acts.{may, is_outside_act}, proofs.{Order.after_propose, Parts.judged_inside}}
use Rattle.dr_program.{specs.{Form.IsRunningMember, declared.setup.Setup.Setup}, proofs.Replicas.{may_look, itself}}
use Rattle.dr_program.specs.{Presence.{present_at, with_present}, Reading.{step_due, step_of_member}}
use Rattle.dr_program.specs.{Program.{after_deed, Program}, Turn.{part_of, IsIn, places_in}, declared.deed.Deed.Deed}
use Rattle.dr_program.specs.Replica.{is_other, is_inside, looked, value_due, vote_of, me, has_majority, is_wedged, unsuspected, Replica, begun_replica, is_others, is_own}
use Rattle.dr_program.specs.Running.{Running, took_letter, deed, deed_of, next_deed, next_step, columns, members, asks, waits_after, pushes_after, judged, judgement, named_by, overdue, scripted, told, crashes_now, push_or_crash, step_at, begun_running, settled, WaitsAt, applies, moved, settle, broken_off}
use Rattle.dr_program.specs.Sight.{IsSeenNext}
use Rattle.dr_program.specs.Steps.{has_cell, allows, allows_inside, is_outside_step, stepped, index_in, IsAppend}
use Rattle.dr_program.specs.declared.{outcome.{LogWhy.LogWhy, Outcome.Outcome}, place.{Part.Part, TheConstants.TURN}}
use Rattle.dr_program.specs.declared.deed.Deed.TheVariants as deeds
use Rattle.dr_program.specs.declared.place.Part.TheVariants as parts

pub took_failed : (letter : Option (List Entry)) (r : Running) → (took_letter letter r).failed ≡ r.failed
took_failed None r = refl
took_failed (Some letter) r = refl

-- a deed of a kind that rest is not is one of a member without an end
pub deed_due : (kind : Deed → Bool) → ((end : End) → kind (deeds.Rest end) ≡ false) → (r : Running)
    → kind (next_deed r) ≡ true → (r.replica.end ≡ None) × (kind (deed_of r (next_step r)) ≡ true)
deed_due kind rests r e = by r.replica.end refl e
  where
    by : (o : Option End) → r.replica.end ≡ o → kind (deed r o) ≡ true → (r.replica.end ≡ None)
        × (kind (deed_of r (next_step r)) ≡ true)
    by None none e = (none, e)
    by (Some end) none e = absurd (cc (rests end, e))

-- another member's row and a column, where the step is a look or a push
pub record IsCellOf (r : Running) (i c : ℕ) : Type 0 where
  pub row : i < members r
  pub other : is_other r.replica i ≡ true
  pub column : c < columns r

-- a cell that the replica has is one of the member's
pub is_cell : (r : Running) (i c : ℕ) → has_cell r.replica i c ≡ true → IsCellOf r i c
is_cell r i c e =
    let first = and_parts (nat_lt i r.replica.roster) (is_other r.replica i && nat_lt c (columns r)) e in
    let rest = and_parts (is_other r.replica i) (nat_lt c (columns r)) first.1 in
    record { row = ltb-true i r.replica.roster first.0; other = rest.0; column = ltb-true c (columns r) rest.1 }

-- what is due is allowed
pub allowed : (r : Running) → IsRunningMember r → r.replica.end ≡ None → (s : Step) → next_step r ≡ s
    → allows r.replica s ≡ true
allowed r m none s is = ap (allows r.replica) (sym is)
    ∙ (and_parts (asks r (part_of r.place) r.place.row r.place.column) (allows r.replica (next_step r))
    (m.due none)).1

-- so it is where the member is in its view, and it is there, where nobody may take the step outside
pub allowed_inside : (r : Running) → IsRunningMember r → r.replica.end ≡ None → (s : Step) → next_step r ≡ s
    → allows_inside r.replica s ≡ true
allowed_inside r m none s is =
    (and_parts (is_outside_step s || is_inside r.replica) (allows_inside r.replica s) (allowed r m none s is)).1

pub in_view : (r : Running) → IsRunningMember r → r.replica.end ≡ None → (s : Step) → next_step r ≡ s
    → is_outside_step s ≡ false → is_inside r.replica ≡ true
in_view r m none s is = either (is_outside_step s) (is_inside r.replica)
    (and_parts (is_outside_step s || is_inside r.replica) (allows_inside r.replica s) (allowed r m none s is)).0
  where
    either : (a b : Bool) → (a || b) ≡ true → a ≡ false → b ≡ true
    either true b e f = absurd (cc f)
    either false b e f = e

-- within a row it goes on waiting as before, and with the last column it has waited a turn more
pub waits_stay : (word : ℕ) (r : Running) (i c : ℕ) → c + 1 < columns r
    → r.waits ≡ waits_after word r (steps.Look i c)
waits_stay word r i c within = by (c + 1 == columns r) (grind (arith, nat_tests, within))
  where
    by : (b : Bool) → b ≡ false
        → r.waits ≡ (if b then compared r.waits (rows.looked r.replica.rows i c word) i else r.waits)
    by true e = absurd (cc)
    by false e = refl

pub waits_turn : (word : ℕ) (r : Running) (i c : ℕ) → c < columns r → columns r ≤ c + 1
    → compared r.waits (rows.looked r.replica.rows i c word) i ≡ waits_after word r (steps.Look i c)
waits_turn word r i c within past = by (c + 1 == columns r) (grind (arith, nat_tests, within, past))
  where
    by : (b : Bool) → b ≡ true → compared r.waits (rows.looked r.replica.rows i c word) i
        ≡ (if b then compared r.waits (rows.looked r.replica.rows i c word) i else r.waits)
    by true e = refl
    by false e = absurd (cc)

-- the next deed is a look at this word
pub record IsLookDue (r : Running) (word : ℕ) : Type 0 where
  pub none : r.replica.end ≡ None
  pub at : part_of r.place ≡ parts.Look
  pub inside : is_inside r.replica ≡ true
  pub may : may_look r.replica r.place.row r.place.column ≡ true
  pub cell : IsCellOf r r.place.row r.place.column
  pub seen : IsSeenNext r r.place.row r.place.column word
  -- what it makes of the replica, of the pushes and, within the row and with its last column, of the waits
  pub step : stepped word r.replica (next_step r) ≡ looked r.replica r.place.row r.place.column word
  pub pushes : r.pushes ≡ pushes_after r.pushes (next_step r)
  pub within : r.place.column + 1 < columns r → r.waits ≡ waits_after word r (next_step r)
  pub past : columns r ≤ r.place.column + 1
      → compared r.waits (rows.looked r.replica.rows r.place.row r.place.column word) r.place.row
      ≡ waits_after word r (next_step r)

-- without an end the next deed is that of the next step
pub next_without_end : (r : Running) → r.replica.end ≡ None → next_deed r ≡ deed_of r (next_step r)
next_without_end r none = ap (deed r) none

-- the next deed is to append this entry, or this vote
pub entry_deed : (r : Running) (entry : Entry) → r.replica.end ≡ None → steps.Append ≡ next_step r
    → slice_get r.replica.history r.replica.logged ≡ Some entry → deeds.Append (records.Entry entry) ≡ next_deed r
entry_deed r entry none step there = ap (λ e. deeds.Append (records.Entry e))
    (sym (get_or_from_slice_get r.replica.history r.replica.logged entry (View 0 0 0) there))
    ∙ ap (deed_of r) step ∙ ap (deed r) (sym none)

pub vote_deed : (r : Running) (vote : Vote) → r.replica.end ≡ None → steps.LogVote (value_due r.replica) ≡ next_step r
    → vote ≡ vote_of r.replica (value_due r.replica) → deeds.Append (records.Vote vote) ≡ next_deed r
vote_deed r vote none step is =
    ap (λ v. deeds.Append (records.Vote v)) is ∙ ap (deed_of r) step ∙ ap (deed r) (sym none)

-- what a member has judged is its judgement, and else that it suspects itself
pub judged_as : (r : Running) (o : Option Act) (i : ℕ) → o ≡ judgement r → i ≡ me r.replica
    → unwrap_or o (acts.Suspect i) ≡ judged r
judged_as r o i is itself = λ z. unwrap_or (is z) (acts.Suspect (itself z))

pub unjudged : (r : Running) → judgement r ≡ None → may r.replica (judged r) ≡ false
unjudged r e = sym (ap (may r.replica) (judged_as r None _ (sym e) refl)) ∙ itself r.replica

pub judge_allowed : (r : Running)
    → allows r.replica (Do (judged r)) ≡ (is_inside r.replica && may r.replica (judged r))
judge_allowed r = ap (λ b. (b || is_inside r.replica) && may r.replica (judged r))
    (judged_inside (named_by r.replica) (scripted r) (told r.replica) (overdue r)
    (is_wedged r.replica && not (has_majority r.replica)) (ends.NoMajority (unsuspected r.replica)) (me r.replica))

-- and outside it pushes nothing, but may crash
pub crash_alone : (r : Running) (i c : ℕ) → is_inside r.replica ≡ false
    → crashes_now r ≡ allows r.replica (push_or_crash (crashes_now r) i c)
crash_alone r i c outside = by (crashes_now r)
  where
    by : (b : Bool) → b ≡ allows r.replica (push_or_crash b i c)
    by true = refl
    by false = sym (ap (λ x. x && has_cell r.replica i c) outside)

-- at a look, and at a push before which the member doesn't crash
pub look_deed : (r : Running) → r.replica.end ≡ None → part_of r.place ≡ parts.Look
    → next_deed r ≡ deeds.Look (index_in r.replica (me r.replica) r.place.row r.place.column)
look_deed r none at = ap (deed r) none ∙ ap (λ part. deed_of r (step_at r part r.place.row r.place.column)) at

pub push_deed : (r : Running) → r.replica.end ≡ None → part_of r.place ≡ parts.Push → crashes_now r ≡ false
    → next_deed r ≡ deeds.Push (index_in r.replica r.place.row (me r.replica) r.place.column)
    (own r.replica.rows r.place.column)
push_deed r none at later = ap (deed r) none ∙ ap (λ part. deed_of r (step_at r part r.place.row r.place.column)) at
    ∙ ap (λ b. deed_of r (push_or_crash b r.place.row r.place.column)) later

-- an act that is due may be done, where the member stands
pub act_may : (r : Running) (q : Replica) (s : Step) (a : Act) → IsRunningMember r → r.replica.end ≡ None
    → q ≡ r.replica → s ≡ next_step r → s ≡ Do a → ((is_outside_act a || is_inside q) ≡ true) × (may q a ≡ true)
act_may r q s a m none same due is = subst (λ (x : Replica). ((is_outside_act a || is_inside x) ≡ true)
    × (may x a ≡ true)) (sym same) (and_parts (is_outside_act a || is_inside r.replica)
    (may r.replica a) (subst (λ (t : Step). allows r.replica t ≡ true) (sym due ∙ is)
    (and_parts (asks r (part_of r.place) r.place.row r.place.column) (allows r.replica (next_step r))
    (m.due none)).1))

pub replicas_begun : (setups : List (Option Setup))
    → map (option_map (λ (x : Running). x.replica)) (map (option_map begun_running) setups)
    ≡ map (option_map begun_replica) setups
replicas_begun [] = refl
replicas_begun (None ∷ setups) = ap (λ rs. None ∷ rs) (replicas_begun setups)
replicas_begun (Some s ∷ setups) = ap (λ rs. Some (begun_replica s) ∷ rs) (replicas_begun setups)

-- a take goes by the letter
pub after_take : (word : ℕ) (letter : Option (List Entry)) (o : Outcome) (r : Running) (s : Step) → s ≡ Join
    → after_deed word letter o r s ≡ settled (took_letter letter r)
after_take word letter o r s is = ap (after_deed word letter o r) is

-- what a member has as its age opens
pub record IsFresh (g : Group) (r : Running) : Type 0 where
  pub history : r.replica.history ≡ first_entries g.opening
  pub logged : r.replica.logged ≡ length r.replica.history
  pub votes : r.replica.votes ≡ []
  pub none : r.failed ≡ None

-- a member that does not show an end has none
pub going_none : (r : Running) → is_some r.replica.end ≡ false → r.replica.end ≡ None
going_none r going = by r.replica.end going
  where
    by : (o : Option End) → is_some o ≡ false → o ≡ None
    by None e = refl
    by (Some end) e = absurd (cc)

pub waits_on : (r : Running) → IsIn (members r) (columns r) r.place → WaitsAt r (part_of r.place)
    → (is_inside r.replica ≡ false → r.replica.pending ≡ None)
    → applies r r.place ≡ false → WaitsAt r (part_of (moved r).place)
waits_on r is waits idle e = by waits r.replica.pending refl
  where
    here : (part : Part) → part_of r.place ≡ part → (asks r part r.place.row r.place.column
        && allows r.replica (step_at r part r.place.row r.place.column)) ≡ false
    here part at = sym (ap (λ x. asks r x r.place.row r.place.column
        && allows r.replica (step_at r x r.place.row r.place.column)) at) ∙ e

    inside : (x : Vote) → r.replica.pending ≡ Some x → is_inside r.replica ≡ true
    inside x q = by (is_inside r.replica) refl
      where
        by : (b : Bool) → is_inside r.replica ≡ b → b ≡ true
        by true t = refl
        by false t = absurd (cc (q, idle t))

    by : WaitsAt r (part_of r.place) → (o : Option Vote) → r.replica.pending ≡ o → WaitsAt r (part_of (moved r).place)
    by (inl none) o q = inl none
    by (inr (inl at)) None q = inl q
    by (inr (inl at)) (Some x) q =
        let not_own : is_own (me r.replica) (Some x) ≡ false = sym (ap (is_own (me r.replica)) q)
        ∙ tested (is_inside r.replica) (is_own (me r.replica) r.replica.pending) (inside x q)
        (here (parts.Do acts.Propose) at) in
        inr (inr (
          after_propose (members r) (columns r) r.place is at,
          ap (is_others (me r.replica)) q ∙ other_ballot (x.ballot == me r.replica) not_own,
        ))
    by (inr (inr t)) None q = inl q
    by (inr (inr t)) (Some x) q = absurd (cc (
      t.1,
      tested (is_inside r.replica) (is_others (me r.replica) r.replica.pending) (inside x q)
          (here (parts.Do acts.Accept) t.0),
    ))

-- the member has ended, or there is something to do where it stands
abbrev pub stops : Running → Bool
stops r = is_some r.replica.end || applies r r.place

-- there the search stays
settle_here : (f : ℕ) (r : Running) → stops r ≡ true → settle f r ≡ r
unfolding settle
settle_here zero r e = refl
settle_here (suc f) r e = by (stops r) e
  where
    by : (x : Bool) → x ≡ true → (if x then r else settle f (moved r)) ≡ r
    by true h = refl
    by false h = absurd (cc)

-- where a member has ended or has something to do, the search stays
pub settled_here : (r : Running) → stops r ≡ true → settled r ≡ r
settled_here r e = settle_here (places_in (members r) (columns r) TURN) r e

-- where a member has ended, the search stays
pub settled_end : (r : Running) → is_some r.replica.end ≡ true → settled r ≡ r
settled_end r e = settled_here r (stops_end r.replica.end (applies r r.place) e)

-- elsewhere it goes on
pub settle_on : (f : ℕ) (r : Running) → stops r ≡ false → settle f (moved r) ≡ settle (suc f) r
unfolding settle
settle_on f r e = by (stops r) e
  where
    by : (x : Bool) → x ≡ false → settle f (moved r) ≡ (if x then r else settle f (moved r))
    by true h = absurd (cc)
    by false h = refl

pub stays : (r : Running) → applies r r.place ≡ true → r ≡ settled r
stays r due = sym (settled_here r (stops_due (is_some r.replica.end) (applies r r.place) due))

-- a push that is due
pub due_push : (r : Running) (j c : ℕ) → step_of_member r ≡ Some (Push j c)
    → (r.replica.end ≡ None) × (next_step r ≡ Push j c)
due_push r j c push = by r.replica.end refl push
  where
    by : (o : Option End) → r.replica.end ≡ o → step_due r o ≡ Some (Push j c)
        → (r.replica.end ≡ None) × (next_step r ≡ Push j c)
    by None e same = (e, same_Some (next_step r) (Push j c) same)
    by (Some x) e same = absurd (cc)

-- no step at all changes for how long it waits, nor does a take
pub took_limit : (letter : Option (List Entry)) (r : Running) → (took_letter letter r).waits.limit ≡ r.waits.limit
took_limit None r = refl
took_limit (Some letter) r = refl

pub limit_stays : (word : ℕ) (r : Running) (s : Step) → (waits_after word r s).limit ≡ r.waits.limit
limit_stays word r s = grind arith

-- between turns a member waits without a limit or for three turns at least, and while it goes on it has
-- waited for nobody for more than one
pub record HasWaited (g : Group) (w : World) (m : ℕ) (r : Running) : Type 0 where
  pub limit : (r.waits.limit ≡ 0) ⊎ (3 ≤ r.waits.limit)
  pub beat : (i : ℕ) → i < roster g → i ≢ m → beat_of r.waits i ≡ w.seen m i BEAT_COLUMN
  pub few : (i : ℕ) → i < roster g → i ≢ m → r.replica.end ≡ None → turns_without_news r.waits i ≤ 1

-- no vote waits where an append has failed
abbrev pub IsIdleFailed : Running → Type 0
IsIdleFailed r = (why : LogWhy) → r.failed ≡ Some why → r.replica.pending ≡ None

abbrev pub AreIdleFailed : Program → Type 0
AreIdleFailed p = (m : ℕ) (r : Running) → present_at p.members m ≡ Some r → IsIdleFailed r

-- where the next step is an append no vote waits
pub idle_at : (r : Running) (part : Part) (i c : ℕ) → IsAppend (step_at r part i c) → WaitsAt r part
    → r.replica.pending ≡ None
idle_at r part i c due (inl none) = none
idle_at r part i c due (inr (inl propose)) = absurd (subst (λ p. IsAppend (step_at r p i c)) propose due)
idle_at r part i c due (inr (inr (accept, other))) = absurd (subst (λ p. IsAppend (step_at r p i c)) accept due)

pub breaks_idle : (why : LogWhy) (r : Running) → IsRunningMember r → IsAppend (next_step r)
    → IsIdleFailed (broken_off why r)
breaks_idle why r member due reason failed = idle_at r (part_of r.place) r.place.row r.place.column due member.free

-- a look of a member of the program is at a place of its copy
pub record IsLookOf (g : Group) (m : ℕ) (r : Running) (index : ℕ) : Type 0 where
  pub row : ℕ
  pub column : ℕ
  pub step : next_step r ≡ Look row column
  pub is : IsPlace g r.replica.view m row column
  pub at : index ≡ place_in g r.replica.view m row column

-- a deed that looks is a look at the place of a row and a column
pub look_is : (r : Running) (s : Step) (index : ℕ) → deed_of r s ≡ deeds.Look index
    → (i : ℕ) × (c : ℕ) × (s ≡ Look i c) × (index_in r.replica (me r.replica) i c ≡ index)
look_is r (Look i c) index e = (i, c, refl, cc e)
look_is r s index e = absurd (cc)

-- a deed that pushes is a push
pub push_is : (r : Running) (s : Step) (index word : ℕ) → deed_of r s ≡ deeds.Push index word → (j : ℕ)
    × (c : ℕ) × (s ≡ Push j c) × (index_in r.replica j (me r.replica) c ≡ index) × (own r.replica.rows c ≡ word)
push_is r (Push j c) index word e = (j, c, refl, cc e, cc e)
push_is r s index word e = absurd (cc)

-- the program in which member m is this one, over this table
abbrev pub with_member : Program → ℕ → Running → List ℕ → Program
with_member p m x cells = record { members = with_present p.members m x; table = cells; letters = p.letters }

-- one that acts stores at the place of its own beat word
pub act_is : (r : Running) (s : Step) (index word : ℕ) → deed_of r s ≡ deeds.Act index word
    → index_in r.replica (me r.replica) (me r.replica) 0 ≡ index
act_is r (Do a) index word e = cc e
act_is r s index word e = absurd (cc)

-- a member at a look, at the place of this index
pub record IsAtPlace (r : Running) (index : ℕ) : Type 0 where
  pub none : r.replica.end ≡ None
  pub row : ℕ
  pub column : ℕ
  pub step : next_step r ≡ steps.Look row column
  pub place : index_in r.replica (me r.replica) row column ≡ index
  pub among : row < r.replica.roster
  pub other : row ≢ me r.replica
  pub within : column < columns_of r.replica.roster r.replica.window

-- a push that is due
pub record IsPushAt (r : Running) (index word : ℕ) : Type 0 where
  pub none : r.replica.end ≡ None
  pub to : ℕ
  pub column : ℕ
  pub step : next_step r ≡ steps.Push to column
  pub place : index_in r.replica to (me r.replica) column ≡ index
  pub own : own r.replica.rows column ≡ word
  pub among : to < r.replica.roster
  pub other : to ≢ me r.replica
  pub within : column < columns_of r.replica.roster r.replica.window
