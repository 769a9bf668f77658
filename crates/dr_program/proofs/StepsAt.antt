-- What holds of a step that a part has and of the end in its place holds of whichever of the two is due.
use Rattle.std.specs.Prelude.{ℕ, Bool, true, false, Option, None, Some, not}
use Rattle.std.proofs.{Common.{◌≡◌, refl, sym, ap, ◌∙◌, subst, arith, ◌≢◌}, lemmas.Bool.{and_parts, eq-eqb}}
use Rattle.dr_entry.specs.declared.end.End.TheVariants as ends
use Rattle.dr_entry.specs.{declared.end.End.End, declared.record.Value.Value}
use Rattle.dr_rows.specs.Words.{changed, last_pushed, own}
use Rattle.dr_machine.specs.declared.event.Act.TheVariants as acts
use Rattle.dr_machine.{specs.{Acts.effect_of, Group.Group, World.World, declared.step.Step.Step}, proofs.Ends.judges}
use Rattle.dr_machine.specs.declared.step.Step.TheVariants as steps
use Rattle.dr_program.specs.{Form.IsRunningMember, Turn.{part_of, is_beat}, declared.place.Part.Part}
use Rattle.dr_program.specs.{Reading.{step_due, step_of_member}, Replica.{value_due, is_fault, is_inside, is_other}}
use Rattle.dr_program.specs.Running.{append_or_end, end_by, push_or_crash, vote_or_end, Running, broken_off, crashes_now, step_at, next_step, pushes_after, waits_after, asks, AsksForLetter, judged}
use Rattle.dr_program.{specs.Sight.{IsSeenNext, MaySee}, proofs.{Replicas.{IsTaking, turns_stay}, Runs.joins_outside}}
use Rattle.dr_program.specs.{Steps.{IsAppend, has_cell, stepped, IsNoJoin, allows}, declared.outcome.LogWhy.LogWhy}
use Rattle.dr_program.proofs.Parts.{acts_on, none_waits, has_verdict, is_judge, verdict_no_beat, verdict_of, is_take}
use Rattle.dr_program.proofs.RunningPrograms.{is_cell, allowed_inside, in_view, waits_stay, waits_turn, IsLookDue}
use Rattle.dr_program.proofs.Search.{applies_at}
use Rattle.dr_program.specs.declared.place.Part.TheVariants as parts
use Rattle.dr_program.specs.declared.outcome.LogWhy.TheVariants as whys

-- an append, or the end by the log
pub append_either : (P : Step → Type 0) (o : Option LogWhy) → P steps.Append
    → ((why : LogWhy) → P (steps.Do (acts.Crash (end_by why)))) → P (append_or_end o)
append_either P None well broken = well
append_either P (Some why) well broken = broken why

-- a vote, or that end
pub vote_either : (P : Step → Type 0) (o : Option LogWhy) (v : Value) → P (steps.LogVote v)
    → ((why : LogWhy) → P (steps.Do (acts.Crash (end_by why)))) → P (vote_or_end o v)
vote_either P None v well broken = well
vote_either P (Some why) v well broken = broken why

-- a push, or the crash just before it
pub push_either : (P : Step → Type 0) (crashes : Bool) (i c : ℕ) → P (steps.Push i c)
    → P (steps.Do (acts.Crash ends.Crashed)) → P (push_or_crash crashes i c)
push_either P false i c pushed crashed = pushed
push_either P true i c pushed crashed = crashed

-- a member whose append fails ends by that
pub ends_at : (why : LogWhy) (r : Running) (part : Part) (i c : ℕ) → IsAppend (step_at r part i c)
    → step_at (broken_off why r) part i c ≡ append_or_end (Some why)
ends_at why r parts.Append i c due = refl
ends_at why r parts.Vote i c due = refl
ends_at why r parts.Push i c due =
    absurd (push_either (λ s. IsAppend s → ⊥) (crashes_now r) i c (λ x. x) (λ x. x) due)
ends_at why r part i c due = absurd due

look_part : (r : Running) (part : Part) (i c word : ℕ) → MaySee r (Some (step_at r part i c)) word
    → (part ≡ parts.Look) × IsSeenNext r i c word
look_part r parts.Look i c word may = (refl, may)
look_part r parts.Push i c word may =
    absurd (push_either (λ s. MaySee r (Some s) word → ⊥) (crashes_now r) i c (λ x. x) (λ x. x) may)
look_part r parts.Append i c word may =
    absurd (append_either (λ s. MaySee r (Some s) word → ⊥) r.failed (λ x. x) (λ why x. x) may)
look_part r parts.Vote i c word may =
    absurd (vote_either (λ s. MaySee r (Some s) word → ⊥) r.failed _ (λ x. x) (λ why x. x) may)
look_part r parts.Receive i c word may = absurd may
look_part r part i c word may = absurd may

-- a running member that may see a word has a look at it due
pub look_due : (r : Running) (word : ℕ) → IsRunningMember r → MaySee r (step_of_member r) word → IsLookDue r word
look_due r word m may = by r.replica.end refl may
  where
    due : r.replica.end ≡ None → MaySee r (Some (next_step r)) word → IsLookDue r word
    due none see =
        let at = look_part r (part_of r.place) r.place.row r.place.column word see in
        let step : next_step r ≡ steps.Look r.place.row r.place.column =
        ap (λ x. step_at r x r.place.row r.place.column) at.0 in
        let may = allowed_inside r m none (steps.Look r.place.row r.place.column) step in
        let cell = is_cell r r.place.row r.place.column
        (and_parts _ (has_cell r.replica r.place.row r.place.column) may).1 in
        record {
          none = none;
          at = at.0;
          inside = in_view r m none (steps.Look r.place.row r.place.column) step refl;
          may = may;
          cell = cell;
          seen = at.1;
          step = ap (stepped word r.replica) step;
          pushes = ap (pushes_after r.pushes) (sym step);
          within = λ inner. waits_stay word r r.place.row r.place.column inner ∙ ap (waits_after word r) (sym step);
          past = λ outer. waits_turn word r r.place.row r.place.column cell.column outer
              ∙ ap (waits_after word r) (sym step);
        }

    by : (o : Option End) → r.replica.end ≡ o → MaySee r (step_due r o) word → IsLookDue r word
    by None none may = due none may
    by (Some end) none may = absurd may

-- the parts of appends
abbrev appends : Part → Bool
appends parts.Append = true
appends parts.Vote = true
appends part = false

-- an append is due only at their own parts, and only where none has failed
pub append_at : (r : Running) (part : Part) (i c : ℕ) → IsAppend (step_at r part i c)
    → (appends part ≡ true) × (r.failed ≡ None)
append_at r parts.Append i c e = (refl, by r.failed refl e)
  where
    by : (o : Option LogWhy) → r.failed ≡ o → IsAppend (append_or_end o) → r.failed ≡ None
    by None same e = same
    by (Some why) same e = absurd e
append_at r parts.Vote i c e = (refl, by r.failed refl e)
  where
    by : (o : Option LogWhy) → r.failed ≡ o → IsAppend (vote_or_end o (value_due r.replica)) → r.failed ≡ None
    by None same e = same
    by (Some why) same e = absurd e
append_at r parts.Push i c e = absurd (push_either (λ s. IsAppend s → ⊥) (crashes_now r) i c (λ x. x) (λ x. x) e)
append_at r part i c e = absurd e

-- a member may end by a fault of its log at any time
pub may_end : (why : LogWhy) → is_fault (end_by why) ≡ true
may_end whys.DiskFault = refl
may_end (whys.LogFull len) = refl

-- so it does where its append has failed
ends_there : (why : LogWhy) (r : Running) (part : Part) (i c : ℕ) → appends part ≡ true
    → applies_at (broken_off why r) part i c ≡ true
ends_there why r parts.Append i c e = may_end why
ends_there why r parts.Vote i c e = may_end why
ends_there why r part i c e = absurd (cc e)

-- a running member whose append fails stays one
pub failed_form : (why : LogWhy) (r : Running) → IsRunningMember r → r.replica.end ≡ None
    → IsAppend (next_step r) → IsRunningMember (broken_off why r)
failed_form why r m none e = record {
  replica = m.replica;
  place = m.place;
  due = λ still. ends_there why r (part_of r.place) r.place.row r.place.column at;
  turns = m.turns;
  waits = m.waits;
  free = m.free;
  left = m.left;
}
  where
    at : appends (part_of r.place) ≡ true
    at = (append_at r (part_of r.place) r.place.row r.place.column e).0

-- the step is an append only where none has failed
pub none_failed : (r : Running) → IsAppend (next_step r) → r.failed ≡ None
none_failed r is = (append_at r (part_of r.place) r.place.row r.place.column is).1

-- a join is due at its own part alone
pub no_join_at : (r : Running) (part : Part) (i c : ℕ) → is_take part ≡ false → IsNoJoin (step_at r part i c)
no_join_at r parts.Take i c other = absurd (cc other)
no_join_at r parts.Append i c other = append_either IsNoJoin r.failed tt (λ why. tt)
no_join_at r parts.Vote i c other = vote_either IsNoJoin r.failed _ tt (λ why. tt)
no_join_at r parts.Push i c other = push_either IsNoJoin (crashes_now r) i c tt tt
no_join_at r part i c other = tt

take_at : (r : Running) (part : Part) (i c : ℕ) → (IsNoJoin (step_at r part i c) → ⊥) → is_take part ≡ true
take_at r part i c join = by (is_take part) refl
  where
    by : (b : Bool) → is_take part ≡ b → is_take part ≡ true
    by true e = e
    by false e = absurd (join (no_join_at r part i c e))

pub taking : (r : Running) → IsRunningMember r → AsksForLetter r → IsTaking r
taking r m is = record {
  at = at;
  idle = none_waits r (part_of r.place) refl (other (part_of r.place) at) m.free;
  outside = outside;
  first = (m.replica.outside outside).first;
}
  where
    at : is_take (part_of r.place) ≡ true
    at = take_at r (part_of r.place) r.place.row r.place.column (λ none. subst IsNoJoin is.due none)

    other : (part : Part) → is_take part ≡ true → acts_on part ≡ false
    other part e = grind (arith, e)

    outside : is_inside r.replica ≡ false
    outside = joins_outside r.replica (next_step r) is.due (and_parts
        (asks r (part_of r.place) r.place.row r.place.column) (allows r.replica (next_step r)) (m.due is.unended)).1

-- no other part has such a step
pub plain_step : (r : Running) (part : Part) (i c : ℕ) → is_judge part ≡ false → has_verdict part ≡ false
    → judges (step_at r part i c) ≡ false
plain_step r parts.Judge i c other none = absurd (cc)
plain_step r parts.Append i c other none = append_either (λ s. judges s ≡ false) r.failed refl (λ why. refl)
plain_step r parts.Vote i c other none = vote_either (λ s. judges s ≡ false) r.failed _ refl (λ why. refl)
plain_step r parts.Push i c other none = push_either (λ s. judges s ≡ false) (crashes_now r) i c refl refl
plain_step r (parts.Do a) i c other none = none
plain_step r part i c other none = refl

-- the turns, but where one begins
pub turns_on : (g : Group) (w : World) (m : ℕ) (r : Running) (part : Part) (i c : ℕ)
    → is_beat part ≡ false → (effect_of g w m (step_at r part i c)).turns m ≡ w.turns m
turns_on g w m r parts.Append i c other =
    append_either (λ s. (effect_of g w m s).turns m ≡ w.turns m) r.failed refl (λ why. refl)
turns_on g w m r parts.Vote i c other =
    vote_either (λ s. (effect_of g w m s).turns m ≡ w.turns m) r.failed _ refl (λ why. refl)
turns_on g w m r parts.Push i c other =
    push_either (λ s. (effect_of g w m s).turns m ≡ w.turns m) (crashes_now r) i c refl refl
turns_on g w m r parts.Judge i c other = turns_stay g w m (judged r) (verdict_no_beat (judged r) (verdict_of r))
turns_on g w m r (parts.Do a) i c other = turns_stay g w m a other
turns_on g w m r part i c other = refl

-- what is pushed has changed
push_asks : (r : Running) (part : Part) (i c j d : ℕ) → asks r part i c ≡ true → step_at r part i c ≡ steps.Push j d
    → changed r.replica.rows j d ≡ true
push_asks r parts.Push i c j d asked is = push_either
    (λ s. s ≡ steps.Push j d → changed r.replica.rows j d ≡ true) (crashes_now r) i c
    (λ e. subst (λ (x : ℕ × ℕ). changed r.replica.rows x.0 x.1 ≡ true) (places e)
    (and_parts (is_other r.replica i) (changed r.replica.rows i c) asked).1) (λ e. absurd (cc)) is
  where
    places : steps.Push i c ≡ steps.Push j d → ◌≡◌ {A = ℕ × ℕ} (i, c) (j, d)
    places e = cc e
push_asks r parts.Append i c j d asked is =
    absurd (append_either (λ s. s ≡ steps.Push j d → ⊥) r.failed (λ e. cc) (λ why e. cc) is)
push_asks r parts.Vote i c j d asked is =
    absurd (vote_either (λ s. s ≡ steps.Push j d → ⊥) r.failed _ (λ e. cc) (λ why e. cc) is)
push_asks r part i c j d asked is = absurd (cc)

pub push_changes : (r : Running) (j d : ℕ) → IsRunningMember r → r.replica.end ≡ None → next_step r ≡ steps.Push j d
    → own r.replica.rows d ≢ last_pushed r.replica.rows j d
push_changes r j d m none step same =
    let asked = (and_parts (asks r (part_of r.place) r.place.row r.place.column) (allows r.replica (next_step r))
    (m.due none)).0 in
    absurd (cc (sym (ap not (eq-eqb (own r.replica.rows d) (last_pushed r.replica.rows j d) same))
    ∙ push_asks r (part_of r.place) r.place.row r.place.column j d asked step))
