-- What is due to a running member, by the kind of its next deed.
use Rattle.std.{specs.Prelude.{Option, Some, None}, proofs.lemmas.Bool.and_parts}
use Rattle.std.proofs.Common.{◌≡◌, ◌≢◌, ◌⊎◌, inl, inr, refl, subst, sym, ap, ◌∙◌, ℕ, Bool, true, false}
use Rattle.dr_entry.specs.{declared.end.End.End, declared.record.Value.Value}
use Rattle.dr_machine.specs.{Effects.one_more, declared.{event.Act.Act, step.Step.Step}}
use Rattle.dr_machine.specs.declared.step.Step.TheVariants as steps
use Rattle.dr_program.specs.{Form.IsRunningMember, Reading.{step_due, step_of_member}}
use Rattle.dr_program.specs.Replica.{appended, gave, is_inside, is_wedged, may_give, may_vote, pushed, value_due, voted}
use Rattle.dr_program.specs.Running.{AsksForLetter, Running, append_or_end, crashes_now, deed, deed_of, next_deed, next_step, push_or_crash, pushes_after, step_at, vote_or_end, waits_after}
use Rattle.dr_program.specs.{Sight.{IsSeenNext, MaySee}, Steps.{IsAppend, has_cell, is_outside_step, stepped}}
use Rattle.dr_program.specs.{Turn.part_of, declared.{outcome.LogWhy.LogWhy, place.{Part.Part, Place.Place}}}
use Rattle.dr_program.proofs.RunningPrograms.{IsCellOf, deed_due, is_cell, allowed_inside, in_view}
use Rattle.dr_program.proofs.{StepsAt.{append_either, push_either, vote_either, taking}, Waiting.append_free}
use Rattle.dr_program.specs.declared.place.Part.TheVariants as parts
use Rattle.dr_member.specs.Deeds.{is_act, is_append, is_give, is_look, is_push, is_take, appended_entry}
use Rattle.dr_member.specs.{Search.step_by, declared.search.Due.Due}
use Rattle.dr_member.specs.declared.search.Due.TheVariants as dues

-- ---- the kind of a deed

push_part : (r : Running) (part : Part) (i c : ℕ) → is_push (deed_of r (step_at r part i c)) ≡ true
    → (part ≡ parts.Push) × (crashes_now r ≡ false)
push_part r parts.Look i c e = absurd (cc)
push_part r parts.Push i c e = (refl, by (crashes_now r) refl e)
  where
    by : (b : Bool) → crashes_now r ≡ b → is_push (deed_of r (push_or_crash b i c)) ≡ true → crashes_now r ≡ false
    by true same e = absurd (cc)
    by false same e = same
push_part r parts.Append i c e =
    absurd (append_either (λ s. is_push (deed_of r s) ≡ true → ⊥) r.failed (λ e. cc) (λ why e. cc) e)
push_part r parts.Vote i c e =
    absurd (vote_either (λ s. is_push (deed_of r s) ≡ true → ⊥) r.failed _ (λ e. cc) (λ why e. cc) e)
push_part r part i c e = absurd (cc)

-- an append's deed alone is one, and its step neither counts as a push nor is waited for
append_kind : (r : Running) (s : Step) → is_append (deed_of r s) ≡ true
    → (r.pushes ≡ pushes_after r.pushes s) × ((word : ℕ) → r.waits ≡ waits_after word r s)
append_kind r steps.Append e = (refl, λ word. refl)
append_kind r (steps.LogVote v) e = (refl, λ word. refl)
append_kind r s e = absurd (cc)

-- what is appended is an entry, or at its part a vote
append_part : (r : Running) (part : Part) (i c : ℕ) → is_append (deed_of r (step_at r part i c)) ≡ true
    → ((part ≡ parts.Append) × (step_at r part i c ≡ steps.Append))
    ⊎ ((part ≡ parts.Vote) × (step_at r part i c ≡ steps.LogVote (value_due r.replica)))
append_part r parts.Look i c e = absurd (cc)
append_part r parts.Append i c e = inl (refl, by r.failed refl e)
  where
    by : (o : Option LogWhy) → r.failed ≡ o → is_append (deed_of r (append_or_end o)) ≡ true
        → append_or_end r.failed ≡ steps.Append
    by None none e = ap append_or_end none
    by (Some why) none e = absurd (cc)
append_part r parts.Vote i c e = inr (refl, by r.failed refl e)
  where
    by : (o : Option LogWhy) → r.failed ≡ o → is_append (deed_of r (vote_or_end o (value_due r.replica))) ≡ true
        → vote_or_end r.failed (value_due r.replica) ≡ steps.LogVote (value_due r.replica)
    by None none e = ap (λ o. vote_or_end o (value_due r.replica)) none
    by (Some why) none e = absurd (cc)
append_part r parts.Push i c e =
    absurd (push_either (λ s. is_append (deed_of r s) ≡ true → ⊥) (crashes_now r) i c (λ e. cc) (λ e. cc) e)
append_part r part i c e = absurd (cc)

-- ---- what is known where a deed of a kind is due

-- the member is at a look, whatever it sees
pub record IsAtLook (r : Running) : Type 0 where
  pub none : r.replica.end ≡ None
  pub at : part_of r.place ≡ parts.Look
  pub cell : IsCellOf r r.place.row r.place.column

-- a running member whose next deed is a look is at one
pub at_look : (r : Running) → IsRunningMember r → is_look (next_deed r) ≡ true → IsAtLook r
at_look r m e =
    let due = deed_due is_look (λ end. refl) r e in
    let at = sees_part r (part_of r.place) r.place.row r.place.column due.1 in
    let may = allowed_inside r m due.0 (steps.Look r.place.row r.place.column)
    (ap (λ x. step_at r x r.place.row r.place.column) at) in
    record {
      none = due.0;
      at = at;
      cell = is_cell r r.place.row r.place.column (and_parts _ (has_cell r.replica r.place.row r.place.column) may).1;
    }
  where
    sees_part : (r : Running) (part : Part) (i c : ℕ) → is_look (deed_of r (step_at r part i c)) ≡ true
        → part ≡ parts.Look
    sees_part r parts.Look i c e = refl
    sees_part r parts.Push i c e = absurd
        (push_either (λ s. is_look (deed_of r s) ≡ true → ⊥) (crashes_now r) i c (λ e. cc) (λ e. cc) e)
    sees_part r parts.Append i c e = absurd
        (append_either (λ s. is_look (deed_of r s) ≡ true → ⊥) r.failed (λ e. cc) (λ why e. cc) e)
    sees_part r parts.Vote i c e = absurd
        (vote_either (λ s. is_look (deed_of r s) ≡ true → ⊥) r.failed _ (λ e. cc) (λ why e. cc) e)
    sees_part r part i c e = absurd (cc)

-- the next deed is a push
pub record IsPushDue (r : Running) : Type 0 where
  pub none : r.replica.end ≡ None
  pub at : part_of r.place ≡ parts.Push
  pub inside : is_inside r.replica ≡ true
  pub cell : IsCellOf r r.place.row r.place.column
  pub later : crashes_now r ≡ false
  -- what it makes of the replica, of the pushes and of the waits
  pub step : (word : ℕ) → stepped word r.replica (next_step r) ≡ pushed r.replica r.place.row r.place.column
  pub pushes : one_more 32 r.pushes ≡ pushes_after r.pushes (next_step r)
  pub waits : (word : ℕ) → r.waits ≡ waits_after word r (next_step r)

-- a running member at a push has it due, and crashes not there
pub push_due : (r : Running) → IsRunningMember r → is_push (next_deed r) ≡ true → IsPushDue r
push_due r m e =
    let due = deed_due is_push (λ end. refl) r e in
    let at = push_part r (part_of r.place) r.place.row r.place.column due.1 in
    let step : next_step r ≡ steps.Push r.place.row r.place.column =
    ap (λ x. step_at r x r.place.row r.place.column) at.0
    ∙ ap (λ b. push_or_crash b r.place.row r.place.column) at.1 in
    record {
      none = due.0;
      at = at.0;
      inside = in_view r m due.0 (steps.Push r.place.row r.place.column) step refl;
      cell = is_cell r r.place.row r.place.column
          (allowed_inside r m due.0 (steps.Push r.place.row r.place.column) step);
      later = at.1;
      step = λ word. ap (stepped word r.replica) step;
      pushes = ap (pushes_after r.pushes) (sym step);
      waits = λ word. ap (waits_after word r) (sym step);
    }

-- the next deed is an append
pub record IsAppendDue (r : Running) : Type 0 where
  pub none : r.replica.end ≡ None
  -- what it makes of the pushes and of the waits
  pub pushes : r.pushes ≡ pushes_after r.pushes (next_step r)
  pub waits : (word : ℕ) → r.waits ≡ waits_after word r (next_step r)

-- a member at an append has it due
pub append_due : (r : Running) → is_append (next_deed r) ≡ true → IsAppendDue r
append_due r e =
    let due = deed_due is_append (λ end. refl) r e in
    let kind = append_kind r (next_step r) due.1 in record { none = due.0; pushes = kind.0; waits = kind.1 }

-- at the part of the vote it is a vote of a wedged member, and none waits
pub record IsVoteDue (r : Running) : Type 0 where
  pub may : may_vote r.replica (value_due r.replica) ≡ true
  pub wedged : is_wedged r.replica ≡ true
  pub free : r.replica.pending ≡ None
  -- what it makes of the replica
  pub step : (word : ℕ) → stepped word r.replica (next_step r) ≡ voted r.replica (value_due r.replica)

pub vote_due : (r : Running) → IsRunningMember r → is_append (next_deed r) ≡ true
    → part_of r.place ≡ parts.Vote → IsVoteDue r
vote_due r m e at = record {
  may = may;
  wedged = (and_parts (is_wedged r.replica) _ may).0;
  free = append_free r m.free (subst IsAppend (sym step) tt);
  step = λ word. ap (stepped word r.replica) step;
}
  where
    due : (r.replica.end ≡ None) × (is_append (deed_of r (next_step r)) ≡ true)
    due = deed_due is_append (λ end. refl) r e

    step : next_step r ≡ steps.LogVote (value_due r.replica)
    step = elim (append_part r (part_of r.place) r.place.row r.place.column due.1) [
      | inl t ↦ absurd (cc (t.0, at))
      | inr t ↦ t.1
    ]

    may : may_vote r.replica (value_due r.replica) ≡ true
    may = allowed_inside r m due.0 (steps.LogVote (value_due r.replica)) step

-- and elsewhere an entry, at its part
pub record IsEntryDue (r : Running) : Type 0 where
  pub at : part_of r.place ≡ parts.Append
  -- what it makes of the replica
  pub step : (word : ℕ) → stepped word r.replica (next_step r) ≡ appended r.replica

pub entry_due : (r : Running) → is_append (next_deed r) ≡ true → part_of r.place ≢ parts.Vote → IsEntryDue r
entry_due r e other =
    elim (append_part r (part_of r.place) r.place.row r.place.column (deed_due is_append (λ end. refl) r e).1) [
      | inl t ↦ record { at = t.0; step = λ word. ap (stepped word r.replica) t.1 }
      | inr t ↦ absurd (other t.0)
    ]

-- a member at an append is in its view
pub append_inside : (r : Running) → IsRunningMember r → is_append (next_deed r) ≡ true → is_inside r.replica ≡ true
append_inside r m e =
    let due = deed_due is_append (λ end. refl) r e in in_view r m due.0 (next_step r) refl (by (next_step r) due.1)
  where
    by : (s : Step) → is_append (deed_of r s) ≡ true → is_outside_step s ≡ false
    by steps.Append e = refl
    by (steps.LogVote v) e = refl
    by s e = absurd (cc)

-- the next deed is a letter to give
pub record IsGiveDue (r : Running) : Type 0 where
  pub none : r.replica.end ≡ None
  pub at : part_of r.place ≡ parts.Give
  pub may : may_give r.replica r.place.row ≡ true
  -- what it makes of the replica, of the pushes and of the waits
  pub step : (word : ℕ) → stepped word r.replica (next_step r) ≡ gave r.replica r.place.row
  pub pushes : r.pushes ≡ pushes_after r.pushes (next_step r)
  pub waits : (word : ℕ) → r.waits ≡ waits_after word r (next_step r)

give_part : (r : Running) (part : Part) (i c : ℕ) → is_give (deed_of r (step_at r part i c)) ≡ true
    → part ≡ parts.Give
give_part r parts.Give i c e = refl
give_part r parts.Append i c e =
    absurd (append_either (λ s. is_give (deed_of r s) ≡ true → ⊥) r.failed (λ e. cc) (λ why e. cc) e)
give_part r parts.Vote i c e =
    absurd (vote_either (λ s. is_give (deed_of r s) ≡ true → ⊥) r.failed _ (λ e. cc) (λ why e. cc) e)
give_part r parts.Push i c e =
    absurd (push_either (λ s. is_give (deed_of r s) ≡ true → ⊥) (crashes_now r) i c (λ e. cc) (λ e. cc) e)
give_part r part i c e = absurd (cc)

-- a running member at one has it due
pub give_due : (r : Running) → IsRunningMember r → is_give (next_deed r) ≡ true → IsGiveDue r
give_due r m e =
    let due = deed_due is_give (λ end. refl) r e in
    let at = give_part r (part_of r.place) r.place.row r.place.column due.1 in
    let step = ap (λ x. step_at r x r.place.row r.place.column) at in
    record {
      none = due.0;
      at = at;
      may = allowed_inside r m due.0 _ step;
      step = λ word. ap (stepped word r.replica) step;
      pushes = ap (pushes_after r.pushes) (sym step);
      waits = λ word. ap (waits_after word r) (sym step);
    }

-- the next deed is to take its letter
pub record IsTakeDue (r : Running) : Type 0 where
  pub asking : AsksForLetter r
  pub at : part_of r.place ≡ parts.Take
  pub outside : is_inside r.replica ≡ false
  pub free : r.replica.pending ≡ None

take_part : (r : Running) (part : Part) (i c : ℕ) → is_take (deed_of r (step_at r part i c)) ≡ true
    → part ≡ parts.Take
take_part r parts.Take i c e = refl
take_part r parts.Append i c e =
    absurd (append_either (λ s. is_take (deed_of r s) ≡ true → ⊥) r.failed (λ e. cc) (λ why e. cc) e)
take_part r parts.Vote i c e =
    absurd (vote_either (λ s. is_take (deed_of r s) ≡ true → ⊥) r.failed _ (λ e. cc) (λ why e. cc) e)
take_part r parts.Push i c e =
    absurd (push_either (λ s. is_take (deed_of r s) ≡ true → ⊥) (crashes_now r) i c (λ e. cc) (λ e. cc) e)
take_part r part i c e = absurd (cc)

pub take_due : (r : Running) → IsRunningMember r → is_take (next_deed r) ≡ true → IsTakeDue r
take_due r m e =
    let due = deed_due is_take (λ end. refl) r e in
    let at = take_part r (part_of r.place) r.place.row r.place.column due.1 in
    let asking : AsksForLetter r =
    record { unended = due.0; due = ap (λ x. step_at r x r.place.row r.place.column) at } in
    let is = taking r m asking in record { asking = asking; at = at; outside = is.outside; free = is.idle }

-- ---- what is due at a place

-- the step of an act that is due, and the act of such a step
pub step_is : (s : Step) (d : Due) (p : Place) (v : Value) (a : Act) → step_by d p v ≡ s → d ≡ dues.Act a
    → s ≡ steps.Do a
step_is s d p v a e is = sym e ∙ ap (λ x. step_by x p v) is

pub act_by : (d : Due) (p : Place) (v : Value) (a : Act) → step_by d p v ≡ steps.Do a → d ≡ dues.Act a
act_by (dues.Act b) p v a e = cc
act_by d p v a e = absurd (cc)

-- what is due is no append of an entry
entry_by : (r : Running) (d : Due) (p : Place) (v : Value) → d ≢ dues.Append
    → None ≡ appended_entry (deed_of r (step_by d p v))
entry_by r dues.Append p v other = absurd (other refl)
entry_by r dues.Look p v other = refl
entry_by r dues.Push p v other = refl
entry_by r dues.Vote p v other = refl
entry_by r dues.Give p v other = refl
entry_by r dues.Take p v other = refl
entry_by r (dues.Act a) p v other = refl

pub no_entry : (r : Running) (d : Due) (p : Place) (v : Value) → r.replica.end ≡ None → step_by d p v ≡ next_step r
    → d ≢ dues.Append → None ≡ appended_entry (next_deed r)
no_entry r d p v none step other = entry_by r d p v other ∙ ap (λ s. appended_entry (deed_of r s)) step
    ∙ ap (λ o. appended_entry (deed r o)) (sym none)

-- the step of an act's deed
act_kind : (r : Running) (s : Step) → is_act (deed_of r s) ≡ true → (a : Act) × (s ≡ steps.Do a)
act_kind r (steps.Do a) e = (a, refl)
act_kind r s e = absurd (cc)

pub act_step : (r : Running) → is_act (next_deed r) ≡ true → (a : Act) × (next_step r ≡ steps.Do a)
act_step r e = act_kind r (next_step r) (deed_due is_act (λ end. refl) r e).1

-- ---- a look may see what has grown

look_step : (r : Running) (s : Step) (word : ℕ) → is_look (deed_of r s) ≡ true
    → ((i c : ℕ) → Some s ≡ Some (steps.Look i c) → IsSeenNext r i c word) → MaySee r (Some s) word
look_step r (steps.Look i c) word e seen = seen i c refl
look_step r (steps.Do a) word e seen = absurd (cc)
look_step r s word e seen = absurd (cc)

-- a word that each look would see is one that the next deed may see
pub may_see : (r : Running) (word : ℕ) → is_look (next_deed r) ≡ true
    → ((i c : ℕ) → step_of_member r ≡ Some (steps.Look i c) → IsSeenNext r i c word)
    → MaySee r (step_of_member r) word
may_see r word e seen = by r.replica.end e seen
  where
    by : (o : Option End) → is_look (deed r o) ≡ true
        → ((i c : ℕ) → step_due r o ≡ Some (steps.Look i c) → IsSeenNext r i c word) → MaySee r (step_due r o) word
    by None e seen = look_step r (next_step r) word e seen
    by (Some end) e seen = absurd (cc)
