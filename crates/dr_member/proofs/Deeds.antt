-- Deeds of a member, and which of them are its last.
use Rattle.std.{specs.Prelude.{None, is_some, Option, Some, not}, proofs.lemmas.{Bool.and_parts, Option.same_Some}}
use Rattle.std.proofs.Common.{◌≡◌, refl, false, sym, ap, ◌∙◌, ℕ, true, ◌||◌, ◌⊎◌, inl, inr, Bool}
use Rattle.dr_entry.specs.{declared.{end.End.End, entry.Entry.Entry}, declared.record.Record.Record}
use Rattle.dr_words.specs.Layout.{words_of}
use Rattle.dr_entry.specs.declared.record.Record.TheVariants as records
use Rattle.dr_history.specs.Members.{has}
use Rattle.dr_rows.specs.Words.{own}
use Rattle.dr_machine.specs.declared.step.Step.{Step, TheVariants.Do}
use Rattle.dr_machine.specs.declared.step.Step.TheVariants as steps
use Rattle.dr_program.specs.{Form.IsRunningMember, Steps.has_cell, Turn.{is_beat, part_of}}
use Rattle.dr_program.specs.Running.{Running, deed_of, after_step, deed, next_deed, next_step, step_at, took}
use Rattle.dr_program.{specs.declared.{deed.Deed.Deed, place.Part.Part}, proofs.Fixed.{step_told, Told}}
use Rattle.dr_program.proofs.{Parts.{is_final, end_stays}, Replicas.apart, Search.{settled_same, settle_only}}
use Rattle.dr_program.proofs.RunningPrograms.{IsAtPlace, allowed_inside, deed_due, is_cell, look_is, next_without_end, IsPushAt, push_is}
use Rattle.dr_program.specs.declared.place.Part.TheVariants as parts
use Rattle.dr_program.specs.declared.deed.Deed.TheVariants as deeds
use Rattle.dr_member.specs.Alone.{IsAtSweep}
use Rattle.dr_member.specs.Deeds.{is_act, is_look, is_push, is_take, is_append, table_size, appended_entry, is_before_turn}

only_acts_are_final : (r : Running) (s : Step) → is_act (deed_of r s) ≡ false → is_final s ≡ false
only_acts_are_final r (Do a) other = absurd (cc)
only_acts_are_final r s other = refl

-- it leaves the member without an end
pub stays_going : (word : ℕ) (r x : Running) (d : Deed) → next_deed r ≡ d → is_act d ≡ false
    → r.replica.end ≡ None → x ≡ after_step word r → is_some x.replica.end ≡ false
stays_going word r x d is other none after =
    let step = only_acts_are_final r (next_step r) (ap is_act (sym (ap (deed r) none) ∙ is) ∙ other) in
    ap (λ (y : Running). is_some y.replica.end) (after ∙ settled_same word r)
    ∙ ap is_some (end_stays word r.replica (next_step r) step ∙ none)

-- nor does it begin a turn
pub no_beat : (r : Running) (p : Part) (i c : ℕ) → let d = deed_of r (step_at r p i c) in
    (is_look d || is_push d) ≡ true → is_beat p ≡ false
no_beat r (parts.Do a) i c due = absurd (cc)
no_beat r p i c due = refl

-- the deed is an append, of its record
pub an_append : (d : Deed) → is_append d ≡ true → (due : Record) × (d ≡ deeds.Append due)
an_append (deeds.Append due) is = (due, refl)
an_append d is = absurd (cc)

-- and of this entry
pub an_entry : (d : Deed) (entry : Entry) → Some entry ≡ appended_entry d → d ≡ deeds.Append (records.Entry entry)
an_entry (deeds.Append (records.Entry e)) entry is = ap (λ x. deeds.Append (records.Entry x)) (sym (same_Some _ _ is))
an_entry d entry is = absurd (cc)

-- the deed is a take
pub a_take : (d : Deed) → is_take d ≡ true → d ≡ deeds.Take
a_take deeds.Take is = refl
a_take d is = absurd (cc is)

-- an append
pub append_due : (due : Deed) → is_append due ≡ true → (x : Record) × (due ≡ deeds.Append x)
append_due (deeds.Append x) is = (x, refl)
append_due due is = absurd (cc)

-- a member whose next deed is a look has not ended
pub look_none : (r : Running) → is_look (next_deed r) ≡ true → r.replica.end ≡ None
look_none r look = by r.replica.end refl look
  where
    by : (o : Option End) → r.replica.end ≡ o → is_look (deed r o) ≡ true → r.replica.end ≡ None
    by None e is = e
    by (Some end) e is = absurd (cc)

pub size_after : (word : ℕ) (r : Running) → table_size (after_step word r) ≡ table_size r
size_after word r = ap (λ (x : Running). table_size x) (settle_only _ (took word r (next_step r)))
    ∙ ap (λ (t : Told). words_of t.roster t.window t.banks) (step_told word r.replica (next_step r))

-- a beat is an act, and concerns nobody else
beat_at : (part : Part) (r : Running) (i c : ℕ) → is_beat part ≡ true → is_act (deed_of r (step_at r part i c)) ≡ true
beat_at (parts.Do a) r i c beat = refl
beat_at part r i c beat = absurd (cc)

pub beat_acts : (r : Running) → is_before_turn r ≡ true → is_act (next_deed r) ≡ true
beat_acts r before = by r.replica.end (and_parts (not (is_some r.replica.end)) (is_beat (part_of r.place)) before)
  where
    by : (o : Option End) → (not (is_some o) ≡ true) × (is_beat (part_of r.place) ≡ true) → is_act (deed r o) ≡ true
    by None h = beat_at (part_of r.place) r r.place.row r.place.column h.1
    by (Some end) h = absurd (cc (h.0))

pub at_place : (r : Running) (index : ℕ) → IsRunningMember r → next_deed r ≡ deeds.Look index → IsAtPlace r index
at_place r index m due =
    let none = (deed_due is_look (λ end. refl) r (ap is_look due)).0 in
    let at = look_is r (next_step r) index (sym (next_without_end r none) ∙ due) in
    let cell = is_cell r at.0 at.1 (and_parts (not (has r.replica.suspects at.0)) (has_cell r.replica at.0 at.1)
    (allowed_inside r m none (steps.Look at.0 at.1) at.2)).1 in
    record {
      none = none;
      row = at.0;
      column = at.1;
      step = at.2;
      place = at.3;
      among = cell.row;
      other = apart r.replica at.0 cell.other;
      within = cell.column;
    }

pub take_is : (r : Running) (s : Step) → is_take (deed_of r s) ≡ true → s ≡ steps.Join
take_is r steps.Join is = refl
take_is r s is = absurd (cc)

pub push_at : (r : Running) (index word : ℕ) → IsRunningMember r → next_deed r ≡ deeds.Push index word
    → IsPushAt r index word
push_at r index word m due =
    let none = (deed_due is_push (λ end. refl) r (ap is_push due)).0 in
    let at = push_is r (next_step r) index word (sym (next_without_end r none) ∙ due) in
    let cell = is_cell r at.0 at.1 (allowed_inside r m none (steps.Push at.0 at.1) at.2) in
    record {
      none = none;
      to = at.0;
      column = at.1;
      step = at.2;
      place = at.3;
      own = at.4;
      among = cell.row;
      other = apart r.replica at.0 cell.other;
      within = cell.column;
    }

pub look_there : (d : Deed) → is_look d ≡ true → (index : ℕ) × (d ≡ deeds.Look index)
look_there (deeds.Look index) is = (index, refl)
look_there d is = absurd (cc)

pub push_there : (d : Deed) → is_push d ≡ true → (index : ℕ) × (word : ℕ) × (d ≡ deeds.Push index word)
push_there (deeds.Push index word) is = (index, word, refl)
push_there d is = absurd (cc)

pub looks_or_pushes : (r : Running) → IsAtSweep r → (is_look (next_deed r) ≡ true) ⊎ (is_push (next_deed r) ≡ true)
looks_or_pushes r sweep = by (is_look (next_deed r)) refl sweep
  where
    by : (b : Bool) → is_look (next_deed r) ≡ b → (b || is_push (next_deed r)) ≡ true
        → (is_look (next_deed r) ≡ true) ⊎ (is_push (next_deed r) ≡ true)
    by true e s = inl e
    by false e s = inr s
