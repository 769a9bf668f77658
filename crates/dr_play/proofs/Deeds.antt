-- What the next deed of a member says of the step that is due to it.
use Rattle.std.specs.Prelude.{Option, None, Some, slice_set, is_some, slice_index_or, not}
use Rattle.std.proofs.Common.{◌≡◌, refl, ap, subst, ℕ, false, true, List, [], length, slice_index, ◌||◌, ◌∙◌, zero, suc, ◌≤◌, sym, arith, ◌∷◌}
use Rattle.std.proofs.lemmas.Bool.{and_parts}
use Rattle.dr_entry.specs.{declared.{end.End.End, entry.Entry.Entry}, declared.record.Record.Record}
use Rattle.dr_disk.specs.Disk.{Told}
use Rattle.dr_history.specs.{History.up_to_view, Members.has}
use Rattle.dr_log.specs.State.{LogState}
use Rattle.dr_words.specs.Layout.{word_index_of}
use Rattle.dr_machine.{specs.{Acts.CanTake, Guards.CanWelcome, declared.event.Act.Act}, proofs.Worlds.past_same}
use Rattle.dr_machine.specs.{Group.Group, declared.step.Step.{Step, TheVariants.{Do, Append, Join, LogVote, Welcome}}}
use Rattle.dr_machine.specs.{Run.PastGrew, World.World}
use Rattle.dr_program.specs.{Form.IsRunningMember, Net.took_nothing, Presence.{present_at, with_present}}
use Rattle.dr_program.specs.Program.{after_deed, next_sight, IsRanFrom, Program, ran, comes_to, letter_for, ok, step_of}
use Rattle.dr_program.specs.{Reading.{letters_of, step_by, step_due, world, table_of}, Replica.is_inside}
use Rattle.dr_program.specs.Running.{AsksForLetter, Running, after_step, crashes_now, deed, deed_of, next_deed, next_step, settled, step_at, took_letter, broken_off, took}
use Rattle.dr_program.specs.Steps.{IsAppend, sight, stored, stored_letters, IsNoJoin, allows, has_cell}
use Rattle.dr_program.specs.{Turn.{part_of, is_beat}, declared.{deed.Deed.Deed, outcome.LogWhy.LogWhy}}
use Rattle.dr_program.specs.declared.{outcome.Outcome.{Outcome, TheVariants.{Ok, Failed}}, packet.Packet.Packet}
use Rattle.dr_program.{specs.declared.place.Part.Part, proofs.Copies.IsToOther}
use Rattle.dr_program.proofs.Deeds.{missed_stays, due_allowed, deed_ran, step_is, replicas, append_gives, append_stores}
use Rattle.dr_program.proofs.{Present.{present_set, MayGet, present_within}, Programs.after_append}
use Rattle.dr_program.proofs.RunningPrograms.{after_take, IsLookOf, look_is, push_is, with_member}
use Rattle.dr_program.proofs.{StepsAt.{append_either, push_either, vote_either}, Waiting.append_free}
use Rattle.dr_program.specs.declared.deed.Deed.TheVariants as deeds
use Rattle.dr_program.specs.declared.place.Part.TheVariants as parts
use Rattle.dr_program.specs.declared.outcome.Outcome.TheVariants as outcomes
use Rattle.dr_refine.proofs.{Deeds.{deed_is_step, program_member}, Guards.{other_within, other_member}}
use Rattle.dr_refine.proofs.Tests.{cell_test}
use Rattle.dr_served.specs.{Appended.{IsAppendDue, is_append, record_due, record_of}, Served.{IsReady, HasServed}}
use Rattle.dr_served.proofs.{Appends.{may_log, IsPlain, IsSweeping}, Serving.{other_ready, logged_on, other_served}}
use Rattle.dr_member.specs.{Alone.{IsAtSweep, LeadsTo}, Deeds.{is_look, is_push, is_append as is_append_deed}}
use Rattle.dr_member.proofs.Deeds.{no_beat, an_append}
use Rattle.dr_program_laws.{specs.Carried.IsCarried, proofs.{Keeping.move_kept, Letters.{letters_are, may_get}}}
use Rattle.dr_program_laws.proofs.Carried.{IsCarriedOn, moved_on, carried_on, carried_pushes, carried_misses}
use Rattle.dr_play.specs.Sound.{IsSound}

-- ---- a step, by its deed

-- the step is a look at the word of this index
pub record IsLookAt (words : List ℕ) (r : Running) (s : Step) (index : ℕ) : Type 0 where
  pub row : ℕ
  pub column : ℕ
  pub look : s ≡ step_at r parts.Look row column
  pub sees : sight words r.replica s ≡ slice_index words index
  pub no_join : IsNoJoin s
  pub posts : (letters : List (Option (List Entry))) → stored_letters letters r.replica s ≡ letters

-- it stores this word at this index
pub record IsStoreAt (words : List ℕ) (r : Running) (s : Step) (index word : ℕ) : Type 0 where
  pub other : is_append s ≡ false
  pub sees : sight words r.replica s ≡ 0
  pub stores : stored words r.replica s ≡ slice_set words index word
  pub no_join : IsNoJoin s
  pub posts : (letters : List (Option (List Entry))) → stored_letters letters r.replica s ≡ letters

-- what a deed says of its step over these words
abbrev pub Says : List ℕ → Running → Step → Deed → Type 0
Says words r s (deeds.Look index) = IsLookAt words r s index
Says words r s (deeds.Push index word) = IsStoreAt words r s index word
Says words r s (deeds.Act index word) = IsStoreAt words r s index word
Says words r s (deeds.Append due) = IsAppend s × (due ≡ record_of r s)
Says words r s (deeds.Give j) = s ≡ Welcome j
Says words r s deeds.Take = s ≡ Join
Says words r s (deeds.Rest end) = ⊥

-- the deed that the step is says so
abbrev SaysOf : List ℕ → Running → Step → Type 0
SaysOf words r s = Says words r s (deed_of r s)

act_says : (words : List ℕ) (r : Running) (a : Act) → SaysOf words r (Do a)
act_says words r a = record { other = refl; sees = refl; stores = refl; no_join = tt; posts = λ letters. refl }

says : (words : List ℕ) (r : Running) (part : Part) (i c : ℕ) → SaysOf words r (step_at r part i c)
says words r parts.Look i c =
    record { row = i; column = c; look = refl; sees = refl; no_join = tt; posts = λ letters. refl }
says words r parts.Append i c = append_either (SaysOf words r) r.failed (tt, refl) (λ why. act_says words r _)
says words r parts.Vote i c = vote_either (SaysOf words r) r.failed _ (tt, refl) (λ why. act_says words r _)
says words r parts.Push i c = push_either (SaysOf words r) (crashes_now r) i c
    (record { other = refl; sees = refl; stores = refl; no_join = tt; posts = λ letters. refl }) (act_says words r _)
says words r parts.Give i c = refl
says words r parts.Take i c = refl
says words r part i c = act_says words r _

-- so it is with the next deed of a member that has not ended
pub record IsTold (words : List ℕ) (r : Running) (d : Deed) : Type 0 where
  pub none : r.replica.end ≡ None
  pub says : Says words r (next_step r) d

abbrev pub Tells : List ℕ → Running → Deed → Type 0
Tells words r (deeds.Rest end) = r.replica.end ≡ Some end
Tells words r d = IsTold words r d

no_rest : (words : List ℕ) (r : Running) (d : Deed) → r.replica.end ≡ None
    → Says words r (next_step r) d → Tells words r d
no_rest words r (deeds.Rest end) none h = absurd h
no_rest words r (deeds.Look index) none h = record { none = none; says = h }
no_rest words r d none h = record { none = none; says = h }

tells : (words : List ℕ) (r : Running) → Tells words r (next_deed r)
tells words r = by r.replica.end refl
  where
    by : (o : Option End) → r.replica.end ≡ o → Tells words r (deed r o)
    by None e = no_rest words r (deed_of r (next_step r)) e
        (says words r (part_of r.place) r.place.row r.place.column)
    by (Some end) e = e

-- what it tells, by its next deed
pub deed_tells : (words : List ℕ) (r : Running) (d : Deed) → next_deed r ≡ d → Tells words r d
deed_tells words r d is = subst (Tells words r) is (tells words r)

-- however an append goes, and whatever letter is there, another deed is its step
pub any_outcome : (word : ℕ) (letter : Option (List Entry)) (o : Outcome) (r : Running) (s : Step)
    → is_append s ≡ false → IsNoJoin s → after_deed word letter o r s ≡ after_step word r
any_outcome word letter o r Append other no_join = absurd (cc)
any_outcome word letter o r (LogVote v) other no_join = absurd (cc)
any_outcome word letter o r Join other no_join = absurd no_join
any_outcome word letter o r s other no_join = refl

-- ---- which step is due

pub at_look : (r : Running) (index : ℕ) → next_deed r ≡ deeds.Look index → is_append (next_step r) ≡ false
at_look r index is = ap is_append (deed_tells [] r (deeds.Look index) is).says.look

pub at_push : (r : Running) (index word : ℕ) → next_deed r ≡ deeds.Push index word → is_append (next_step r) ≡ false
at_push r index word is = (deed_tells [] r (deeds.Push index word) is).says.other

pub at_act : (r : Running) (index word : ℕ) → next_deed r ≡ deeds.Act index word → is_append (next_step r) ≡ false
at_act r index word is = (deed_tells [] r (deeds.Act index word) is).says.other

-- a give is a welcome, and a take a join
pub at_give : (r : Running) (j : ℕ) → next_deed r ≡ deeds.Give j → next_step r ≡ Welcome j
at_give r j is = (deed_tells [] r (deeds.Give j) is).says

pub at_take : (r : Running) → next_deed r ≡ deeds.Take → next_step r ≡ Join
at_take r is = (deed_tells [] r deeds.Take is).says

pub at_append : (r : Running) (due : Record) → IsRunningMember r → next_deed r ≡ deeds.Append due
    → IsAppendDue r × (due ≡ record_due r)
at_append r due form is =
    let t = deed_tells [] r (deeds.Append due) is in (
      record {
        due = may_log r (next_step r) form.replica t.says.0 (due_allowed r (form.due t.none))
            (append_free r form.free t.says.0);
        room = form.replica.room;
      },
      t.says.1,
    )

-- the member, whose next deed is an append, is due to append
pub due_now : (r : Running) → IsRunningMember r → is_append_deed (next_deed r) ≡ true → IsAppendDue r
due_now r form is = let append = an_append (next_deed r) is in (at_append r append.0 form append.1).0

is_plain : (r : Running) (d : Deed) → next_deed r ≡ d → (is_look d || is_push d) ≡ true → IsPlain r (next_step r)
is_plain r (deeds.Look index) next due =
    let t = deed_tells [] r (deeds.Look index) next in
    record { other = at_look r index next; no_join = t.says.no_join; posts = t.says.posts }
is_plain r (deeds.Push index word) next due =
    let t = deed_tells [] r (deeds.Push index word) next in
    record { other = at_push r index word next; no_join = t.says.no_join; posts = t.says.posts }
is_plain r d next due = absurd (cc)

pub at_sweep : (r : Running) → IsAtSweep r → IsSweeping r
at_sweep r due = by r.replica.end refl due
  where
    by : (o : Option End) → r.replica.end ≡ o → (is_look (deed r o) || is_push (deed r o)) ≡ true → IsSweeping r
    by (Some end) e kind = absurd (cc)
    by None e kind = record {
      none = e;
      other = (is_plain r (next_deed r) refl due).other;
      no_join = (is_plain r (next_deed r) refl due).no_join;
      posts = (is_plain r (next_deed r) refl due).posts;
      amid = ap (λ o. is_some o || is_beat (part_of r.place)) e
          ∙ no_beat r (part_of r.place) r.place.row r.place.column kind;
    }

-- a log stays ready for its member
pub swept_ready : {D : Type 0} (log : LogState D) (n : ℕ) (words : List ℕ) (r : Running) (cells : List ℕ)
    (q : Running) → LeadsTo n words r cells q → IsReady log r → IsReady log q
swept_ready log zero words r cells q (same, is) ready = subst (IsReady log) is ready
swept_ready log (suc n) words r cells q (due, rest) ready = swept_ready log n _ _ cells q rest
    (other_ready log (next_sight words r) r (at_sweep r due).other ready)

-- and has served it
pub swept_served : {D : Type 0} (told : D → Option Told) (faults : D → ℕ) (base log : LogState D) (n : ℕ)
    (words : List ℕ) (r : Running) (cells : List ℕ) (q : Running) → LeadsTo n words r cells q
    → r.replica.logged ≤ length r.replica.history
    → HasServed told faults base log r → HasServed told faults base log q
swept_served told faults base log zero words r cells q (same, is) within served =
    subst (HasServed told faults base log) is served
swept_served told faults base log (suc n) words r cells q (due, rest) within served =
    let other = (at_sweep r due).other in
    swept_served told faults base log n _ _ cells q rest (logged_on (next_sight words r) r other within)
    (other_served told faults base log (next_sight words r) r other (at_sweep r due).none within served)

-- a letter is given
pub give_ran : (begun : Program) (words : List ℕ) (letters : List (Option (List Entry)))
    (members : List (Option Running))
    (m j : ℕ) (r : Running) → present_at members m ≡ Some r → next_deed r ≡ deeds.Give j
    → IsRanFrom begun (record { members = members; table = words; letters = letters }) → IsRanFrom begun (record {
      members = with_present members m (after_step 0 r);
      table = words;
      letters = slice_set letters j (Some (up_to_view r.replica.history));
    })
give_ran begun words letters members m j r there next ran =
    let t = deed_tells words r (deeds.Give j) next in
    subst (λ ls. IsRanFrom begun (record { members = with_present members m (after_step 0 r); table = words; letters = ls }))
    (ap (stored_letters letters r.replica) t.says) (subst (λ ws. IsRanFrom begun (record {
      members = with_present members m (after_step 0 r);
      table = ws;
      letters = stored_letters letters r.replica (next_step r);
    })) (ap (stored words r.replica) t.says) (subst (λ x. IsRanFrom begun (record {
      members = with_present members m x;
      table = stored words r.replica (next_step r);
      letters = stored_letters letters r.replica (next_step r);
    })) (ap (λ s. after_deed (sight words r.replica s) (slice_index_or letters m None) outcomes.Ok r s) t.says)
    (deed_ran begun words letters members m outcomes.Ok r there t.none ran)))

-- a letter is taken, where one is there
pub take_ran : (begun : Program) (words : List ℕ) (letters : List (Option (List Entry)))
    (members : List (Option Running)) (m : ℕ) (r : Running) (letter : Option (List Entry))
    → present_at members m ≡ Some r → next_deed r ≡ deeds.Take → letters_of letters m ≡ letter
    → IsRanFrom begun (record { members = members; table = words; letters = letters }) → IsRanFrom begun (record {
      members = with_present members m (settled (took_letter letter r));
      table = words;
      letters = letters;
    })
take_ran begun words letters members m r letter there next found ran =
    let t = deed_tells words r deeds.Take next in
    subst (λ ls. IsRanFrom begun (record {
      members = with_present members m (settled (took_letter letter r));
      table = words;
      letters = ls;
    })) (ap (stored_letters letters r.replica) t.says) (subst (λ ws. IsRanFrom begun (record {
      members = with_present members m (settled (took_letter letter r));
      table = ws;
      letters = stored_letters letters r.replica (next_step r);
    })) (ap (stored words r.replica) t.says) (subst (λ x. IsRanFrom begun (record {
      members = with_present members m x;
      table = stored words r.replica (next_step r);
      letters = stored_letters letters r.replica (next_step r);
    }))
    (after_take (next_sight words r) (slice_index_or letters m None) outcomes.Ok r (next_step r) t.says
    ∙ ap (λ o. settled (took_letter o r)) found)
    (deed_ran begun words letters members m outcomes.Ok r there t.none ran)))

-- a member of the program that is to give a letter may do so
pub can_welcome : (g : Group) (p : Program) (m j : ℕ) (r : Running) → IsSound g p → present_at p.members m ≡ Some r
    → next_deed r ≡ deeds.Give j → CanWelcome g (world g p) m j
can_welcome g p m j r is there next =
    let t = deed_tells [] r (deeds.Give j) next in
    let named : step_by (letter_for p m) r outcomes.Ok ≡ Some (next_step r) =
    ap (λ o. comes_to (letter_for p m) (step_due r o) outcomes.Ok) t.none
    ∙ ap (λ s. comes_to (letter_for p m) (Some s) outcomes.Ok) t.says ∙ sym (ap (λ s. Some s) t.says) in
    subst (CanTake g (world g p) m) t.says (deed_is_step g p (record { member = m; outcome = outcomes.Ok }) r
    (next_step r) is.group is.form (letters_are g p is.group is.form is.reached) there named).0

-- the program once it is given
pub given_after : (g : Group) (p : Program) (m j : ℕ) (r : Running) → IsSound g p → present_at p.members m ≡ Some r
    → next_deed r ≡ deeds.Give j → MayGet g p.letters j
    → IsSound g (step_of p (ok m)) × (letter_for (step_of p (ok m)) j ≡ Some (up_to_view r.replica.history))
given_after g p m j r is there next may =
    let kept = move_kept g p (ok m) is.group is.form is.reached in
    let t = deed_tells [] r (deeds.Give j) next in (
      record { group = is.group; form = kept.0; reached = kept.1 },
      ap (λ (k : Program). letter_for k j) (step_is p (ok m) r there t.none)
          ∙ ap (λ s. present_at (stored_letters p.letters r.replica s) j) t.says
          ∙ present_set p.letters j (up_to_view r.replica.history) may.within,
    )

pub look_place : (g : Group) (p : Program) (net : List Packet) (m : ℕ) (r : Running) (index : ℕ)
    → IsCarried g p net → present_at p.members m ≡ Some r → next_deed r ≡ deeds.Look index → IsLookOf g m r index
look_place g p net m r index y there due =
    let t = deed_tells p.table r (deeds.Look index) due in
    let at = look_is r (next_step r) index (sym (ap (deed r) t.none) ∙ due) in
    let of = y.form.of m r there in
    let member = program_member g p m r y.group y.form there in
    let may = and_parts (is_inside r.replica) _ (subst (λ s. allows r.replica s ≡ true) at.2
    (due_allowed r ((y.form.form m r there).due t.none))) in
    let cell = (cell_test g (replicas p.members) (table_of p) m r.replica at.0 at.1 member).0
    (and_parts (not (has r.replica.suspects at.0)) (has_cell r.replica at.0 at.1) may.1).1 in
    record {
      row = at.0;
      column = at.1;
      step = at.2;
      is = record {
        bank = omega (arith, member.form.bank, of.banks);
        copy = omega (arith, present_within p.members m r there, y.form.all);
        row = other_within g (replicas p.members) (table_of p) m r.replica at.0 member cell.0;
        column = cell.1;
      };
      at = sym at.3 ∙ (λ z. word_index_of (of.members z) (of.window z) r.replica.view (of.number z) at.0 at.1);
    }

-- a push of a member of the program is of its own row, for a place of another copy
pub push_place : (g : Group) (p : Program) (net : List Packet) (m : ℕ) (r : Running) (packet : Packet)
    → IsCarried g p net → present_at p.members m ≡ Some r
    → next_deed r ≡ deeds.Push packet.index packet.word → (to : IsToOther g packet) × (to.row ≡ m)
push_place g p net m r packet y there due =
    let t = deed_tells p.table r (deeds.Push packet.index packet.word) due in
    let at = push_is r (next_step r) packet.index packet.word (sym (ap (deed r) t.none) ∙ due) in
    let of = y.form.of m r there in
    let member = program_member g p m r y.group y.form there in
    let may = and_parts (is_inside r.replica) _ (subst (λ s. allows r.replica s ≡ true) at.2
    (due_allowed r ((y.form.form m r there).due t.none))) in
    let cell = (cell_test g (replicas p.members) (table_of p) m r.replica at.0 at.1 member).0 may.1 in (
      record {
        view = r.replica.view;
        copy = at.0;
        row = m;
        column = at.1;
        is = record {
          bank = omega (arith, member.form.bank, of.banks);
          copy = other_within g (replicas p.members) (table_of p) m r.replica at.0 member cell.0;
          row = omega (arith, present_within p.members m r there, y.form.all);
          column = cell.1;
        };
        at = sym at.3 ∙ (λ z. word_index_of (of.members z) (of.window z) r.replica.view at.0 (of.number z) at.1);
        other = λ e. ((other_member g (replicas p.members) (table_of p) m r.replica at.0 member).0 cell.0).other (sym e);
      },
      refl,
    )

-- at each kind of deed
pub looks : (g : Group) (p : Program) (net : List Packet) (m : ℕ) (r x : Running) (index : ℕ)
    → IsCarried g p net → present_at p.members m ≡ Some r → next_deed r ≡ deeds.Look index
    → x ≡ after_step (slice_index p.table index) r → IsCarriedOn g p (with_member p m x p.table) net
looks g p net m r x index carried there due member =
    let t = deed_tells p.table r (deeds.Look index) due in
    moved_on g p net m Ok r x p.table carried there t.none (member ∙ ap (λ w. after_step w r) (sym t.says.sees)
    ∙ sym (any_outcome (next_sight p.table r) (letter_for p m) Ok r (next_step r)
    (ap is_append t.says.look) t.says.no_join))
    (sym (ap (stored p.table r.replica) t.says.look)) (t.says.posts p.letters)

pub acts : (g : Group) (p : Program) (net : List Packet) (m : ℕ) (r x : Running) (index word : ℕ)
    → IsCarried g p net → present_at p.members m ≡ Some r → next_deed r ≡ deeds.Act index word
    → x ≡ after_step 0 r → IsCarriedOn g p (with_member p m x (slice_set p.table index word)) net
acts g p net m r x index word carried there due member =
    let t = deed_tells p.table r (deeds.Act index word) due in
    moved_on g p net m Ok r x (slice_set p.table index word) carried there t.none
    (member ∙ ap (λ w. after_step w r) (sym t.says.sees)
    ∙ sym (any_outcome (next_sight p.table r) (letter_for p m) Ok r (next_step r) t.says.other t.says.no_join))
    (sym t.says.stores) (t.says.posts p.letters)

pub appends : (g : Group) (p : Program) (net : List Packet) (m : ℕ) (r x : Running) (due : Record)
    → IsCarried g p net → present_at p.members m ≡ Some r → next_deed r ≡ deeds.Append due
    → x ≡ after_step 0 r → IsCarriedOn g p (with_member p m x p.table) net
appends g p net m r x due carried there next member =
    let t = deed_tells p.table r (deeds.Append due) next in
    moved_on g p net m Ok r x p.table carried there t.none
    (member ∙ sym (after_append (next_sight p.table r) (letter_for p m) Ok r (next_step r) t.says.0))
    (sym (append_stores p.table r.replica (next_step r) t.says.0))
    (append_gives p.letters r.replica (next_step r) t.says.0)

pub fails : (g : Group) (p : Program) (net : List Packet) (m : ℕ) (why : LogWhy) (r x : Running) (due : Record)
    → IsCarried g p net → present_at p.members m ≡ Some r → next_deed r ≡ deeds.Append due
    → x ≡ broken_off why r → IsCarriedOn g p (with_member p m x p.table) net
fails g p net m why r x due carried there next member =
    let t = deed_tells p.table r (deeds.Append due) next in
    moved_on g p net m (Failed why) r x p.table carried there t.none
    (member ∙ sym (after_append (next_sight p.table r) (letter_for p m) (Failed why) r (next_step r) t.says.0))
    (sym (append_stores p.table r.replica (next_step r) t.says.0))
    (append_gives p.letters r.replica (next_step r) t.says.0)

-- a letter is given: the program, which had none for that member, has it
pub gives : (g : Group) (p : Program) (net : List Packet) (m j : ℕ) (r x : Running)
    → IsCarried g p net → present_at p.members m ≡ Some r → next_deed r ≡ deeds.Give j → x ≡ after_step 0 r
    → (q : Program) × IsCarriedOn g p q net × (q.members ≡ with_present p.members m x) × (q.table ≡ p.table)
    × (q.letters ≡ with_present p.letters j (up_to_view r.replica.history)) × MayGet g p.letters j
gives g p net m j r x carried there due member =
    let t = deed_tells p.table r (deeds.Give j) due in
    let same = step_is p (ok m) r there t.none in
    let word = next_sight p.table r in
    let sound : IsSound g p = record {
      group = carried.group;
      form = carried.form;
      reached = (carried.before, carried.way);
    } in (
      step_of p (ok m),
      carried_on g p net (ok m) carried,
      ap (λ (q : Program). q.members) same ∙ ap (with_present p.members m)
          (ap (after_deed word (letter_for p m) Ok r) t.says ∙ ap (λ s. settled (took word r s)) t.says
          ∙ sym (ap (λ s. settled (took 0 r s)) t.says) ∙ sym member),
      ap (λ (q : Program). q.table) same ∙ ap (stored p.table r.replica) t.says,
      ap (λ (q : Program). q.letters) same ∙ ap (stored_letters p.letters r.replica) t.says,
      may_get g (world g p) p.letters m j sound.group sound.reached sound.form.posts refl
          (can_welcome g p m j r sound there due),
    )

-- a member that asks for its letter takes the one that is there
pub takes : (g : Group) (p : Program) (net : List Packet) (m : ℕ) (r x : Running) (letter : List Entry)
    → IsCarried g p net → present_at p.members m ≡ Some r → next_deed r ≡ deeds.Take → letter_for p m ≡ Some letter
    → x ≡ settled (took_letter (Some letter) r) → IsCarriedOn g p (with_member p m x p.table) net
takes g p net m r x letter carried there due found member =
    let t = deed_tells p.table r deeds.Take due in
    moved_on g p net m Ok r x p.table carried there t.none (member ∙ ap (λ o. settled (took_letter o r)) (sym found)
    ∙ sym (after_take (next_sight p.table r) (letter_for p m) Ok r (next_step r) t.says))
    (sym (ap (stored p.table r.replica) t.says)) (ap (stored_letters p.letters r.replica) t.says)

-- a push whose word is on its way
pub sends : (g : Group) (p : Program) (net : List Packet) (m : ℕ) (r x : Running) (packet : Packet)
    → IsCarried g p net → present_at p.members m ≡ Some r → next_deed r ≡ deeds.Push packet.index packet.word
    → x ≡ after_step 0 r → IsCarriedOn g p (with_member p m x p.table) (packet ∷ net)
sends g p net m r x packet carried there due member =
    let t = deed_tells p.table r (deeds.Push packet.index packet.word) due in
    let is = push_is r (next_step r) packet.index packet.word (sym (ap (deed r) t.none) ∙ due) in
    let after = member ∙ ap (λ w. after_step w r) (sym t.says.sees)
    ∙ sym (any_outcome (next_sight p.table r) (letter_for p m) Ok r (next_step r) t.says.other t.says.no_join) in
    let members : (step_of p (ok m)).members ≡ with_present p.members m x =
    ap (λ (q : Program). q.members) (step_is p (ok m) r there t.none) ∙ ap (with_present p.members m) (sym after) in
    let sent = carried_pushes g p net m r is.0 is.1 carried there (ap (step_due r) t.none ∙ ap Some is.2) in
    record {
      carried = subst (λ (q : Program). IsCarried g q (packet ∷ net))
          (λ z. record { members = members z; table = p.table; letters = p.letters })
          (subst (λ (one : Packet). IsCarried g (record {
            members = (step_of p (ok m)).members;
            table = p.table;
            letters = p.letters;
          }) (one ∷ net)) (λ z. record { index = is.3 z; word = is.4 z }) sent);
      grew = subst (λ ms. PastGrew (world g p).past
          (world g (record { members = ms; table = p.table; letters = p.letters })).past)
          members (carried_on g p net (ok m) carried).grew;
    }

-- a letter has not come
pub misses : (g : Group) (p : Program) (net : List Packet) (m : ℕ) (r x : Running)
    → IsCarried g p net → present_at p.members m ≡ Some r → next_deed r ≡ deeds.Take
    → x ≡ settled (took_letter None r) → IsCarriedOn g p (with_member p m x p.table) net
misses g p net m r x carried there due member =
    let t = deed_tells p.table r deeds.Take due in
    let asks : AsksForLetter r = record { unended = t.none; due = t.says } in
    subst (λ (y : Running). IsCarriedOn g p (with_member p m y p.table) net) (sym member) (record {
      carried = carried_misses g p net m r carried there asks;
      grew = subst (λ (w : World). PastGrew (world g p).past w.past) (sym (missed_stays g p (took_nothing p m r)
          (record { number = m; member = r; there = there; take = asks; made = refl }))) (past_same (world g p).past);
    })
