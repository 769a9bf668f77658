-- A move keeps a program of the group, where it keeps the form of the member that makes it.
use Rattle.std.specs.Prelude.{Option, Some, None, is_some, option_map}
use Rattle.std.proofs.Common.{◌≡◌, refl, sym, ap, ◌∙◌, subst, ℕ, ◌<◌, ◌≤◌, inl, inr, List, length, map}
use Rattle.std.proofs.lemmas.{Bool.cases_eq, List.{length-set, length-map, length-replicate}, Option.same_Some}
use Rattle.dr_words.specs.Layout.{words_of}
use Rattle.dr_program.specs.{Form.{IsOf, IsRunningMember}, declared.setup.Setup.Setup}
use Rattle.dr_program.specs.{Presence.{present_at, with_present}, Running.{Running, begun_running, next_step}}
use Rattle.dr_program.specs.Program.{Program, Move, AreSetups, after_deed, begun_program, letter_for, next_sight, step_of}
use Rattle.dr_program.{specs.Steps.{stored, stored_letters}, proofs.{Fixed.of_deed, OpeningForm.begins_in_form}}
use Rattle.dr_program.proofs.{Deeds.{rest_changes_nothing, step_is}, Replicas.{stored_length, posts_length}}
use Rattle.dr_program.proofs.Present.{present_kept, present_map, present_set, present_within}
use Rattle.dr_machine.specs.Group.{Group, IsGroup, banks, roster}
use Rattle.dr_entry.specs.declared.{end.End.End, entry.Entry.Entry}
use Rattle.dr_refine.specs.Programs.{IsProgram}

-- ---- the program

-- one member replaced by a running one of its number
pub replaced_program : (g : Group) (p : Program) (m : ℕ)
    (r : Running) (cells : List ℕ) (letters : List (Option (List Entry))) → IsProgram g p → m < length p.members
    → IsRunningMember r → IsOf g m r.replica → length cells ≡ length p.table → length letters ≡ length p.letters
    → IsProgram g (record { members = with_present p.members m r; table = cells; letters = letters })
replaced_program g p m r cells letters is within form of same_length same_letters = record {
  all = length-set p.members m (Some r) ∙ is.all;
  form = λ k x there. elim (cases_eq k m) [
    | inl same ↦ subst IsRunningMember
        (same_Some r x (sym (present_set p.members m r within) ∙ rw same at there)) form
    | inr other ↦ is.form k x (sym (present_kept p.members m k r other) ∙ there)
  ];
  of = λ k x there. elim (cases_eq k m) [
    | inl same ↦ rw same (subst (λ (y : Running). IsOf g m y.replica)
        (same_Some r x (sym (present_set p.members m r within) ∙ rw same at there)) of)
    | inr other ↦ is.of k x (sym (present_kept p.members m k r other) ∙ there)
  ];
  there = λ k below here. elim (cases_eq k m) [
    | inl same ↦ (r, rw same (present_set p.members m r within))
    | inr other ↦ let old = is.there k below here in (old.0, present_kept p.members m k r other ∙ old.1)
  ];
  table = same_length ∙ is.table;
  posts = same_letters ∙ is.posts;
}

-- a move of a member that keeps its form
pub step_kept : (g : Group) (p : Program) (e : Move) → IsProgram g p
    → ((r : Running) → present_at p.members e.member ≡ Some r → r.replica.end ≡ None
    → IsRunningMember (after_deed (next_sight p.table r) (letter_for p e.member) e.outcome r (next_step r)))
    → IsProgram g (step_of p e)
step_kept g p e is keeps = by (present_at p.members e.member) refl
  where
    at : (r : Running) → present_at p.members e.member ≡ Some r → (o : Option End) → r.replica.end
        ≡ o → IsProgram g (step_of p e)
    at r there (Some x) ended = subst (IsProgram g) (sym (rest_changes_nothing p e r there (ap is_some ended))) is
    at r there None unended = subst (IsProgram g) (sym (step_is p e r there unended)) (replaced_program g p e.member
        (after_deed (next_sight p.table r) (letter_for p e.member) e.outcome r (next_step r))
        (stored p.table r.replica (next_step r)) (stored_letters p.letters r.replica (next_step r)) is
        (present_within p.members e.member r there) (keeps r there unended)
        (of_deed g e.member p.table (letter_for p e.member) e.outcome r (is.of e.member r there))
        (stored_length p.table r.replica (next_step r)) (posts_length p.letters r.replica (next_step r)))

    by : (o : Option Running) → present_at p.members e.member ≡ o → IsProgram g (step_of p e)
    by None none = rw none is
    by (Some r) there = at r there r.replica.end refl

-- ---- the beginning

-- a program begins as one of its group
pub begun_is_program : (g : Group) (limit : ℕ) (setups : List (Option Setup)) → IsGroup g → 1 ≤ limit
    → AreSetups g limit setups → IsProgram g (begun_program g setups)
begun_is_program g limit setups is some are = record {
  all = length-map setups (option_map begun_running) ∙ are.all;
  form = λ m r there. (begun m r there).0;
  of = λ m r there. (begun m r there).1;
  there = λ m below here. let s = are.there m below here in
      (begun_running s.0, present_map begun_running setups m ∙ ap (option_map begun_running) s.1);
  table = length-replicate (words_of (roster g) g.window (banks g)) 0;
  posts = length-replicate (roster g) None;
}
  where
    named : (m : ℕ) (r : Running) (o : Option Setup) → present_at setups m ≡ o
        → option_map begun_running o ≡ Some r → IsRunningMember r × IsOf g m r.replica
    named m r None e there = absurd (cc)
    named m r (Some s) e there = subst (λ (x : Running). IsRunningMember x × IsOf g m x.replica)
        (same_Some (begun_running s) r there) (begins_in_form g limit m s is some (are.each m s e))

    begun : (m : ℕ) (r : Running) → present_at (map (option_map begun_running) setups) m ≡ Some r
        → IsRunningMember r × IsOf g m r.replica
    begun m r there = named m r (present_at setups m) refl (sym (present_map begun_running setups m) ∙ there)
