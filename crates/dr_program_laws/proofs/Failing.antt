-- A failed append ends its member.
use Rattle.std.{specs.Prelude.{Option, None, Some, is_some, option_map}, proofs.lemmas.Option.same_Some}
use Rattle.std.proofs.Common.{◌≡◌, refl, sym, ap, ◌∙◌, subst, inl, inr, ℕ, ◌≤◌, true, false, List, arith, length}
use Rattle.dr_entry.specs.declared.{end.End.End, entry.Entry.Entry}
use Rattle.dr_script.specs.declared.script.Script.{Script}
use Rattle.dr_machine.{specs.{Group.{Group, IsGroup}, declared.event.Act.Act}, proofs.Ends.is_verdict}
use Rattle.dr_program.specs.{Acts.taken, Form.IsRunningMember, Presence.present_at, Turn.part_of}
use Rattle.dr_program.specs.{Net.{IsRanOverNet, took_nothing}, declared.{outcome.LogWhy.LogWhy, setup.Setup.Setup}}
use Rattle.dr_program.specs.Program.{AreSetups, IsRanFrom, Move, Program, after_deed, begun_program, letter_for, moved_by, next_sight, step_of}
use Rattle.dr_program.{specs.Replica.{Replica, value_due}, proofs.{Runs.after_either, StepsAt.{push_either, ends_at}}}
use Rattle.dr_program.specs.Running.{Running, after_step, append_or_end, begun_running, broken_off, crashes_now, end_by, judged, next_step, settled, step_at, took, took_letter, vote_or_end, AsksForLetter}
use Rattle.dr_program.{specs.{Steps.{IsAppend, stepped}, declared.place.Part.Part}, proofs.Opening.begun_reached}
use Rattle.dr_program.proofs.{Deeds.{rest_changes_nothing, step_is}, Search.{settle_only, take_leaves}}
use Rattle.dr_program.proofs.{Parts.{is_end, no_end, taken_end, verdict_of}, Present.{present_map, replaced_either}}
use Rattle.dr_program.specs.declared.place.Part.TheVariants as parts
use Rattle.dr_refine.{specs.Programs.IsProgram, proofs.Steps.begun_is_program}
use Rattle.dr_program_laws.{specs.Failing.{AreFailing, EndsBy, IsFailing, has_log_end}, proofs.Nets.net_keeps}
use Rattle.dr_program_laws.proofs.Programs.{ran_keeps}
use Rattle.dr_restart.{specs.{Groups.group_of, Setups.IsBegun, declared.start.Start.Start}, proofs.Setups.are_setups}

-- ---- one deed

-- a verdict ends no member by its log
verdict_logs : (r : Replica) (a : Act) → is_verdict a ≡ true → r.end ≡ None → has_log_end (taken r a).end ≡ false
verdict_logs r a is none = grind (arith, is, none)

-- where no append has failed no part of a turn ends its member by its log
no_log_end : (word : ℕ) (r : Running) (part : Part) (i c : ℕ) → r.failed ≡ None → r.replica.end ≡ None
    → is_end part ≡ false → has_log_end (stepped word r.replica (step_at r part i c)).end ≡ false
no_log_end word r parts.Judge i c well none plain = verdict_logs r.replica (judged r) (verdict_of r) none
no_log_end word r parts.Append i c well none plain =
    ap (λ o. has_log_end (stepped word r.replica (append_or_end o)).end) well ∙ ap has_log_end none
no_log_end word r parts.Vote i c well none plain = ap (λ o. has_log_end
    (stepped word r.replica (vote_or_end o (value_due r.replica))).end) well ∙ ap has_log_end none
no_log_end word r parts.Push i c well none plain = push_either (λ s. has_log_end
    (stepped word r.replica s).end ≡ false) (crashes_now r) i c (ap has_log_end none) refl
no_log_end word r parts.Crash i c well none plain = refl
no_log_end word r parts.Excluded i c well none plain = refl
no_log_end word r parts.Done i c well none plain = refl
no_log_end word r parts.Spent i c well none plain = refl
no_log_end word r (parts.Do a) i c well none plain = ap has_log_end (taken_end r.replica a plain ∙ none)
no_log_end word r part i c well none plain = ap has_log_end none

-- a member that takes its step
takes : (word : ℕ) (r : Running) → IsRunningMember r → r.replica.end ≡ None → IsFailing r
    → IsFailing (after_step word r)
takes word r member none is = record {
  well = λ unfailed. ap (λ (x : Running). has_log_end x.replica.end) only
      ∙ no_log_end word r (part_of r.place) r.place.row r.place.column
      (sym (ap (λ (x : Running). x.failed) only) ∙ unfailed) none (no_end r.place.part member.place.part);
  broken = λ why failed. inr (ap (λ (x : Running). x.replica.end) only
      ∙ ends why (is.broken why (sym (ap (λ (x : Running). x.failed) only) ∙ failed)));
}
  where
    only : after_step word r ≡ record (took word r (next_step r)) { place = (after_step word r).place }
    only = settle_only _ (took word r (next_step r))

    ends : (why : LogWhy) → EndsBy why r → (stepped word r.replica (next_step r)).end ≡ Some (end_by why)
    ends why (inl due) = ap (λ s. (stepped word r.replica s).end) due.1
    ends why (inr over) = absurd (cc (none, over))

breaks : (why : LogWhy) (r : Running) → r.replica.end ≡ None → IsAppend (next_step r) → IsFailing (broken_off why r)
breaks why r none due = record {
  well = λ unfailed. absurd (cc);
  broken = λ reason failed. inl (
    none,
    ends_at why r (part_of r.place) r.place.row r.place.column due
        ∙ ap (λ (x : LogWhy). append_or_end (Some x)) (same_Some why reason failed),
  );
}

-- a member that takes, and finds a letter or none
takes_letter : (letter : Option (List Entry)) (r : Running) → AsksForLetter r → IsFailing r
    → IsFailing (settled (took_letter letter r))
takes_letter letter r asks is = record {
  well = λ unfailed. ap has_log_end ended ∙ is.well (sym failed ∙ unfailed);
  broken = λ why broken. absurd (elim (is.broken why (sym failed ∙ broken)) [
    | inl ends ↦ cc (sym asks.due ∙ ends.1)
    | inr over ↦ cc (asks.unended, over)
  ]);
}
  where
    ended : (settled (took_letter letter r)).replica.end ≡ r.replica.end
    ended = (take_leaves letter r).0

    failed : (settled (took_letter letter r)).failed ≡ r.failed
    failed = (take_leaves letter r).1

-- ---- a move

pub move_fails : (g : Group) (p : Program) (e : Move) → IsProgram g p → AreFailing p → AreFailing (step_of p e)
move_fails g p e is all = by (present_at p.members e.member) refl
  where
    at : (r : Running) → present_at p.members e.member ≡ Some r → (o : Option End) → r.replica.end ≡ o
        → AreFailing (step_of p e)
    at r there (Some x) ended = subst AreFailing (sym (rest_changes_nothing p e r there (ap is_some ended))) all
    at r there None unended = subst AreFailing (sym (step_is p e r there unended)) (λ m y found.
        elim (replaced_either p.members e.member r
        (after_deed (next_sight p.table r) (letter_for p e.member) e.outcome r (next_step r)) there m y found) [
          | inl here ↦ subst IsFailing here.1 (after_either IsFailing p.table (letter_for p e.member) e.outcome r
              (next_step r) (takes (next_sight p.table r) r (is.form e.member r there) unended (all e.member r there))
              (λ why due. breaks why r unended due)
              (λ due. takes_letter (letter_for p e.member) r (record { unended = unended; due = due }) (all e.member r there)))
          | inr other ↦ all m y other.1
        ])

    by : (o : Option Running) → present_at p.members e.member ≡ o → AreFailing (step_of p e)
    by None none = subst AreFailing (sym (ap (λ o. moved_by p o e) none)) all
    by (Some r) there = at r there r.replica.end refl

-- ---- every run

begun_fails : (g : Group) (setups : List (Option Setup)) → AreFailing (begun_program g setups)
begun_fails g setups m r there = by (present_at setups m) (sym (present_map begun_running setups m) ∙ there)
  where
    begun : (s : Setup) → IsFailing (begun_running s)
    begun s = record { well = λ unfailed. refl; broken = λ why failed. absurd (cc) }

    by : (o : Option Setup) → option_map begun_running o ≡ Some r → IsFailing r
    by None same = absurd (cc)
    by (Some s) same = subst IsFailing (same_Some (begun_running s) r same) (begun s)

-- the members of a program that ran from its beginning
pub all_fail : (g : Group) (turns : ℕ) (setups : List (Option Setup)) (p : Program) (m : ℕ) (r : Running)
    → IsGroup g → 1 ≤ turns → AreSetups g turns setups → IsRanFrom (begun_program g setups) p
    → present_at p.members m ≡ Some r → IsFailing r
all_fail g turns setups p m r group some are (es, is) = subst AreFailing (sym is)
    (ran_keeps g AreFailing (begun_program g setups) es group (begun_is_program g turns setups group some are)
    (begun_reached g turns setups group are) (move_fails g) (begun_fails g setups)) m r

-- a take that finds no letter
missed_fails : (p : Program) (m : ℕ) (r : Running) → AreFailing p → present_at p.members m ≡ Some r
    → AsksForLetter r → AreFailing (took_nothing p m r)
missed_fails p m r all there asks k y found =
    elim (replaced_either p.members m r (settled (took_letter None r)) there k y found) [
      | inl here ↦ subst IsFailing here.1 (takes_letter None r asks (all m r there))
      | inr other ↦ all k y other.1
    ]

-- and over a net
pub net_fails : (g : Group) (turns : ℕ) (setups : List (Option Setup)) (p : Program) → IsGroup g → 1 ≤ turns
    → AreSetups g turns setups → IsRanOverNet g (begun_program g setups) p → AreFailing p
net_fails g turns setups p group some are (before, way) =
    net_keeps g turns setups AreFailing group some are (λ q e form run all. move_fails g q e form all)
    (λ q table letters all. all) (λ q m r form all. missed_fails q m r all) (begun_fails g setups) before p way

-- its members end by their appends
pub all_failing : (script : Script) (start : Start) (nth : ℕ) (begun p : Program)
    → IsGroup (group_of script start) → length script.messages ≡ script.members → 1 ≤ script.turns → IsBegun script start nth begun
    → IsRanFrom begun p → AreFailing p
all_failing script start nth begun p group lists some (setups, are, is) ran = λ m r there.
    all_fail (group_of script start) script.turns setups p m r group some
    (are_setups script start nth setups lists are) (subst (λ b. IsRanFrom b p) is ran) there
