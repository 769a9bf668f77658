-- What an age opens with: the members that are dealt, and their logs.
use Rattle.std.specs.Prelude.{None, Option, Some, is_some, option_map}
use Rattle.std.proofs.{Common.{◌≡◌, refl, sym, ap, ◌∙◌, subst, ℕ, ◌≤◌, List, length, arith}, lemmas.List.length-map}
use Rattle.dr_disk.specs.Disk.{Told}
use Rattle.dr_entry.specs.declared.end.AgeEnd.{AgeEnd}
use Rattle.dr_log.specs.State.{LogState}
use Rattle.dr_served.specs.Served.{HaveSamePlaces, HaveServed}
use Rattle.dr_machine.specs.Group.{IsGroup, IsPresent}
use Rattle.dr_program.specs.{Presence.present_at, Running.{Running, begun_running}}
use Rattle.dr_program.specs.Program.{AllEnded, AreSetups, IsRanFrom, Program, age_of, begun_program}
use Rattle.dr_program.proofs.{Present.{all_ended, present_map, present_within, begun_fresh}, RunningPrograms.IsFresh}
use Rattle.dr_restart.{specs.{Groups.group_of, Setups.IsBegun, declared.start.Start.Start}, proofs.Setups.are_setups}
use Rattle.dr_program_laws.proofs.{Failing.all_failing, Keeping.deeds_kept}
use Rattle.dr_script.specs.{Ranges.HasRanges, declared.script.Script.Script}
use Rattle.dr_play.{specs.{Age.IsAgeOn, Begun.HaveBegun, Logged.AreOpened, Run.IsRun}, proofs.Playing.age_on}
use Rattle.dr_table.specs.{Cards.AreAtEnd, Rule.IsDealt}
use Rattle.dr_threads.specs.Logs.{AreFor}

-- the members of a script are those of its group
abbrev pub is_dealt : (script : Script) (start : Start) (nth : ℕ) (members : List (Option Running))
    → IsGroup (group_of script start) → length script.messages ≡ script.members → 1 ≤ script.turns
    → HaveBegun script start nth script.members members → IsDealt members
is_dealt script start nth members group lists some begun = record {
  group = group_of script start;
  turns = script.turns;
  setups = begun.setups;
  is = group;
  some = some;
  are = are_setups script start nth begun.setups lists begun.are;
  begun = begun.begun;
}

-- logs that are opened are for them
pub are_for : {D : Type 0} (script : Script) (start : Start) (nth : ℕ) (members : List (Option Running))
    (logs : List (Option (LogState D))) → length script.messages ≡ script.members
    → HaveBegun script start nth script.members members → AreOpened (group_of script start) logs → AreFor logs members
are_for {D} script start nth members logs lists begun opened = record {
  all = opened.all ∙ sym (ap length begun.begun ∙ length-map begun.setups (option_map begun_running) ∙ are.all);
  there = λ k. by k (present_at logs k) (present_at members k) refl refl;
  each = λ k log r there here.
      let opens = (opened.each k log there).1 in
      let fresh = (is_fresh k r here).1 in record {
        entries = opens.entries ∙ sym fresh.history;
        whole = opens.whole;
        logged = fresh.logged;
        votes = fresh.votes;
        none = fresh.none;
      };
}
  where
    are : AreSetups (group_of script start) script.turns begun.setups
    are = are_setups script start nth begun.setups lists begun.are

    is_fresh : (k : ℕ) (r : Running) → present_at members k ≡ Some r
        → IsPresent (group_of script start) k × IsFresh (group_of script start) r
    is_fresh k r here = begun_fresh (group_of script start) script.turns begun.setups k r are
        (ap (λ l. present_at l k) (sym begun.begun) ∙ here)

    -- a member is there where its log is
    by : (k : ℕ) (o : Option (LogState D)) (q : Option Running) → present_at logs k ≡ o
        → present_at members k ≡ q → is_some (present_at logs k) ≡ is_some (present_at members k)
    by k None None at here = ap is_some at ∙ sym (ap is_some here)
    by k (Some log) (Some r) at here = ap is_some at ∙ sym (ap is_some here)
    by k None (Some r) at here =
        let log = opened.there k (omega (
          arith,
          present_within members k r here,
          ap length begun.begun,
          length-map begun.setups (option_map begun_running),
          are.all,
        )) (is_fresh k r here).0 in
        absurd (cc (at, log.1))
    by k (Some log) None at here =
        let setup = are.there k (omega (arith, present_within logs k log at, opened.all)) (opened.each k log at).0 in
        let member = ap (λ l. present_at l k) begun.begun ∙ present_map begun_running begun.setups k
        ∙ ap (option_map begun_running) setup.1 in
        absurd (cc (here, member))

-- ---- the end

-- an age in threads whose members have all ended
pub age_over : {D : Type 0} (told : D → Option Told) (faults : D → ℕ) (script : Script) (start : Start) (nth : ℕ)
    (members : List (Option Running)) (bases logs : List (Option (LogState D))) (begun p : Program) (age : AgeEnd)
    → HasRanges script → IsGroup (group_of script start) → HaveBegun script start nth script.members members
    → ((d : IsDealt members) → begun ≡ begun_program d.group d.setups) → IsRanFrom begun p → AreAtEnd p.members
    → AreOpened (group_of script start) bases → HaveSamePlaces bases logs
    → HaveServed told faults bases logs p.members → age ≡ age_of (group_of script start).opening p
    → IsAgeOn IsRun told faults script start nth bases logs age
age_over told faults script start nth members bases logs begun p age ranges group b opens ran at_end opened places
    served is =
    let same : begun ≡ begun_program (group_of script start) b.setups =
    opens (is_dealt script start nth members group ranges.group.lists ranges.some_turn b) in
    let begins : IsBegun script start nth begun = (b.setups, b.are, same) in
    let kept = deeds_kept (group_of script start) script.turns b.setups p group ranges.some_turn
    (are_setups script start nth b.setups ranges.group.lists b.are) (subst (λ q. IsRanFrom q p) same ran) in
    let ended : AllEnded p = all_ended p at_end in
    age_on IsRun told faults script start nth bases logs begun p age ranges begins ran (record {
      sound = record { group = group; form = kept.0; reached = kept.1 };
      ended = ended;
      failing = all_failing script start nth begun p group ranges.group.lists ranges.some_turn begins ran;
      opened = opened;
      places = places;
      served = served;
    }) is (record { begun = begun; begins = begins; ran = ran; ended = ended; told = is })
