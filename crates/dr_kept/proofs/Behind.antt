-- The logs of all members behind an age are such as it may leave, so they hold with no tries.
use Rattle.std.{specs.Prelude.{Option, Some, slice_get}, proofs.lemmas.Option.same_Some}
use Rattle.std.proofs.Common.{◌≡◌, refl, ap, sym, ◌∙◌, subst, ℕ, ◌≤◌, Bool, true, false, List, [], length}
use Rattle.dr_history.specs.{Members.has, Soundness.whole_roster}
use Rattle.dr_log_bytes.specs.Content.{OnLog}
use Rattle.dr_machine.specs.{Group.{Group, IsGroup, IsPresent}, Run.IsReached, World.World}
use Rattle.dr_program.specs.{Program.Program, Reading.world}
use Rattle.dr_restart.specs.{Groups.group_of, Left.{AreLeft, IsLeftByMember, IsLeftByOther}, Trying.IsTry}
use Rattle.dr_restart.specs.declared.{lists.{Attempt.Attempt, LogLists.LogLists}, start.Start.Start}
use Rattle.dr_script.specs.{Ranges.HasGroupRanges, declared.script.Script.Script}
use Rattle.dr_words.specs.Masks.{IsMajorityOf}
use Rattle.dr_world_laws.proofs.Worlds.{known}
use Rattle.dr_quorum_laws.specs.Holding.{AreSoundTries, HaveNoLaterVotes, HoldSince}
use Rattle.dr_quorum_laws.proofs.{Keeping.{since-held, since-left}, Missing.others-left}
use Rattle.dr_opening.specs.{Lists.as_lists, Tries.AreAmong}
use Rattle.dr_kept.{specs.Leaving.{AreLeftFrom, IsAgeOfChoice}, proofs.Chosen.{IsKnownAge, known_age, log_behind}}
use Rattle.dr_kept.proofs.Leaving.{left_by_member}

-- what is asked of the logs of those that were not there
abbrev pub AreLeftByOthers : Script → Start → List LogLists → Type 0
AreLeftByOthers script start logs = (m : ℕ) (log : LogLists) → ¬ IsPresent (group_of script start) m
    → slice_get logs m ≡ Some log → IsLeftByOther (group_of script start) log

pub left_behind : (script : Script) (start : Start) (nth : ℕ) (found after : List (Option OnLog))
    (p : Program) (logs : List LogLists) → HasGroupRanges script → IsAgeOfChoice script start nth found p
    → IsKnownAge script start p → AreLeftFrom start found p after → length logs ≡ script.members → AreAmong after logs
    → AreLeftByOthers script start logs → AreLeft (group_of script start) (world (group_of script start) p) logs
left_behind script start nth found after p logs ranges is k left long among others = record {
  all = long ∙ sym ranges.lists;
  members = each;
  others = others;
}
  where
    each : (m : ℕ) (log : LogLists) → IsPresent (group_of script start) m → slice_get logs m ≡ Some log
        → IsLeftByMember (group_of script start) (world (group_of script start) p) m log
    each m log present at =
        let t = log_behind script start nth found after p m ranges is left present in
        subst (IsLeftByMember (group_of script start) (world (group_of script start) p) m)
        (same_Some (as_lists t.0) log (sym (among m t.0 t.1) ∙ at))
        (left_by_member script start nth found p m t.0 is k (left.each m t.0 t.1))

pub held_behind : (script : Script) (start : Start) (nth : ℕ) (found after : List (Option OnLog)) (p : Program)
    (logs : List LogLists) → HasGroupRanges script → 1 ≤ script.turns → IsAgeOfChoice script start nth found p
    → AreLeftFrom start found p after → length logs ≡ script.members → AreAmong after logs
    → AreLeftByOthers script start logs → AreLeft (group_of script start) (world (group_of script start) p) logs
    × HoldSince (group_of script start) (world (group_of script start) p) logs [] logs
held_behind script start nth found after p logs ranges some is left long among others =
    (all, (since-left g (world g p) logs k.group k.known k.majority all).held)
  where
    g : Group
    g = group_of script start

    k : IsKnownAge script start p
    k = known_age script start nth found p ranges some is

    all : AreLeft (group_of script start) (world (group_of script start) p) logs
    all = left_behind script start nth found after p logs ranges is k left long among others

pub reached_behind : (script : Script) (start : Start) (nth : ℕ) (found : List (Option OnLog)) (p : Program)
    → HasGroupRanges script → 1 ≤ script.turns → IsAgeOfChoice script start nth found p
    → IsGroup (group_of script start) × IsReached (group_of script start) (world (group_of script start) p)
    × IsMajorityOf start.present (whole_roster (group_of script start).opening)
reached_behind script start nth found p ranges some is =
    let k = known_age script start nth found p ranges some is in (k.group, k.known.run, k.majority)

-- where a try opened the age, on logs that held since an earlier one
pub opened_behind : (script : Script) (earlier : Start) (w : World) (choice before opened logs : List LogLists)
    (tries : List Attempt) (try : Attempt) (nth : ℕ) (found after : List (Option OnLog)) (p : Program)
    → HasGroupRanges script
    → 1 ≤ script.turns → IsGroup (group_of script earlier) → IsReached (group_of script earlier) w
    → IsMajorityOf earlier.present (whole_roster (group_of script earlier).opening)
    → AreLeft (group_of script earlier) w choice → HoldSince (group_of script earlier) w choice tries before
    → AreSoundTries (group_of script earlier).opening tries
    → HaveNoLaterVotes earlier.age before → IsTry (group_of script earlier).opening before opened try
    → IsAgeOfChoice script try.start nth found p → AreLeftFrom try.start found p after → length logs ≡ script.members
    → AreAmong after logs → ((m : ℕ) → has try.set m ≡ false → slice_get logs m ≡ slice_get opened m)
    → AreLeft (group_of script try.start) (world (group_of script try.start) p) logs
    × HoldSince (group_of script try.start) (world (group_of script try.start) p) logs [] logs
opened_behind script earlier w choice before opened logs tries try nth found after p ranges some group run most
    left held sounds below t is lefts long among others =
    held_behind script try.start nth found after p logs ranges some is lefts long among missing
  where
    out : (m : ℕ) → ¬ IsPresent (group_of script try.start) m → (b : Bool) → has try.set m ≡ b → has try.set m ≡ false
    out m absent false e = e
    out m absent true e = absurd (absent (ap (λ mask. has mask m) (sym t.set) ∙ e))

    missing : AreLeftByOthers script try.start logs
    missing m log absent at =
        let none : has try.set m ≡ false = out m absent (has try.set m) refl in
        others-left script earlier w choice before opened tries try m log
        (since-held (group_of script earlier) w choice before tries group (known (group_of script earlier) w group run)
        most left held) sounds below t none (sym (others m none) ∙ at)
