-- What is known of an age that began with what was chosen of some logs.
use Rattle.std.specs.Prelude.{Option, None, Some, is_some, option_map}
use Rattle.std.proofs.Common.{◌≡◌, refl, ap, sym, ◌∙◌, subst, ℕ, ◌<◌, ◌≤◌, true, false, List}
use Rattle.dr_entry.specs.declared.record.Record.{Record}
use Rattle.dr_history.specs.{Members.has, Soundness.whole_roster}
use Rattle.dr_log_bytes.{specs.Content.OnLog, proofs.Grammars.some_there}
use Rattle.dr_machine.specs.{Group.{Group, IsGroup, IsPresent}, Run.IsReached}
use Rattle.dr_program.specs.{Presence.present_at, Program.{AreSetups, IsRanFrom, Program, begun_program}}
use Rattle.dr_program.specs.{Reading.world, Running.Running}
use Rattle.dr_program_laws.proofs.Keeping.{deeds_kept}
use Rattle.dr_refine.specs.Programs.{IsProgram}
use Rattle.dr_restart.specs.{Choosing.HasAge, Groups.{first_group_of, group_of}, declared.start.Start.Start}
use Rattle.dr_restart.proofs.Setups.{are_setups}
use Rattle.dr_script.{specs.{Ranges.HasGroupRanges, declared.script.Script.Script}, proofs.Ranges.few}
use Rattle.dr_words.specs.Masks.{IsMajorityOf}
use Rattle.dr_world_laws.proofs.Worlds.{Known, known}
use Rattle.dr_opening.{specs.{Lists.as_lists, Tries.content_at}, proofs.{Choosing.chosen_group, Lists.handed_is}}
use Rattle.dr_opening.proofs.Trying.{in_set, out_of_set}
use Rattle.dr_kept.{specs.Leaving.{AreLeftFrom, HasBegunAppend, IsAgeOfChoice}, proofs.Waiting.idle_append}

-- its group, its program and its world; more than half of the roster is there, and no vote waits of a member
-- an append of which has begun
pub record IsKnownAge (script : Script) (start : Start) (p : Program) : Type 0 where
  pub group : IsGroup (group_of script start)
  pub form : IsProgram (group_of script start) p
  pub known : Known (group_of script start) (world (group_of script start) p)
  pub majority : IsMajorityOf start.present (whole_roster (group_of script start).opening)
  pub idle : (m : ℕ) (r : Running) (next : Record) → present_at p.members m ≡ Some r → HasBegunAppend r next
      → r.replica.pending ≡ None

pub known_age : (script : Script) (start : Start) (nth : ℕ) (found : List (Option OnLog)) (p : Program)
    → HasGroupRanges script → 1 ≤ script.turns → IsAgeOfChoice script start nth found p → IsKnownAge script start p
known_age script start nth found p ranges some is = record {
  group = group;
  form = kept.0;
  known = known g (world g p) group kept.1;
  majority = subst (λ mask. IsMajorityOf mask (whole_roster g.opening))
      (sym is.chosen.chosen.present) is.chosen.chosen.quorum;
  idle = λ m r next there begun. idle_append g script.turns is.begins.0 p m r next group some are ran there
      (kept.0.form m r there) begun;
}
  where
    g : Group
    g = group_of script start

    group : IsGroup (group_of script start)
    group = chosen_group script found start ranges is.chosen

    are : AreSetups (group_of script start) script.turns is.begins.0
    are = are_setups script start nth is.begins.0 ranges.lists is.begins.1

    ran : IsRanFrom (begun_program (group_of script start) is.begins.0) p
    ran = subst (λ (b : Program). IsRanFrom b p) is.begins.2 is.ran

    kept : IsProgram (group_of script start) p × IsReached (group_of script start) (world (group_of script start) p)
    kept = deeds_kept g script.turns is.begins.0 p group some are ran

-- ---- who is there

-- who has a log there is there
pub with_log : (script : Script) (start : Start) (nth : ℕ) (found : List (Option OnLog)) (p : Program) (m : ℕ)
    (c : OnLog) → HasGroupRanges script → IsAgeOfChoice script start nth found p → content_at found m ≡ Some c
    → IsPresent (group_of script start) m
with_log script start nth found p m c ranges is at =
    in_set (first_group_of script).opening found start m c is.chosen (few script ranges) at

-- and who is there has one
pub has_log : (script : Script) (start : Start) (nth : ℕ) (found : List (Option OnLog)) (p : Program) (m : ℕ)
    → HasGroupRanges script → IsAgeOfChoice script start nth found p → IsPresent (group_of script start) m
    → is_some (content_at found m) ≡ true
has_log script start nth found p m ranges is present = by (content_at found m) refl
  where
    by : (o : Option OnLog) → content_at found m ≡ o → is_some o ≡ true
    by (Some c) at = refl
    by None at =
        let out : has start.present m ≡ false =
        out_of_set (first_group_of script).opening found start m is.chosen (few script ranges) at in
        absurd (cc (present, out))

-- behind the age too
pub log_behind : (script : Script) (start : Start) (nth : ℕ) (found after : List (Option OnLog)) (p : Program) (m : ℕ)
    → HasGroupRanges script → IsAgeOfChoice script start nth found p → AreLeftFrom start found p after
    → IsPresent (group_of script start) m → (c : OnLog) × (content_at after m ≡ Some c)
log_behind script start nth found after p m ranges is left present =
    some_there (content_at after m) (left.same m ∙ has_log script start nth found p m ranges is present)

pub behind_there : (script : Script) (start : Start) (nth : ℕ) (found after : List (Option OnLog)) (p : Program) (m : ℕ)
    (c : OnLog) → HasGroupRanges script → IsAgeOfChoice script start nth found p → AreLeftFrom start found p after
    → content_at after m ≡ Some c → IsPresent (group_of script start) m
behind_there script start nth found after p m c ranges is left at =
    let l = left.each m c at in with_log script start nth found p m l.first ranges is l.on

-- ---- the ages that were known

-- the age is above all on the logs
pub age_above : (script : Script) (start : Start) (nth : ℕ) (found : List (Option OnLog)) (p : Program) (m a : ℕ)
    (c : OnLog) → IsAgeOfChoice script start nth found p → content_at found m ≡ Some c → HasAge (as_lists c) a
    → a < start.age
age_above script start nth found p m a c is at has_age = is.chosen.chosen.age.above m a (as_lists c)
    (handed_is found m ∙ ap (option_map as_lists) at) has_age
