-- What an age starts with is chosen whether the messages have grown since or not.
use Rattle.std.proofs.Common.{◌≡◌, ◌∙◌, subst, ℕ, ◌-◌, ◌^◌, List, length, Option}
use Rattle.dr_ages.{specs.{Found.AreFound, Stops.AreRefusedFor}, proofs.Good.{IsGood, stands_there}}
use Rattle.dr_log_bytes.specs.Content.{OnLog}
use Rattle.dr_opening.specs.{Lists.all_as_lists, Tries.IsChosenOf}
use Rattle.dr_quorum.specs.Handing.{handed_by}
use Rattle.dr_restart.specs.{Choosing.{Handed, HasQuorum, handed_of}, Groups.first_group_of, Refusing.HasPath}
use Rattle.dr_restart.{specs.{Refusing.Refusal.AgesUsedUp, declared.start.Start.Start}, proofs.Choosing.held_beside}
use Rattle.dr_script.specs.declared.script.Script.{Script}
use Rattle.dr_senders.specs.Senders.{Lists}
use Rattle.dr_yard.specs.Yards.{YardState}
use Rattle.dr_live.specs.Live.{plan_with}

-- what is chosen with the messages of one age is chosen with those of the age before, which were fewer
pub chosen_before : (plan : Script) (old new : Lists) (yard : YardState) (contents : List (Option OnLog))
    (start : Start) → length new ≡ length old → IsGood (plan_with plan old) yard
    → AreFound plan.members 0 yard contents → IsChosenOf (first_group_of (plan_with plan new)).opening contents start
    → IsChosenOf (first_group_of (plan_with plan old)).opening contents start
chosen_before plan old new yard contents start same good found is = record {
  all = is.all ∙ same;
  chosen = record {
    sound = stands_there (plan_with plan old) yard contents good found;
    quorum = subst (λ (n : ℕ). HasQuorum h (2 ^ n - 1)) same is.chosen.quorum;
    entries = held_beside (first_group_of (plan_with plan old)).opening
        (first_group_of (plan_with plan new)).opening h start.entries same is.chosen.entries;
    age = is.chosen.age;
    left = is.chosen.left;
    present = subst (λ (n : ℕ). start.present ≡ handed_of h (2 ^ n - 1)) same is.chosen.present;
    members = is.chosen.members;
    some = is.chosen.some;
  };
}
  where
    h : Handed
    h = handed_by (all_as_lists contents)

-- so it is where no number is left
pub used_before : (plan : Script) (old new : Lists) (yard : YardState) (contents : List (Option OnLog))
    → length new ≡ length old → IsGood (plan_with plan old) yard → AreFound plan.members 0 yard contents
    → AreRefusedFor (plan_with plan new) AgesUsedUp contents → AreRefusedFor (plan_with plan old) AgesUsedUp contents
used_before plan old new yard contents same good found used = (
  (
    stands_there (plan_with plan old) yard contents good found,
    subst (λ (n : ℕ). HasQuorum h (2 ^ n - 1)) same used.0.1,
  ),
  λ age last.
      let r = used.1 age last in (r.0, λ first are. subst (λ (n : ℕ). HasPath n h age first) same (r.1 first are)),
  used.2,
  used.3,
  used.4,
  used.5,
)
  where
    h : Handed
    h = handed_by (all_as_lists contents)
