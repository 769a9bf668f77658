-- What a door has at one moment it has at each later one.
use Rattle.std.{specs.Prelude.Some, proofs.Common.{◌≡◌, subst, ℕ, ◌≤◌, length}}
use Rattle.dr_history.specs.History.{IsPrefixOf}
use Rattle.dr_machine.specs.{Group.IsGroup, World.opening_world}
use Rattle.dr_program.{specs.{Presence.present_at, Reading.world}, proofs.Deeds.of_there}
use Rattle.dr_restart.specs.{Groups.group_of, declared.start.Start.Start}
use Rattle.dr_script.specs.declared.script.Script.{Script}
use Rattle.dr_door.specs.{Apart.{Apart, HaveBegunApart, IsRanApart}, Lone.Lone}
use Rattle.dr_door.proofs.Apart.{doors_kept, there_is, way_kept}

-- what a member of the program has is what the world has of it
pub doors_last : (script : Script) (start : Start) (nth : ℕ) (begun a later : Apart) → IsGroup (group_of script start)
    → length script.messages ≡ script.members → 1 ≤ script.turns → HaveBegunApart script start nth begun
    → IsRanApart begun a → IsRanApart a later → (m : ℕ) (d e : Lone) → present_at a.doors m ≡ Some d
    → present_at later.doors m ≡ Some e → IsPrefixOf d.member.replica.history e.member.replica.history
    × (d.member.replica.durable ≤ e.member.replica.durable)
doors_last script start nth begun a later group lists some begins ran (before, way) m d e there stands =
    let g = group_of script start in
    let now = doors_kept script start nth begun a group lists some begins ran in
    let on = way_kept g a later before now.0 now.1 way in
    let old = there_is g a now.0 m d now.1 there in
    let new = there_is g later on.0 m e on.1 stands in (
      subst (λ h. IsPrefixOf h e.member.replica.history) (of_there now.0 (λ x. x.history)
          (opening_world g).past.history m d.member old) (subst (IsPrefixOf ((world g now.0).past.history m))
          (of_there on.0 (λ x. x.history) (opening_world g).past.history m e.member new) (on.2.history m)),
      subst (λ n. n ≤ e.member.replica.durable) (of_there now.0 (λ x. x.durable)
          (opening_world g).past.durable m d.member old) (subst (λ n. (world g now.0).past.durable m ≤ n)
          (of_there on.0 (λ x. x.durable) (opening_world g).past.durable m e.member new) (on.2.durable m)),
    )
