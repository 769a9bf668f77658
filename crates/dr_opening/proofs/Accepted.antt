-- Disks whose logs are in step, whatever a crash has left of them: they stay so, where none is missing.
use Rattle.std.{specs.Prelude.{take, Some, slice_get}, proofs.Common.{◌≡◌, refl, ℕ, ◌-◌, List, []}}
use Rattle.dr_entry.specs.declared.entry.Entry.{Entry}
use Rattle.dr_history.{specs.History.{IsPrefixOf, Sent}, proofs.{Keeping.both_along, Openings.InOrder-first}}
use Rattle.dr_history.proofs.Standing.{history-stands, part-stands, stands-by}
use Rattle.dr_script.specs.declared.script.Script.{Script}
use Rattle.dr_machine.specs.Group.{IsGroup}
use Rattle.dr_restart.specs.{Groups.group_of, declared.start.Start.Start}
use Rattle.dr_opening.specs.{Accepted.{AreAccepted, judged_by}, CatchingUp.opened_with}

-- first parts of what every history of an age begins with are accepted
pub fronts_accepted : (script : Script) (start : Start) (now : List (List Entry)) → IsGroup (group_of script start)
    → ((m : ℕ) (es : List Entry) → slice_get now m ≡ Some es → IsPrefixOf es (opened_with start start.members))
    → AreAccepted script now
fronts_accepted script start now group part = record {
  sound = λ m es at i e here. stands-by (group_of script start).opening (judged_by script) (take i es) e refl
      (part-stands (group_of script start).opening es (opened_with start start.members) (part m es at)
      (history-stands (group_of script start).opening none_sent (opened_with start start.members) group.sound
      (InOrder-first (group_of script start).opening none_sent group.sound)) i e here);
  along = λ a b g h less at_a at_b. both_along g h (opened_with start start.members) (part a g at_a) (part b h at_b);
}
  where
    none_sent : Sent
    none_sent s v = []
