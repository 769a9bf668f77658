use Rattle.std.proofs.Common.{◌≡◌, ℕ, ◌<◌, Some}
use Rattle.dr_restart.specs.{Groups.first_group_of, declared.lists.LogLists.LogLists}
use Rattle.dr_history.specs.Restarting.{AllStand}
use Rattle.dr_quorum.specs.Handing.{handed_by}
use Rattle.dr_quorum.proofs.handing.find_foreign.Given as goal

abbrev pub invariant-loop-m : goal.invariant-loop-m
invariant-loop-m l = (m : ℕ) (log : LogLists) → m < l.m → handed_by l.lists m ≡ Some log
    → AllStand (first_group_of l.script).opening log.entries
