use Rattle.std.proofs.Common.{◌≤◌, All, length, subst, sym}
use Rattle.dr_entry.specs.declared.{end.AgeEnd.AgeEnd, limits.TheConstants.MAX_MEMBERS}
use Rattle.dr_live.proofs.Delivering.{all_few}
use Rattle.dr_commands.proofs.live.running.run_plan.Goals as goal

pub last_of-last-requires : goal.last_of-last-requires
last_of-last-requires g c = subst (All (λ (age : AgeEnd). length age.members ≤ MAX_MEMBERS))
    (sym c.as_slice-ages.ensures) (all_few _ _ _ _ c.requires c.in_ok-end.ensures.lived)
