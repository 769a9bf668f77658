use Rattle.std.proofs.Common.{◌≤◌, All, length, subst, sym}
use Rattle.dr_entry.specs.declared.{end.AgeEnd.AgeEnd, limits.TheConstants.MAX_MEMBERS}
use Rattle.dr_shards.proofs.Counting.{few_members}
use Rattle.dr_commands.proofs.shards.running.run_all.Goals as goal

pub last_of-last-requires : goal.last_of-last-requires
last_of-last-requires g c =
    subst (All (λ (age : AgeEnd). length age.members ≤ MAX_MEMBERS)) (sym c.deref-2.ensures.value)
    (few_members c.args.sharding.now.mode c.args.scripts.now c.in_ok-ages.ages.items c.requires.ranges
    c.in_ok-ages.ensures)
