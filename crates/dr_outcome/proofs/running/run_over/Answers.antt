use Rattle.std.proofs.Common.{◌≤◌, All, length, subst, sym}
use Rattle.dr_entry.specs.declared.{end.AgeEnd.AgeEnd, limits.TheConstants.MAX_MEMBERS}
use Rattle.dr_yard.specs.Yards.{state_by}
use Rattle.dr_ages.proofs.Parts.{few_members}
use Rattle.dr_outcome.proofs.running.run_over.Goals as goal

pub last_of-last-requires : goal.last_of-last-requires
last_of-last-requires g c =
    let run = c.run_ages-ages.ensures.run in
    subst (All (λ (age : AgeEnd). length age.members ≤ MAX_MEMBERS)) (sym c.as_slice.ensures)
    (few_members c.args.script.now c.args.part.now c.args.mode 0
    (state_by g.Y.Yard.told g.Y.Yard.faults c.args.yard.now) run.last c.run_ages-ages.result.ages
    c.requires.ranges.group.most_members run.course)
