use Rattle.std.proofs.{Common.{◌≡◌, true, arith}, lemmas.Grind.common_steps}
use Rattle.dr_suspect.{specs.Waits.is_overdue, proofs.Finds.{least_found, least_missing}}
use Rattle.dr_suspect.proofs.patience.Patience.overdue.Goals as goal

pub returns-then-is_late-clause-value : goal.returns-then-is_late-clause-value
returns-then-is_late-clause-value c =
    let passes : is_overdue c.args.self.now c.args.rows.now c.args.unsuspected c.loop-row.row ≡ true =
    grind (arith, common_steps) in
    least_found (is_overdue c.args.self.now c.args.rows.now c.args.unsuspected) c.loop-row.row
    (omega arith) passes c.loop-row.invariant

pub returns-clause-value : goal.returns-clause-value
returns-clause-value c = least_missing (is_overdue c.args.self.now c.args.rows.now c.args.unsuspected)
    (λ i l. c.loop-row.invariant i (omega arith))
