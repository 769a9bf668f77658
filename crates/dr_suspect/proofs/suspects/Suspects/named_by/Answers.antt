use Rattle.std.proofs.{Common.{◌≡◌, true, arith}, lemmas.Grind.common_steps}
use Rattle.dr_suspect.{specs.Suspicion.names_me, proofs.Finds.{least_found, least_missing}}
use Rattle.dr_suspect.proofs.suspects.Suspects.named_by.Goals as goal

pub returns-then-has-2-clause-value : goal.returns-then-has-2-clause-value
returns-then-has-2-clause-value c =
    let passes : names_me c.args.self.now c.args.rows.now c.loop-row.row ≡ true = grind (arith, common_steps) in
    least_found (names_me c.args.self.now c.args.rows.now) c.loop-row.row (omega arith) passes c.loop-row.invariant

pub returns-clause-value : goal.returns-clause-value
returns-clause-value c = least_missing (names_me c.args.self.now c.args.rows.now)
    (λ i l. c.loop-row.invariant i (omega arith))
