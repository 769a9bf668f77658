use Rattle.std.{specs.Prelude.Contains, proofs.Common.{ℕ, get_or, sym, subst, arith}}
use Rattle.dr_lane.proofs.Blocks.{min_keeps, stands}
use Rattle.dr_lane.proofs.least_lane.Goals as goal

pub returns-clause-among : goal.returns-clause-among
returns-clause-among c =
    let lanes = c.args.lanes in
    let In : ℕ → Type 0 = Contains lanes in
    subst In (sym c.min-3.ensures) (min_keeps In c.min.result c.min-2.result
    (subst In (sym c.min.ensures) (min_keeps In (get_or lanes 0 0) (get_or lanes 1 0)
    (stands lanes 0 (omega (arith, c.fits-lanes.0))) (stands lanes 1 (omega (arith, c.fits-lanes.0)))))
    (subst In (sym c.min-2.ensures) (min_keeps In (get_or lanes 2 0) (get_or lanes 3 0)
    (stands lanes 2 (omega (arith, c.fits-lanes.0))) (stands lanes 3 (omega (arith, c.fits-lanes.0))))))
