use Rattle.std.proofs.Common.{sym, ap, ◌∙◌, subst, List, ℕ}
use Rattle.dr_program.specs.Steps.{given_to, stored}
use Rattle.dr_world.specs.Steps.{IsSight}
use Rattle.dr_world.proofs.steps.carry_out.Goals as goal

pub take-requires-clause-sight : goal.take-requires-clause-sight
take-requires-clause-sight c = λ i k look. subst (λ (t : List ℕ). IsSight t c.args.replica.now i k)
    (sym (c.store.ensures ∙ ap (stored c.args.table.now c.args.replica.now) look)) (c.requires.sight i k look)

pub give-requires-clause-list : goal.give-requires-clause-list
give-requires-clause-list c = λ j welcome. c.requires.list j (ap given_to welcome)
