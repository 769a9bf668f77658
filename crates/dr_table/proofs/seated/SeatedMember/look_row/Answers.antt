use Rattle.std.proofs.Common.{refl, subst}
use Rattle.dr_table.{specs.{Cards.Seated, Sweeps.HasSwept}, proofs.Sweeps.{come_begins, inside_swept}}
use Rattle.dr_table.proofs.seated.SeatedMember.look_row.Goals as goal

pub look_row-requires-clause-came : goal.look_row-requires-clause-came
look_row-requires-clause-came c = (refl, come_begins c.self.inside c.self.invariant)

pub invariant_of-self : goal.invariant_of-self
invariant_of-self c = inside_swept c.self.invariant (record { places = refl; rest = refl }) c.look_row.ensures.came.0
    c.look_row.ensures.came.1

pub returns-clause-swept : goal.returns-clause-swept
returns-clause-swept c =
    subst (λ (w : Seated). HasSwept w.member c.look_row.new.self) c.self.view_is c.look_row.ensures.came.1.taken
