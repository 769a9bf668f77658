use Rattle.std.proofs.Common.{ap, ◌∙◌}
use Rattle.dr_program.specs.Program.{Program}
use Rattle.dr_play.proofs.Sound.{all_in_form, all_within}
use Rattle.dr_sim.proofs.simulation.Simulation.tell_end.Goals as goal

pub close-requires-clause-form : goal.close-requires-clause-form
close-requires-clause-form g c = all_in_form g.group c.args.self.now c.deref.result.now c.requires.1
    (c.deref.ensures.value ∙ ap (λ (v : Program). v.members) c.self.view_is)

pub close-requires-clause-size : goal.close-requires-clause-size
close-requires-clause-size g c =
    all_within g.group c.args.self.now c.deref.result.now c.deref-2.result.now c.requires.1
    (c.deref.ensures.value ∙ ap (λ (v : Program). v.members) c.self.view_is)
    (c.deref-2.ensures.value ∙ ap (λ (v : Program). v.table) c.self.view_is)
