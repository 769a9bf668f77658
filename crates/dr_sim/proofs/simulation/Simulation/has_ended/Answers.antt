use Rattle.std.proofs.Common.{sym, ap, ◌∙◌}
use Rattle.dr_program.specs.Program.{has_ended}
use Rattle.dr_sim.proofs.Steps.{place_read}
use Rattle.dr_sim.proofs.simulation.Simulation.has_ended.Goals as goal

pub returns : goal.returns
returns c = c.has_ended.ensures ∙ ap has_ended (sym (place_read c.self.inside.members.items c.self.inside.table.items c.self.inside.posts.letters
    c.args.self.now c.args.m c.index.result.now c.self.view_is c.requires c.index.ensures))
