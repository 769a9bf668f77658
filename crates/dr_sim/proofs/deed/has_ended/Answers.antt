use Rattle.std.{specs.Prelude.is_some, proofs.Common.{sym, ap, ◌∙◌}}
use Rattle.dr_program.specs.Program.{has_ended}
use Rattle.dr_sim.proofs.deed.has_ended.Goals as goal

pub returns-in-Some : goal.returns-in-Some
returns-in-Some c = c.is_some.ensures ∙ ap is_some c.end.ensures.end ∙ sym (ap has_ended c.in-Some.is)

pub returns-in-None : goal.returns-in-None
returns-in-None c = sym (ap has_ended c.in-None.is)
