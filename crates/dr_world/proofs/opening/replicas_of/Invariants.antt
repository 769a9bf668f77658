use Rattle.dr_world.specs.Begun.{HaveBegun}
use Rattle.dr_world.proofs.opening.replicas_of.Given as goal

abbrev pub invariant-loop-me : goal.invariant-loop-me
invariant-loop-me l = HaveBegun l.script l.start l.me l.replicas.items
