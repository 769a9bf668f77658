use Rattle.dr_play.specs.Begun.{HaveBegun}
use Rattle.dr_play.proofs.opening.begun_members.Given as goal

abbrev pub invariant-loop-me : goal.invariant-loop-me
invariant-loop-me l = HaveBegun l.script l.start l.nth l.me l.members.items
