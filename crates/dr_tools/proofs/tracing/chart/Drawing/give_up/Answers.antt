use Rattle.std.proofs.Common.{[], subst}
use Rattle.dr_seeing.specs.Output.{Tells, Written}
use Rattle.dr_tools.proofs.tracing.chart.Drawing.give_up.Goals as goal

pub returns : goal.returns
returns g c = ([], subst (λ (w : Written). Tells [] w c.give_up.new.self) c.self.view_is (c.give_up.ensures []))
