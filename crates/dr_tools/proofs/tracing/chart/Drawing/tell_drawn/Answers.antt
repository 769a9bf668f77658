use Rattle.std.proofs.Common.{subst}
use Rattle.dr_seeing.specs.Output.{Tells, Written}
use Rattle.dr_tools.proofs.tracing.chart.Drawing.tell_drawn.Goals as goal

pub returns : goal.returns
returns g c = (
  c.text.result.now,
  subst (λ (w : Written). Tells c.text.result.now w c.tell.new.self) c.self.view_is c.tell.ensures,
)
