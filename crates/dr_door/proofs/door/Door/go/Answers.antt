use Rattle.std.proofs.Common.{refl, sym, ◌∙◌}
use Rattle.dr_door.proofs.Steps.{leads_on}
use Rattle.dr_door.proofs.door.Door.go.Goals as goal

pub loop-self-init : goal.loop-self-init
loop-self-init c = λ e h. h

pub go_on-requires : goal.go_on-requires
go_on-requires c = sym c.goes_on.ensures ∙ c.loop-self-test.true

pub loop-self-preserved : goal.loop-self-preserved
loop-self-preserved c = λ e h. c.loop-self.invariant e
    (leads_on c.go_on.ensures.led.0 c.loop-self.self c.go_on.new.self e c.go_on.ensures.led.1 h)

pub returns-clause-led : goal.returns-clause-led
returns-clause-led c = c.loop-self.invariant c.loop-self.self
    (0, refl, sym c.goes_on.ensures ∙ c.loop-self-test.false)
