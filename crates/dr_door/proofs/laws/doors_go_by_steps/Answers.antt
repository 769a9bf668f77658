use Rattle.dr_door.proofs.Steps.{led_steps, turn_step}
use Rattle.dr_door.proofs.laws.doors_go_by_steps.Goals as goal

pub returns : goal.returns
returns c = record { led = led_steps; turn = turn_step }
