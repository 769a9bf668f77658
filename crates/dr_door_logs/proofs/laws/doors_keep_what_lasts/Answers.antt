use Rattle.dr_door_logs.proofs.Leaving.{ages-come, door-durable}
use Rattle.dr_door_logs.proofs.laws.doors_keep_what_lasts.Goals as goal

pub returns : goal.returns
returns c = record { come = ages-come; durable = door-durable }
