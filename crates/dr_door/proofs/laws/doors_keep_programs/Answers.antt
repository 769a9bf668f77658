use Rattle.dr_door.proofs.{Apart.{doors_agreed, doors_carried}, Welcome.{doors_invite, doors_welcome}}
use Rattle.dr_door.proofs.laws.doors_keep_programs.Goals as goal

pub returns : goal.returns
returns c = record { agree = doors_agreed; carried = doors_carried; welcome = doors_welcome; invited = doors_invite }
