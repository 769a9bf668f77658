use Rattle.dr_program_laws.proofs.Bounds.{has_room}
use Rattle.dr_program_laws.proofs.room.room_is_there.Goals as goal

pub returns : goal.returns
returns c = λ g rs table m r s is room reached can. has_room g rs table m r s is room reached can
