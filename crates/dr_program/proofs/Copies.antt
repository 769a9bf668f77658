-- Packets for the copies of others.
use Rattle.std.proofs.Common.{◌≡◌, ◌≢◌, ℕ}
use Rattle.dr_machine.{specs.Group.Group, proofs.Groups.{place_in, IsPlace}}
use Rattle.dr_program.specs.declared.packet.Packet.{Packet}

-- a packet for a place of another member's copy
pub record IsToOther (g : Group) (packet : Packet) : Type 0 where
  pub view : ℕ
  pub copy : ℕ
  pub row : ℕ
  pub column : ℕ
  pub is : IsPlace g view copy row column
  pub at : packet.index ≡ place_in g view copy row column
  pub other : row ≢ copy
