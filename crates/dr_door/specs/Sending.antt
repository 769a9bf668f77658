-- The words that a door pushed last.
use Rattle.std.specs.Prelude.{◌≡◌, ◌≢◌, ℕ, ◌<◌, ◌==◌, List, [], ◌∷◌, if◌then◌else◌, length, slice_index}
use Rattle.dr_program.specs.{Replica.me, declared.packet.Packet.Packet}
use Rattle.dr_door.specs.{Coming.{copy_of, row_in}, Lone.Lone}

-- at this index, in the room for the copy of another member, k, stands the word that it pushed there last
pub record IsLastSent (d : Lone) (k index : ℕ) : Type 0 where
  pub within : index < length d.words
  pub copy : copy_of d.member.replica.roster d.member.replica.window index ≡ k
  pub other : k ≢ me d.member.replica
  pub some : slice_index d.words index ≢ 0

-- the word that was sent last, of packets the last of which comes first, for the place of this index: 0 where none was
abbrev pub last_sent : List Packet → ℕ → ℕ
last_sent [] index = 0
last_sent (packet ∷ sent) index = if packet.index == index then packet.word else last_sent sent index

-- the word that member m sent last for that place, where it is in its row, for a roster of so many members and a window
-- of so many slots
abbrev pub last_sent_by : ℕ → ℕ → ℕ → List Packet → ℕ → ℕ
last_sent_by members window m sent index = if row_in members window index == m then last_sent sent index else 0
