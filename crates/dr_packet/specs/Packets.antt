-- The bytes of packets.
use Rattle.std.specs.{Int.{from_be_bytes, to_be_bytes, w16, w32, w64}, List.flat_map}
use Rattle.std.specs.Prelude.{◌≡◌, ◌≢◌, ℕ, ◌-◌, ◌<◌, ◌≤◌, ◌^◌, ◌%◌, ⊤, List, [], ◌∷◌, ◌++◌, length, take, drop, slice_index}
use Rattle.sha2.specs.Sha256.{sha256}
use Rattle.dr_packet.specs.declared.{Call.Call, Seal.Seal, Way.Way}
use Rattle.dr_packet.specs.declared.Far.{Far}
use Rattle.dr_packet.specs.declared.Far.TheVariants as fars
use Rattle.dr_packet.specs.declared.Says.{Says}
use Rattle.dr_packet.specs.declared.Says.TheVariants as say
use Rattle.dr_packet.specs.declared.reading.PacketFault.{PacketFault}
use Rattle.dr_packet.specs.declared.reading.PacketFault.TheVariants as faults

-- by these a packet begins: the letters DRS1
abbrev pub magic : List ℕ
magic = 68 ∷ 82 ∷ 83 ∷ 49 ∷ []

-- the byte of each kind
abbrev pub kind_of : Says → ℕ
kind_of (say.Ask whole at) = 1
kind_of (say.Hand whole at bytes) = 2
kind_of (say.Try call far) = 3
kind_of (say.Words age words) = 4

-- and of how far somebody is
abbrev pub far_byte : Far → ℕ
far_byte fars.Chosen = 0
far_byte fars.Voted = 1
far_byte fars.Up = 2

-- the bytes of long numbers, eight of each, the greatest one first
abbrev pub long_bytes : List ℕ → List ℕ
long_bytes numbers = flat_map (to_be_bytes w64) numbers

-- the long number that begins at a place
abbrev pub long_at : ℕ → List ℕ → ℕ
long_at at bytes = from_be_bytes w64 (drop at bytes)

-- what stands before what it says
abbrev pub head : Seal → Way → ℕ → List ℕ
head seal way kind =
    magic ++ ((kind ∷ way.from ∷ way.to ∷ 0 ∷ []) ++ (to_be_bytes w32 way.ages ++ (seal.group ++ seal.plan)))

-- what it says
abbrev pub body : Says → List ℕ
body (say.Ask whole at) = to_be_bytes w64 whole ++ to_be_bytes w64 at
body (say.Hand whole at bytes) = to_be_bytes w64 whole ++ (to_be_bytes w64 at ++ bytes.now)
body (say.Try call far) =
    (far_byte far ∷ []) ++ (to_be_bytes w16 call.age ++ (to_be_bytes w16 call.set ++ long_bytes call.lengths))
body (say.Words age words) = to_be_bytes w16 age ++ words.now

-- a packet carries at most so much, and words are whole
abbrev pub IsShort : Says → Type 0
IsShort (say.Hand whole at bytes) = length bytes.now ≤ 1280
IsShort (say.Words age words) = (length words.now ≤ 1320) × (length words.now % 12 ≡ 0)
IsShort says = ⊤

-- with the digest of all before
abbrev pub summed : List ℕ → List ℕ
summed bytes = bytes ++ take 8 (sha256 bytes)

-- the one spelling of a packet
abbrev pub spelling : Seal → Way → Says → List ℕ
spelling seal way says = summed (head seal way (kind_of says) ++ body says)

-- each number of its head fits its field
abbrev pub FitsWay : Way → Type 0
FitsWay way = (way.from < 2 ^ 8) × (way.to < 2 ^ 8) × (way.ages < 2 ^ 32)

-- so do those of a call, which has a length for each of 16 members
pub record FitsCall (call : Call) : Type 0 where
  pub set : call.set < 2 ^ 16
  pub age : call.age < 2 ^ 16
  pub members : length call.lengths ≡ 16
  pub lengths : (m : ℕ) → slice_index call.lengths m < 2 ^ 64

-- and those of what it says
abbrev pub Fits : Says → Type 0
Fits (say.Ask whole at) = (whole < 2 ^ 64) × (at < 2 ^ 64)
Fits (say.Hand whole at bytes) = (whole < 2 ^ 64) × (at < 2 ^ 64)
Fits (say.Try call far) = FitsCall call
Fits (say.Words age words) = age < 2 ^ 16

-- the bytes are the packet of this seal that goes this way and says this
pub record IsPacket (seal : Seal) (bytes : List ℕ) (way : Way) (says : Says) : Type 0 where
  pub goes : FitsWay way
  pub fits : Fits says
  pub short : IsShort says
  pub is : bytes ≡ spelling seal way says

-- both say the same
abbrev pub SaysSame : Says → Says → Type 0
SaysSame (say.Ask whole at) (say.Ask long from) = (whole ≡ long) × (at ≡ from)
SaysSame (say.Hand whole at bytes) (say.Hand long from others) =
    (whole ≡ long) × (at ≡ from) × (bytes.now ≡ others.now)
SaysSame (say.Try call far) (say.Try other step) = (call ≡ other) × (far ≡ step)
SaysSame (say.Words age words) (say.Words year others) = (age ≡ year) × (words.now ≡ others.now)
SaysSame says other = ⊥

-- they are as long as a packet at least, and begin as one
abbrev pub HasForm : List ℕ → Type 0
HasForm bytes = (68 ≤ length bytes) × (take 4 bytes ≡ magic)

-- the digest at the end is that of all before
abbrev pub IsSummed : List ℕ → Type 0
IsSummed bytes = take 8 (sha256 (take (length bytes - 8) bytes)) ≡ drop (length bytes - 8) bytes

-- the name of a group, where packets have it
abbrev pub group_in : List ℕ → List ℕ
group_in bytes = take 16 (drop 12 bytes)

-- and the digest of its plan
abbrev pub plan_in : List ℕ → List ℕ
plan_in bytes = take 32 (drop 28 bytes)

-- why bytes are no packet of a seal: the first of these that is the case
abbrev pub IsFault : Seal → List ℕ → PacketFault → Type 0
IsFault seal bytes faults.Short = ¬ HasForm bytes
IsFault seal bytes faults.Sum = HasForm bytes × ¬ IsSummed bytes
IsFault seal bytes faults.OtherGroup = HasForm bytes × IsSummed bytes × (group_in bytes ≢ seal.group)
IsFault seal bytes faults.OtherPlan =
    HasForm bytes × IsSummed bytes × (group_in bytes ≡ seal.group) × (plan_in bytes ≢ seal.plan)
IsFault seal bytes faults.Kind = HasForm bytes × IsSummed bytes × (group_in bytes ≡ seal.group)
    × (plan_in bytes ≡ seal.plan) × ((way : Way) (says : Says) → ¬ IsPacket seal bytes way says)
