-- The doors of a group, each in a process of its own, and what they have sent one another.
use Rattle.std.specs.Prelude.{◌≡◌, ◌⊎◌, ℕ, ◌<◌, ◌≤◌, true, Contains, List, [], ◌∷◌, length, map, slice_index, Option, Some, IfSome, option_map}
use Rattle.dr_machine.specs.Group.{Group, IsPresent, banks, columns, roster}
use Rattle.dr_entry.specs.declared.entry.Entry.{Entry}
use Rattle.dr_history.specs.History.{up_to_view}
use Rattle.dr_member.specs.Deeds.{is_append}
use Rattle.dr_program.specs.{Presence.{present_at, with_present}, declared.deed.Deed.TheVariants.{Give, Push, Take}}
use Rattle.dr_program.specs.{Running.{Running, next_deed}, declared.{outcome.LogWhy.LogWhy, packet.Packet.Packet}}
use Rattle.dr_restart.specs.{Groups.group_of, declared.start.Start.Start}
use Rattle.dr_script.specs.{Reading.{Reads, reading_of}, declared.script.Script.Script}
use Rattle.dr_words.specs.Layout.{word_index_of}
use Rattle.dr_door.specs.{Begun.{HasBegun, HasOpened}, Coming.came_to}
use Rattle.dr_door.specs.Lone.{Lone, after_asking, done_alone, failed, is_alone, pushed_on, went_on}

-- a letter for the member of this number
pub record Letter : Type 0 where
  pub to : ℕ
  pub entries : List Entry

pub record Apart : Type 0 where
  -- the doors by number: the place of a member that is absent is empty
  pub doors : List (Option Lone)
  -- all packets that were sent, and all letters that were given, the last one first
  pub sent : List Packet
  pub letters : List Letter

-- with this door at the place of member m
abbrev pub with_door : Apart → ℕ → Lone → Apart
with_door a m d = record { doors = with_present a.doors m d; sent = a.sent; letters = a.letters }

-- a door does a deed that concerns nobody else
pub record DoesAlone (a b : Apart) : Type 0 where
  pub number : ℕ
  pub door : Lone
  pub there : present_at a.doors number ≡ Some door
  pub due : is_alone (next_deed door.member) ≡ true
  pub made : b ≡ with_door a number (done_alone door)

-- a door pushes a word: a packet is sent
pub record Sends (a b : Apart) : Type 0 where
  pub number : ℕ
  pub door : Lone
  pub there : present_at a.doors number ≡ Some door
  pub packet : Packet
  pub due : next_deed door.member ≡ Push packet.index packet.word
  pub made : b ≡ record {
    doors = with_present a.doors number (pushed_on door);
    sent = packet ∷ a.sent;
    letters = a.letters;
  }

-- a door's log has the record that it appends, or its append fails
pub record Appends (a b : Apart) : Type 0 where
  pub number : ℕ
  pub door : Lone
  pub there : present_at a.doors number ≡ Some door
  pub due : is_append (next_deed door.member) ≡ true
  pub made : b ≡ with_door a number (went_on door)

pub record Fails (a b : Apart) : Type 0 where
  pub number : ℕ
  pub door : Lone
  pub there : present_at a.doors number ≡ Some door
  pub due : is_append (next_deed door.member) ≡ true
  pub why : LogWhy
  pub made : b ≡ with_door a number (failed why door)

-- a door gives a late member its letter: its history up to and with its last View
pub record Gives (a b : Apart) : Type 0 where
  pub number : ℕ
  pub door : Lone
  pub there : present_at a.doors number ≡ Some door
  pub late : ℕ
  pub due : next_deed door.member ≡ Give late
  pub made : b ≡ record {
    doors = with_present a.doors number (went_on door);
    sent = a.sent;
    letters = record { to = late; entries = up_to_view door.member.replica.history } ∷ a.letters;
  }

-- a late member's door asks for its letter, and takes one that was given for it, or none has come
pub record Asks (a b : Apart) : Type 0 where
  pub number : ℕ
  pub door : Lone
  pub there : present_at a.doors number ≡ Some door
  pub due : next_deed door.member ≡ Take
  pub letter : Option (List Entry)
  pub given : IfSome letter (λ entries. Contains a.letters (record { to = number; entries = entries }))
  pub made : b ≡ with_door a number (after_asking letter door)

-- a packet that was sent comes to a door, be it the first time or once more, and whoever else has had it
pub record Comes (a b : Apart) : Type 0 where
  pub number : ℕ
  pub door : Lone
  pub there : present_at a.doors number ≡ Some door
  pub packet : Packet
  pub sent : Contains a.sent packet
  pub made : b ≡ with_door a number (came_to door packet.index packet.word)

-- what may happen next. A packet or a letter that never comes is lost
abbrev pub ApartStep : Apart → Apart → Type 0
ApartStep a b =
    DoesAlone a b ⊎ (Sends a b ⊎ (Appends a b ⊎ (Fails a b ⊎ (Gives a b ⊎ (Asks a b ⊎ Comes a b)))))

-- what was before, the last first, from that on which begins
abbrev pub ApartWay : Apart → List Apart → Apart → Type 0
ApartWay begun [] a = a ≡ begun
ApartWay begun (x ∷ xs) a = ApartWay begun xs x × ApartStep x a

abbrev pub IsRanApart : Apart → Apart → Type 0
IsRanApart begun a = (before : List Apart) × ApartWay begun before a

-- the members of the doors, by number
abbrev pub members_of_doors : List (Option Lone) → List (Option Running)
members_of_doors doors = map (option_map (λ (d : Lone). d.member)) doors

-- the doors of the members of a script's group that are there, each begun as this age opens; nothing was sent or given
pub record HaveBegunApart (script : Script) (start : Start) (nth : ℕ) (a : Apart) : Type 0 where
  pub all : length a.doors ≡ script.members
  pub each : (m : ℕ) (d : Lone) → present_at a.doors m ≡ Some d → HasBegun script start nth m d
  pub there : (m : ℕ) → m < script.members → IsPresent (group_of script start) m
      → (d : Lone) × (present_at a.doors m ≡ Some d)
  pub sent : a.sent ≡ []
  pub letters : a.letters ≡ []

-- the doors of a new group, one at least, each opened by its own process over the same bytes; nothing was sent or given
pub record HaveOpenedApart (bytes : List ℕ) (script : Script) (a : Apart) : Type 0 where
  pub reads : reading_of bytes ≡ Reads script
  pub some : 1 ≤ length a.doors
  pub all : length a.doors ≡ script.members
  pub each : (m : ℕ) → m < length a.doors → (d : Lone) × (present_at a.doors m ≡ Some d) × HasOpened bytes m d
  pub sent : a.sent ≡ []
  pub letters : a.letters ≡ []

-- what each door has in its member's copy stands so in this table
pub record AreCopies (g : Group) (doors : List (Option Lone)) (table : List ℕ) : Type 0 where
  pub whole : (m : ℕ) (d : Lone) → present_at doors m ≡ Some d → length d.words ≡ length table
  pub same : (m : ℕ) (d : Lone) → present_at doors m ≡ Some d → (v i c : ℕ) → v < banks g → i < roster g
      → c < columns g → slice_index d.words (word_index_of (roster g) g.window v m i c)
      ≡ slice_index table (word_index_of (roster g) g.window v m i c)
