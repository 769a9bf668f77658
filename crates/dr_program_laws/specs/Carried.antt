-- A program of which words are on their way, as who carries them knows it.
use Rattle.std.specs.Prelude.{◌≡◌, ℕ, ◌<◌, All, List, ◌∷◌}
use Rattle.dr_words.specs.Layout.{word_index_of}
use Rattle.dr_machine.specs.{Group.{Group, IsGroup, banks, columns, roster}, Run.{WasOwn, Way}, World.World}
use Rattle.dr_program.specs.{Program.Program, Reading.world, declared.packet.Packet.Packet}
use Rattle.dr_refine.specs.Programs.{IsProgram}

-- a packet for a place of the table, whose word was an own one of the row of that place at one of these moments
pub record WasSent (g : Group) (moments : List World) (packet : Packet) : Type 0 where
  pub view : ℕ
  pub copy : ℕ
  pub row : ℕ
  pub column : ℕ
  pub bank : view < banks g
  pub to : copy < roster g
  pub from : row < roster g
  pub cell : column < columns g
  pub place : packet.index ≡ word_index_of (roster g) g.window view copy row column
  pub was : WasOwn moments view row column packet.word

-- a program of the group in a reached world, of which these packets are on their way
pub record IsCarried (g : Group) (p : Program) (net : List Packet) : Type 0 where
  pub group : IsGroup g
  pub form : IsProgram g p
  -- the worlds that it was
  pub before : List World
  pub way : Way g before (world g p)
  pub sent : All (WasSent g (world g p ∷ before)) net
