-- How a script is played.
use Rattle.std.specs.Prelude.{ℕ, zero, suc, List, [], ◌∷◌, Option, None, Some}
use Rattle.dr_ages.specs.declared.{mode.Mode.{Mode, TheVariants.Sim}, part.Part.Part}

-- the logs in the folder of this name, but for those of the members of a mask, which are missing
pub record InFolder : Type 0 where
  pub name : List ℕ
  pub missing : ℕ

-- in a mode, over the logs in a folder, or over empty ones in memory, and who is late
pub record Playing : Type 0 where
  pub mode : Mode
  pub folder : Option InFolder
  pub late : ℕ

-- whose logs are missing: in memory nobody's
abbrev pub missing_of : Option InFolder → ℕ
missing_of (Some folder) = folder.missing
missing_of None = 0

-- who takes part, and from when on
abbrev pub part_in : Playing → Part
part_in play = record { missing = missing_of play.folder; late = play.late }

-- simulated by the schedule of the script, over empty logs in memory, with nobody late
abbrev pub simulated : Playing
simulated = record { mode = Sim; folder = None; late = 0 }

-- the statuses of the last lines of a run: in memory no disk fails, no log is refused, and none is full
abbrev pub ends_over : Option InFolder → List ℕ
ends_over None = 0 ∷ 8 ∷ 9 ∷ []
ends_over (Some folder) = 0 ∷ 6 ∷ 7 ∷ 8 ∷ 9 ∷ 11 ∷ []

-- these, and 2 where somebody is named as late: all who take part may be
abbrev pub with_usage : ℕ → List ℕ → List ℕ
with_usage zero ends = ends
with_usage (suc late) ends = 2 ∷ ends

-- the statuses of the last lines where what is played may be no script
abbrev pub play_ends : Playing → List ℕ
play_ends play = 3 ∷ with_usage play.late (ends_over play.folder)
