-- The entries of one holder beside those of others.
use Rattle.std.specs.Prelude.{ℕ, ◌<◌, List}
use Rattle.dr_entry.specs.declared.entry.Entry.{Entry}
use Rattle.dr_history.specs.Restarting.{AreAlong, DifferAt}
use Rattle.dr_restart.specs.{Choosing.Handed, Refusing.IsHeldBy}

-- what the holders below a number have is along these entries
abbrev pub AreAlongBelow : Handed → ℕ → ℕ → List Entry → Type 0
AreAlongBelow h age a es = (i : ℕ) (f : List Entry) → i < a → IsHeldBy h age i f → AreAlong f es

-- the first holder below a member that has an entry where these differ, and where
pub record IsFirstApart (h : Handed) (age b : ℕ) (es : List Entry) (a place : ℕ) : Type 0 where
  pub below : a < b
  pub before : AreAlongBelow h age a es
  pub other : List Entry
  pub held : IsHeldBy h age a other
  pub differ : DifferAt other es place
