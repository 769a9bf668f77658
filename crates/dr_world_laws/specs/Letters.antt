-- What a letter for a late member is, and who gives it.
use Rattle.std.specs.Prelude.{◌≡◌, ◌⊎◌, ℕ, ◌+◌, ◌<◌, ◌≤◌, List, [], ◌∷◌, ◌++◌, Contains, true}
use Rattle.dr_entry.specs.declared.entry.Entry.{Entry, TheVariants.View}
use Rattle.dr_history.specs.{History.IsPrefixOf, Members.has}
use Rattle.dr_machine.specs.{Group.{Group, roster}, World.World}

-- m is the least of those that are in both of two views, of which these are the members
pub record IsWelcomer (earlier members m : ℕ) : Type 0 where
  pub was : has earlier m ≡ true
  pub stays : has members m ≡ true
  pub least : (i : ℕ) → has earlier i ≡ true → has members i ≡ true → m ≤ i

-- a front part of what its giver has delivered, up to and with a View of the age, which is the first one that
-- names j. The giver is the welcomer by this view and the one before, and keeps in this view that it gave it
pub record IsHeadFor (g : Group) (w : World) (j : ℕ) (letter : List Entry) : Type 0 where
  pub giver : ℕ
  pub within : giver < roster g
  pub delivered : IsPrefixOf letter (w.past.history giver)
  pub before : List Entry
  pub view : ℕ
  pub members : ℕ
  pub is : letter ≡ before ++ View g.opening.age view members ∷ []
  pub member : has members j ≡ true
  pub first : (v others : ℕ) → Contains letter (View g.opening.age v others) → has others j ≡ true → v ≡ view
  pub from : ℕ
  pub next : view ≡ from + 1
  pub earlier : ℕ
  pub came : Contains letter (View g.opening.age from earlier)
  pub welcomer : IsWelcomer earlier members giver
  pub gave : (has (w.given giver) j ≡ true) ⊎ (view < w.past.view giver)
