-- The views of a world, as its histories have them, and what is delivered in them.
use Rattle.std.specs.Prelude.{◌≡◌, ℕ, ◌+◌, ◌<◌, ◌≤◌, List, [], ◌∷◌, ◌++◌, map, true, false, slice_index, Contains}
use Rattle.dr_entry.specs.{declared.entry.Entry.{Entry, TheVariants.View}, declared.record.Value.Value}
use Rattle.dr_history.specs.{History.{IsPrefixOf, merge}, Members.{has, members_of}}
use Rattle.dr_words.specs.Masks.{next_members}
use Rattle.dr_machine.specs.{Group.{Group, roster}, World.World}
use Rattle.dr_faithful.specs.Tells.{Views}

-- some history holds the View of this number of the age, with these members
abbrev pub HasView : Group → World → ℕ → ℕ → Type 0
HasView g w v members =
    (k : ℕ) × (k < roster g) × Contains (w.past.history k) (View g.opening.age v members)

-- V gives the members of each view, as the histories have them
abbrev pub AreViews : Group → World → Views → Type 0
AreViews g w V = (v members : ℕ) → HasView g w v members → V v ≡ members

-- the merge of all that a value takes of a view of these members
abbrev pub all_taken : Group → World → ℕ → ℕ → Value → List Entry
all_taken g w v members x =
    merge g.opening w.past.sent (record { age = g.opening.age; number = v; members = members_of members })
    (map (λ s. slice_index x.trim s) (members_of members))

-- a value of a view of these members covers what anybody has delivered behind the View
pub record IsCovered (g : Group) (w : World) (v members : ℕ) (x : Value) : Type 0 where
  -- who is in the view has delivered a front part of the merge of all that the value takes
  pub within : (m : ℕ) (before behind : List Entry) → m < roster g → w.past.view m ≡ v
      → w.past.history m ≡ before ++ View g.opening.age v members ∷ behind
      → IsPrefixOf behind (all_taken g w v members x)
  -- who has left it has all of this, and behind it the View of the members that come of it
  pub whole : (m : ℕ) (before behind : List Entry) → m < roster g → v < w.past.view m
      → w.past.history m ≡ before ++ View g.opening.age v members ∷ behind
      → IsPrefixOf
      (all_taken g w v members x ++ View g.opening.age (v + 1) (next_members members x.leavers) ∷ []) behind
  -- and each that doesn't leave has received all items that the value takes
  pub received : (i s : ℕ) → has members i ≡ true → has x.leavers i ≡ false → has members s ≡ true
      → slice_index x.trim s ≤ w.past.count i v s
