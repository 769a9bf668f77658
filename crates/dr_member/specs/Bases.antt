-- The numbers by which a member finds words of the table.
use Rattle.std.specs.Prelude.{◌≡◌, ℕ, ◌^◌, ◌<◌, slice_index}
use Rattle.dr_words.specs.{Columns.columns_of, Layout.word_index_of}
use Rattle.dr_program.specs.Replica.{Replica, me}
use Rattle.dr_member.specs.declared.bases.Bases.{Bases}

-- those of member m in a view, for a roster of so many members and a window of so many slots: where a row
-- begins in its own copy, and where its own row does in a copy
pub record AreBasesOf (b : Bases) (members window view m : ℕ) : Type 0 where
  pub columns : b.columns ≡ columns_of members window
  pub looks : (i : ℕ) → i < members
      → slice_index b.looks i ≡ word_index_of members window view m i 0
  pub pushes : (j : ℕ) → j < members
      → slice_index b.pushes j ≡ word_index_of members window view j m 0

-- these are the numbers of the replica, whose view has so small a number that no index is too large
pub record AreBases (b : Bases) (r : Replica) : Type 0 where
  pub are : AreBasesOf b r.roster r.window r.view (me r)
  pub small : r.view < 2 ^ 8
