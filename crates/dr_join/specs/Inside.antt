-- How the fields hold what contracts see of lists for letters.
use Rattle.std.specs.Prelude.{◌≡◌, ◌≤◌, All, [], length, vec_capacity}
use Rattle.dr_join.specs.{Lists.Spare, declared.letters.Letters.TheInside.Inside}

abbrev pub spare_of : Inside → Spare
spare_of a = record { count = length a.lists.items; room = a.room }

-- each list is empty, and has the room
pub record AreEmpty (a : Inside) : Type 0 where
  pub empty : All (λ list. list.items ≡ []) a.lists.items
  pub room : All (λ list. a.room ≤ vec_capacity list) a.lists.items
