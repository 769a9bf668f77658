-- How the fields of a world hold what contracts see of it.
use Rattle.std.specs.Prelude.{◌≡◌}
use Rattle.dr_history.specs.Order.{first_entries}
use Rattle.dr_restart.specs.Groups.{group_of}
use Rattle.dr_world.specs.{Held.{Held, IsHeld, its_group}, Posts.HasLists, declared.world.World.TheInside.Inside}

abbrev pub held_of : Inside → Held
held_of a = record {
  script = a.script;
  start = a.start;
  replicas = a.replicas.items;
  table = a.table.items;
  letters = a.posts.letters;
}

-- beside them stand the memory for letters, and the entries that every history begins with
pub record IsInsideWorld (a : Inside) : Type 0 where
  pub held : IsHeld (held_of a)
  pub lists : HasLists (its_group (held_of a)) a.replicas.items a.posts
  pub first : a.first.items ≡ first_entries (group_of a.script a.start).opening
