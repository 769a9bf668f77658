-- The calls of an append, as they are to be done to a real disk.
use Rattle.std.specs.Prelude.{ℕ, ◌-◌, ◌==◌, ◌&&◌, ◌||◌, nat_le, Bool, false, true, slice_get, slice_index_or, if◌then◌else◌, List, [], ◌∷◌, ◌++◌, length, take, Option, None, Some}
use Rattle.dr_disk.specs.Memory.{CalmState}
use Rattle.dr_desk.specs.declared.Task.{Task}
use Rattle.dr_desk.specs.declared.Task.TheVariants.{Sync, Write}

-- what a desk has, and the calls of its last append
pub record DeskState : Type 0 where
  pub disk : CalmState
  pub tasks : List Task

-- a sync
abbrev pub is_sync : Task → Bool
is_sync Sync = true
is_sync (Write from to) = false

-- a mount, which is one sync, or an append that has both of its syncs is over
abbrev pub is_over : List Task → Bool
is_over tasks = (length tasks == 1 && is_sync (slice_index_or tasks 0 Sync)) || nat_le 4 (length tasks)

-- with a call more, which is the first of the next append where the last one is over
abbrev pub with_task : Task → List Task → List Task
with_task task tasks = (if is_over tasks then [] else tasks) ++ task ∷ []

-- the write that a write is together with the task before it, where this ends where that begins
abbrev pub joined : Option Task → ℕ → ℕ → Option Task
joined (Some (Write from to)) at end = if to == at then Some (Write from end) else None
joined (Some Sync) at end = None
joined None at end = None

-- with this write in the place of the last call, or where there is none, with a call more
abbrev pub last_or_more : Option Task → Task → List Task → List Task
last_or_more (Some whole) task tasks = take (length tasks - 1) tasks ++ whole ∷ []
last_or_more None task tasks = with_task task tasks

-- with a write more, which is one with the last call where this is a write that ends where it begins
abbrev pub with_write : ℕ → ℕ → List Task → List Task
with_write at end tasks = last_or_more (joined (slice_get tasks (length tasks - 1)) at end) (Write at end) tasks
