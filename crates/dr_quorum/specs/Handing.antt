-- Logs that are handed in as a list, one place for each member.
use Rattle.std.specs.Prelude.{List, Option, None, slice_index_or}
use Rattle.dr_restart.specs.{Choosing.Handed, declared.lists.LogLists.LogLists}

-- the logs of the members, by number, none where it is missing
abbrev pub handed_by : List (Option LogLists) → Handed
handed_by lists m = slice_index_or lists m None
