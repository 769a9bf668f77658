-- What is said of shards.
use Rattle.std.specs.{Fmt.decimal, List.{concat, enumerate_from, flat_map, join_by}}
use Rattle.std.specs.Prelude.{ℕ, List, [], ◌∷◌, ◌++◌, codes}
use Rattle.dr_entry.specs.declared.end.AgeEnd.{AgeEnd}
use Rattle.dr_shards.specs.Layout.{shard_members}
use Rattle.dr_text.specs.Report.{age_text}

-- the line of shard k of so many: which of the n members of the roster it has
abbrev pub shard_line : ℕ → ℕ → ℕ → List ℕ
shard_line shards n k =
    concat
    (codes "shard " ∷ decimal k ∷ codes " of " ∷ decimal shards ∷ codes " members "
    ∷ join_by decimal (codes ",") (shard_members shards k n) ∷ codes "\n" ∷ [])

-- the shards, numbered from 0: the line of each, and its age
abbrev pub shards_text : ℕ → ℕ → List AgeEnd → List ℕ
shards_text shards n ages = flat_map (λ t. shard_line shards n t.0 ++ age_text t.1) (enumerate_from 0 ages)
