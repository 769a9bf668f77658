-- What the words behind `shards` ask for.
use Rattle.std.specs.Option.{option_and_then}
use Rattle.std.specs.Prelude.{ℕ, ◌&&◌, nat_le, if◌then◌else◌, List, [], ◌∷◌, bytes_eq, codes, Option, None, Some, option_map}
use Rattle.dr_literals.specs.Literals.{number_word}
use Rattle.dr_shards.specs.declared.run.ShardMode.{ShardMode, TheVariants.{Run, Sim}}
use Rattle.dr_commands.specs.declared.shards.sharding.Sharding.{Sharding}

-- how many shards there may be
abbrev pub shard_count : ℕ → Option ℕ
shard_count n = if nat_le 1 n && nat_le n 16 then Some n else None

-- how they run, by the words behind their number: by their schedule where there is none, in threads by `run`
abbrev pub run_mode : List (List ℕ) → Option ShardMode
run_mode [] = Some Sim
run_mode (word ∷ []) = if bytes_eq word (codes "run") then Some Run else None
run_mode (word ∷ more ∷ rest) = None

-- so many shards, which run so
abbrev pub run_so : List (List ℕ) → ℕ → Option Sharding
run_so rest count = option_map (λ mode. record { count = count; mode = mode }) (run_mode rest)

-- the words write how many shards there are, in decimal, and how they run
abbrev pub sharding_of : List (List ℕ) → Option Sharding
sharding_of [] = None
sharding_of (word ∷ rest) = option_and_then (run_so rest) (option_and_then shard_count (number_word word))
