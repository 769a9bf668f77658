-- What the words of a call ask for.
use Rattle.std.specs.Option.{option_and_then}
use Rattle.std.specs.Prelude.{⊤, ℕ, ◌+◌, ◌<◌, ◌^◌, nat_lt, if◌then◌else◌, Bool, true, false, List, ◌∷◌, ◌++◌, codes, Option, None, Some, option_map}
use Rattle.dr_literals.specs.{Literals.number_word, Options.{late_named, option_of}}
use Rattle.dr_entry.specs.declared.limits.TheConstants.{MAX_MEMBERS}
use Rattle.dr_tools.specs.{OutcomeForms.without_blanks, declared.sweeps.words.Runs.Runs}
use Rattle.dr_tools.specs.declared.sweeps.words.{Runs.TheVariants.{ByCrashes, BySeeds}, Seeds.Seeds, Task.Task}

-- so many seeds from this one on, where the one behind them is still of 64 bits
abbrev pub seeds_of : Option ℕ → Option ℕ → Option Seeds
seeds_of (Some from) (Some count) =
    if nat_lt (from + count) (2 ^ 64) then Some (record { from = from; count = count }) else None
seeds_of from count = None

-- seeds are so
abbrev pub AreFit : Runs → Type 0
AreFit (BySeeds seeds) = seeds.from + seeds.count < 2 ^ 64
AreFit (ByCrashes member) = ⊤

-- the same of words
abbrev pub seeds_by : List ℕ → List ℕ → Option Seeds
seeds_by from count = seeds_of (number_word from) (number_word count)

-- the runs by the seeds that words begin with, and the words behind them
abbrev pub seeds_at : List (List ℕ) → Option (Runs × List (List ℕ))
seeds_at (from ∷ count ∷ words) = option_map (λ seeds. (BySeeds seeds, words)) (seeds_by from count)
seeds_at words = None

-- the number of a member that a word writes
abbrev pub member_of : List ℕ → Option ℕ
member_of word = option_and_then (λ n. if nat_lt n MAX_MEMBERS then Some n else None) (number_word word)

-- the runs that words begin with, where an option with this value, if it stands there, names the member that crashes
abbrev pub runs_by : Option (List ℕ) × List (List ℕ) → Option (Runs × List (List ℕ))
runs_by (Some member, words) = option_map (λ m. (ByCrashes m, words)) (member_of member)
runs_by (None, words) = seeds_at words

abbrev pub runs_at : List (List ℕ) → Option (Runs × List (List ℕ))
runs_at words = option_and_then runs_by (option_of (codes "--crashes") words)

-- an outcome that is wanted, as a line without blanks
abbrev pub wanted_line : List ℕ → List ℕ
wanted_line outcome = without_blanks outcome ++ codes "\n"

-- the outcome that is wanted by an option of a smaller script, if one is, or else by one of a least script, whether it is
-- of that one, and the words behind it
abbrev pub wanted_by : Option (List ℕ) × List (List ℕ) → Option ((Option (List ℕ) × Bool) × List (List ℕ))
wanted_by (Some outcome, words) = Some ((Some outcome, false), words)
wanted_by (None, words) = option_map (λ found. ((found.0, true), found.1)) (option_of (codes "--shrink-all") words)

abbrev pub wanted_named : List (List ℕ) → Option ((Option (List ℕ) × Bool) × List (List ℕ))
wanted_named words = option_and_then wanted_by (option_of (codes "--shrink") words)

-- the same, and who is late by the words behind it
abbrev pub outcome_named : List (List ℕ) → Option ((Option (List ℕ) × Bool) × ℕ)
outcome_named words =
    option_and_then (λ found. option_map (λ late. (found.0, late)) (late_named found.1)) (wanted_named words)

-- what is asked for, with these runs, this outcome, if one is wanted, and these late members
abbrev pub task_with : Runs → (Option (List ℕ) × Bool) × ℕ → Task
task_with runs found = record {
  runs = runs;
  wanted = option_map wanted_line found.0.0;
  least = found.0.1;
  late = found.1;
}

-- what the words ask for, if they are those of a call
abbrev pub task_in : List (List ℕ) → Option Task
task_in words = option_and_then (λ found. option_map (task_with found.0) (outcome_named found.1)) (runs_at words)
