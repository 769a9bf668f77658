-- The scripts of a sweep's runs.
use Rattle.std.specs.Prelude.{ℕ, zero, suc, ◌+◌, ◌<◌, ◌^◌, All, List, [], ◌∷◌, ◌++◌, length}
use Rattle.dr_script.specs.{Ranges.HasFaultRanges, declared.script.{Fault.Fault, Schedule.TheVariants.Seed}}
use Rattle.dr_script.specs.declared.script.Script.{Script}
use Rattle.dr_tools.specs.declared.sweeps.variants.Variants.{Variants, TheVariants.{Crashes, Seeded}}

-- the script by this seed, in place of its own schedule
abbrev pub by_seed : Script → ℕ → Script
by_seed script seed = record script { schedule = Seed seed }

-- the script with this fault too
abbrev pub with_fault : Script → Fault → Script
with_fault script fault = record script { faults = script.faults ++ fault ∷ [] }

-- the script with each of these faults, by number
abbrev pub with_each : List Fault → Script → ℕ → Script
with_each [] script n = script
with_each (fault ∷ faults) script zero = with_fault script fault
with_each (fault ∷ faults) script (suc n) = with_each faults script n

-- the scripts of a sweep's runs, by number
abbrev pub variant : Variants → Script → ℕ → Script
variant (Seeded seeds) script n = by_seed script (seeds.from + n)
variant (Crashes faults) script n = with_each faults script n

-- how many there are
abbrev pub variants_in : Variants → ℕ
variants_in (Seeded seeds) = seeds.count
variants_in (Crashes faults) = length faults

-- the number by which rows name the first: its seed, or 0
abbrev pub first_variant : Variants → ℕ
first_variant (Seeded seeds) = seeds.from
first_variant (Crashes faults) = 0

-- their numbers are of 64 bits, and their faults those of a script that may have one more
abbrev pub AreSound : Script → Variants → Type 0
AreSound script (Seeded seeds) = seeds.from + seeds.count < 2 ^ 64
AreSound script (Crashes faults) = (length script.faults < 256) × All (HasFaultRanges script) faults
