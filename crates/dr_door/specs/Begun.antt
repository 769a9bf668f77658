-- Doors as an age opens.
use Rattle.std.specs.Prelude.{◌≡◌, ⊤, ℕ, ◌<◌, ◌≤◌, List, replicate}
use Rattle.dr_program.specs.{Running.begun_running, declared.setup.Setup.Setup}
use Rattle.dr_restart.specs.{Groups.first_start_of, Setups.IsSetupOf, declared.start.Start.Start}
use Rattle.dr_script.specs.{Ranges.HasRanges, Reading.{NotJson, Reads, TooLong, Wrong, reading_of}}
use Rattle.dr_script.specs.declared.{refusal.ScriptFault.ScriptFault, script.Script.Script}
use Rattle.dr_script.specs.declared.refusal.ScriptFault.TheVariants as faults
use Rattle.dr_words.specs.Layout.{words_of}
use Rattle.dr_door.specs.{Lone.Lone, declared.opening.OpenFault.OpenFault}
use Rattle.dr_door.specs.declared.opening.OpenFault.TheVariants as opens

-- a member before its first deed, over words that are all 0
abbrev pub begun_lone : Setup → Lone
begun_lone s = record {
  member = begun_running s;
  words = replicate (words_of s.shape.members s.shape.window s.shape.banks) 0;
}

-- the door is that of this member in the age that is number nth of the run, from 0
abbrev pub HasBegun : Script → Start → ℕ → ℕ → Lone → Type 0
HasBegun script start nth m d = (s : Setup) × IsSetupOf script start nth m s × (d ≡ begun_lone s)

-- the door is that of this member of the new group of the script that these bytes are
pub record HasOpened (bytes : List ℕ) (m : ℕ) (d : Lone) : Type 0 where
  pub script : Script
  pub reads : reading_of bytes ≡ Reads script
  pub ranges : HasRanges script
  pub begun : HasBegun script (first_start_of script) 0 m d

-- the fault with which reading these bytes as a script ends is the one that they have, or want of memory
abbrev pub IsScriptFault : List ℕ → ScriptFault → Type 0
IsScriptFault bytes faults.OutOfMemory = ⊤
IsScriptFault bytes faults.TooLong = reading_of bytes ≡ TooLong
IsScriptFault bytes faults.NotJson = reading_of bytes ≡ NotJson
IsScriptFault bytes (faults.Wrong rule path) = reading_of bytes ≡ Wrong rule path

-- why these bytes open no door for member m: they are no script, or it has no such member, or memory is wanting
abbrev pub IsOpenFault : List ℕ → ℕ → OpenFault → Type 0
IsOpenFault bytes m (opens.Script fault) = IsScriptFault bytes fault
IsOpenFault bytes m (opens.NoMember members) =
    (script : Script) × (reading_of bytes ≡ Reads script) × (members ≡ script.members) × (script.members ≤ m)
IsOpenFault bytes m opens.OutOfMemory =
    (script : Script) × (reading_of bytes ≡ Reads script) × (m < script.members)
