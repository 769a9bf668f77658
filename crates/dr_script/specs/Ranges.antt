-- The ranges that the rules give the parts of a script.
use Rattle.std.specs.{List.All, Prelude.{◌≡◌, ◌≢◌, ◌⊎◌, ℕ, ◌<◌, ◌≤◌, length}}
use Rattle.dr_entry.specs.declared.limits.TheConstants.{MAX_MEMBERS, MAX_MESSAGE_LENGTH, MAX_MESSAGES}
use Rattle.dr_script.specs.declared.script.{Fault.Fault, Script.Script, What.{What, TheVariants.{Crash, Suspect}}}

-- a turn of the script, a push, and another member than this one
abbrev pub HasWhatRanges : Script → ℕ → What → Type 0
HasWhatRanges script member (Crash turn push) = (1 ≤ turn) × (turn ≤ script.turns) × (push ≤ 65535)
HasWhatRanges script member (Suspect turn other) = (1 ≤ turn) × (turn ≤ script.turns)
    × (other < script.members) × (other ≢ member)

-- an age and a member of the script
pub record HasFaultRanges (script : Script) (fault : Fault) : Type 0 where
  pub age : fault.age < script.ages
  pub member : fault.member < script.members
  pub what : HasWhatRanges script fault.member fault.what

-- the ranges of the group of a script: its members, its window and its messages
pub record HasGroupRanges (script : Script) : Type 0 where
  pub some_member : 1 ≤ script.members
  pub most_members : script.members ≤ MAX_MEMBERS
  pub some_slot : 1 ≤ script.window
  pub most_slots : script.window ≤ 8
  pub lists : length script.messages ≡ script.members
  pub few : All (λ messages. length messages ≤ MAX_MESSAGES) script.messages
  pub short : All (All (λ bytes. length bytes ≤ MAX_MESSAGE_LENGTH)) script.messages
  pub bytes : All (All (All (λ byte. byte < 256))) script.messages

-- all ranges of a script that was read
pub record HasRanges (script : Script) : Type 0 where
  pub group : HasGroupRanges script
  pub some_turn : 1 ≤ script.turns
  pub most_turns : script.turns ≤ 1000000
  pub patience : (script.patience ≡ 0) ⊎ ((3 ≤ script.patience) × (script.patience ≤ 1000000))
  pub some_age : 1 ≤ script.ages
  pub most_ages : script.ages ≤ 16
  pub few_faults : length script.faults ≤ 256
  pub faults : All (HasFaultRanges script) script.faults
