-- What stands on logs, one place for each member.
use Rattle.std.specs.Prelude.{◌≡◌, ℕ, false, List, map, Option, None, Some, option_map, slice_index_or}
use Rattle.dr_history.specs.Members.{has}
use Rattle.dr_log.specs.State.{LogState}
use Rattle.dr_log_bytes.specs.Content.{OnLog}
use Rattle.dr_restart.specs.declared.lists.LogLists.{LogLists}

-- the log of a member, by number, where it is not missing
abbrev pub log_of : {D : Type 0} → List (Option (LogState D)) → ℕ → Option (LogState D)
log_of logs m = slice_index_or logs m None

-- somebody whose log is there isn't late
abbrev pub SomebodyPrompt : {D : Type 0} → ℕ → List (Option (LogState D)) → Type 0
SomebodyPrompt {D} late logs =
    (m : ℕ) × (log : LogState D) × (log_of logs m ≡ Some log) × (has late m ≡ false)

-- what is on each log
abbrev pub contents_of : {D : Type 0} → List (Option (LogState D)) → List (Option OnLog)
contents_of logs = map (option_map (λ log. log.content)) logs

-- the entries, the votes and the age votes of what is on a log, and on each
abbrev pub as_lists : OnLog → LogLists
as_lists c = record { entries = c.entries; votes = c.votes; age_votes = c.age_votes }

abbrev pub all_as_lists : List (Option OnLog) → List (Option LogLists)
all_as_lists contents = map (option_map as_lists) contents
