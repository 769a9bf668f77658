-- What the next run over the files of a folder begins with, or is refused by.
use Rattle.std.specs.Prelude.{◌≡◌, ◌⊎◌, ℕ, ◌<◌, true, List, [], length, get_or, Option, None, Some, is_some, IsSomeAnd}
use Rattle.dr_log_bytes.specs.{Content.OnLog, Grammar.{IsDamaged, StandFor}}
use Rattle.dr_opening.specs.{Lists.all_as_lists, Tries.{IsChosenOf, content_at}}
use Rattle.dr_quorum.specs.Handing.{handed_by}
use Rattle.dr_restart.specs.{Groups.first_group_of, Refusing.{IsRefusedFor, Refusal}, declared.start.Start.Start}
use Rattle.dr_script.specs.declared.script.Script.{Script}
use Rattle.dr_text.specs.declared.last.Last.{Last}
use Rattle.dr_text.specs.declared.last.Last.TheVariants as lasts
use Rattle.dr_folder.specs.declared.file.LogFile.{LogFile, TheVariants.{Missing, Unread, Bytes}}

-- the file of a member
abbrev pub file_in : List LogFile → ℕ → LogFile
file_in files m = get_or files m Missing

-- a run takes a file for a log with this on it; no file is as good as one without bytes
abbrev pub IsTakenFor : LogFile → OnLog → Type 0
IsTakenFor Missing c = StandFor [] c
IsTakenFor (Unread why) c = ⊥
IsTakenFor (Bytes bytes) c = StandFor bytes c

-- the last line of a run that is refused for the bytes of the log of a member: they are damaged
abbrev pub IsRefusedWith : List ℕ → ℕ → Last → Type 0
IsRefusedWith bytes member (lasts.Damaged m at) = (m ≡ member) × IsDamaged bytes at
IsRefusedWith bytes member last = ⊥

-- the last line of a run that stops at the file of a member: it can't be read, or is damaged
abbrev pub IsRefusedBy : LogFile → ℕ → Last → Type 0
IsRefusedBy Missing member last = IsRefusedWith [] member last
IsRefusedBy (Unread why) member last = last ≡ lasts.DiskFault member
IsRefusedBy (Bytes bytes) member last = IsRefusedWith bytes member last

-- a run takes the files of the first n members for logs with this on them, none of which is missing
pub record AreTakenFor (n : ℕ) (files : List LogFile) (contents : List (Option OnLog)) : Type 0 where
  pub all : length contents ≡ n
  pub there : (m : ℕ) → m < n → is_some (content_at contents m) ≡ true
  pub each : (m : ℕ) (c : OnLog) → content_at contents m ≡ Some c → IsTakenFor (file_in files m) c

-- a run stops at one of the first n files, and takes those of the members before it for logs
pub record IsRefusedAt (n : ℕ) (files : List LogFile) (last : Last) : Type 0 where
  pub member : ℕ
  pub below : member < n
  pub stops : IsRefusedBy (file_in files member) member last
  pub contents : List (Option OnLog)
  pub before : AreTakenFor member files contents

-- what a run in which nobody is late starts with over these files: what is chosen of the logs that it takes them
-- for, with all who are there in its first view
pub record IsForetold (script : Script) (files : List LogFile) (start : Start) : Type 0 where
  pub contents : List (Option OnLog)
  pub taken : AreTakenFor script.members files contents
  pub starts : IsChosenOf (first_group_of script).opening contents start
  pub members : start.members ≡ start.present

-- why the logs that a run has found make no start, by its last line: they are not those of the script's group, too
-- few of a view are there, or they leave no age
abbrev pub refused_by : Last → Option Refusal
refused_by (lasts.Foreign member place) = Some (Refusal.Foreign member place)
refused_by (lasts.NoQuorum view have need) = Some (Refusal.NoQuorum view have need)
refused_by (lasts.Disagree a b place) = Some (Refusal.Disagree a b place)
refused_by lasts.AgesUsedUp = Some Refusal.AgesUsedUp
refused_by last = None

-- a run over logs with this on them is refused for what they are, with this last line
abbrev pub AreRefusedBy : Script → Last → List (Option OnLog) → Type 0
AreRefusedBy script last contents =
    IsSomeAnd (refused_by last) (IsRefusedFor (first_group_of script).opening (handed_by (all_as_lists contents)))

-- the last line of a run that is refused over these files: it stops at one of them, or takes them for logs for which
-- it is refused
abbrev pub IsBarred : Script → List LogFile → Last → Type 0
IsBarred script files last = IsRefusedAt script.members files last
    ⊎ ((contents : List (Option OnLog)) × AreTakenFor script.members files contents
    × AreRefusedBy script last contents)
