-- What is found on the disks of a yard as an age opens.
use Rattle.std.specs.Prelude.{◌≡◌, ℕ, ◌+◌, ◌<◌, ◌^◌, ◌≤◌, not, List, length, Option, Some, IfSome, is_some}
use Rattle.dr_disk.specs.{Disk.{Told, content_of}, Images.ReadsAnImage}
use Rattle.dr_history.specs.Members.{has}
use Rattle.dr_log.specs.Standing.{entries_length, least_length}
use Rattle.dr_log_bytes.specs.{Content.OnLog, Grammar.StandFor}
use Rattle.dr_opening.specs.{Lists.as_lists, Tries.content_at}
use Rattle.dr_restart.specs.Choosing.{HasAge}
use Rattle.dr_script.specs.declared.script.Script.{Script}
use Rattle.dr_yard.specs.Yards.{YardState}

-- what a read gives of a disk that tells this is what a crash may leave of it, and stands for this
pub record ReadsAs (c : OnLog) (t : Told) : Type 0 where
  pub image : ReadsAnImage t
  pub stands : StandFor (content_of t) c

-- what is found on the log of a member takes no less than the bytes of its lists; and where its disk tells, it
-- reads as this
pub record WasFound (told : Option Told) (c : OnLog) : Type 0 where
  pub least : least_length c ≤ c.length
  pub reads : IfSome told (ReadsAs c)

-- what is on the logs of the first n members, in a place for each, as they are found: nothing for the missing
pub record AreFound (n missing : ℕ) (yard : YardState) (contents : List (Option OnLog)) : Type 0 where
  pub all : length contents ≡ n
  pub there : (m : ℕ) → m < n → is_some (content_at contents m) ≡ not (has missing m)
  pub each : (m : ℕ) (c : OnLog) → content_at contents m ≡ Some c → WasFound (yard.told m) c

-- a log that leaves room for a start, and for all that an age may bring: but for its entries it takes three
-- quarters of the bytes that a log may have, or fewer
pub record AreFew (c : OnLog) : Type 0 where
  pub few : c.length ≤ 1610612736 + entries_length c.entries

-- Logs that leave room for all ages that a script asks for, as they are found where none is missing: none has
-- more than 536,870,912 bytes, and above each age on one of them there is a number for each age.
pub record AreRoomy (script : Script) (yard : YardState) : Type 0 where
  pub short : (contents : List (Option OnLog)) → AreFound script.members 0 yard contents
      → (m : ℕ) (c : OnLog) → content_at contents m ≡ Some c → c.length ≤ 536870912
  pub numbered : (contents : List (Option OnLog)) → AreFound script.members 0 yard contents → (m a : ℕ) (c : OnLog)
      → content_at contents m ≡ Some c → HasAge (as_lists c) a → a + script.ages < 2 ^ 16
