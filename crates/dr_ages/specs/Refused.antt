-- For what the logs on disks are refused, as these read.
use Rattle.std.specs.Prelude.{◌≡◌, ℕ, ◌<◌, false, not, List, length, IsSomeAnd, Option, Some, is_some}
use Rattle.dr_disk.specs.Disk.{content_of}
use Rattle.dr_history.specs.Members.{has}
use Rattle.dr_log_bytes.specs.{Content.OnLog, Grammar.{IsDamaged, StandFor}}
use Rattle.dr_opening.specs.Tries.{content_at}
use Rattle.dr_restart.specs.Refusing.{Refusal}
use Rattle.dr_script.specs.declared.script.Script.{Script}
use Rattle.dr_yard.specs.Yards.{YardState}
use Rattle.dr_ages.specs.{Stops.AreRefusedFor, declared.stop.Stop.Stop}
use Rattle.dr_ages.specs.declared.stop.Stop.TheVariants.{OutOfMemory, DiskFault, LogFull, Damaged, Disagree, Foreign, NoQuorum, AgesUsedUp}

-- the first n disks read as logs with this on them, in a place for each, but for the missing
pub record AreRead (n missing : ℕ) (yard : YardState) (contents : List (Option OnLog)) : Type 0 where
  pub all : length contents ≡ n
  pub there : (m : ℕ) → m < n → is_some (content_at contents m) ≡ not (has missing m)
  pub each : (m : ℕ) (c : OnLog) → content_at contents m ≡ Some c
      → IsSomeAnd (yard.told m) (λ t. StandFor (content_of t) c)

-- the disk reads as damaged at this place, and those below it as logs
pub record IsFirstDamaged (n missing : ℕ) (yard : YardState) (member at : ℕ) : Type 0 where
  pub below : member < n
  pub there : has missing member ≡ false
  pub damaged : IsSomeAnd (yard.told member) (λ t. IsDamaged (content_of t) at)
  pub contents : List (Option OnLog)
  pub read : AreRead member missing yard contents

-- all disks read as logs, with something on them that has P, but for the missing
abbrev pub AreReadSo : Script → ℕ → YardState → (List (Option OnLog) → Type 0) → Type 0
AreReadSo script missing yard P =
    (contents : List (Option OnLog)) × AreRead script.members missing yard contents × P contents

-- The first thing for which logs are refused: damaged bytes, by the members' numbers; and then why logs make no
-- start, each reason where none of those before it holds.
abbrev pub IsRefusal : Script → ℕ → YardState → Stop → Type 0
IsRefusal script missing yard (Damaged member at) = IsFirstDamaged script.members missing yard member at
IsRefusal script missing yard (Foreign member place) =
    AreReadSo script missing yard (AreRefusedFor script (Refusal.Foreign member place))
IsRefusal script missing yard (NoQuorum view have need) =
    AreReadSo script missing yard (AreRefusedFor script (Refusal.NoQuorum view have need))
IsRefusal script missing yard (Disagree a b place) =
    AreReadSo script missing yard (AreRefusedFor script (Refusal.Disagree a b place))
IsRefusal script missing yard AgesUsedUp =
    AreReadSo script missing yard (AreRefusedFor script Refusal.AgesUsedUp)
IsRefusal script missing yard OutOfMemory = ⊥
IsRefusal script missing yard (DiskFault member) = ⊥
IsRefusal script missing yard (LogFull member len) = ⊥
