-- What a run makes of a hand and its logs.
use Rattle.std.specs.Prelude.{◌≡◌, ℕ, List, Option}
use Rattle.dr_disk.specs.Disk.{Told}
use Rattle.dr_log.specs.State.{LogState}
use Rattle.dr_served.specs.Served.{HasServed, HaveSamePlaces, HaveServed, IsReady}
use Rattle.dr_program.specs.Running.{Running}
use Rattle.dr_table.specs.{Cards.{AreAtEnd, AreSame, Cards, DealtTable}, Rule.number}

-- a member and its log have gone on: it is the same member still, and its log ready and served
pub record HasGone {D : Type 0} (told : D → Option Told) (faults : D → ℕ) (r : Running)
    (log : LogState D) (q : Running) (new : LogState D) : Type 0 where
  pub same : number q ≡ number r
  pub ready : IsReady log r → IsReady new q
  pub served : (base : LogState D) → HasServed told faults base log r → HasServed told faults base new q

-- the members of a hand over this table have run to their ends: it is a hand over this table still, with the
-- same members in the same order, all of which have ended
pub record IsEndOf (table : DealtTable) (before : List (Option Running)) (after : Cards) : Type 0 where
  pub home : after.table ≡ table
  pub same : AreSame before after.members
  pub ended : AreAtEnd after.members

-- and each log has served its member
pub record HaveRun {D : Type 0} (told : D → Option Told) (faults : D → ℕ) (table : DealtTable)
    (before : List (Option Running)) (logs : List (Option (LogState D))) (after : Cards)
    (news : List (Option (LogState D))) : Type 0 where
  pub over : IsEndOf table before after
  pub places : HaveSamePlaces logs news
  pub served : HaveServed told faults logs news after.members
