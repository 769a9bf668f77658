-- Seats as they are opened, and why they aren't.
use Rattle.std.specs.Prelude.{◌≡◌, ◌≢◌, ⊤, ℕ, ◌<◌, ◌≤◌, false, List, length, ◌⊎◌}
use Rattle.dr_log.specs.declared.fault.MountWhy.{MountWhy}
use Rattle.dr_log.specs.declared.fault.MountWhy.TheVariants as mounts
use Rattle.dr_log_bytes.specs.{Content.OnLog, Grammar.{IsDamaged, StandFor}}
use Rattle.dr_seat.specs.{Cards.{IsCardOf, PlanOf}, declared.faults.OpenFault.OpenFault}
use Rattle.dr_seat.specs.declared.faults.OpenFault.TheVariants as faults

-- why the bytes are no card of a member of the plan: the first of these that is the case
abbrev pub IsCardFault : PlanOf → List ℕ → OpenFault → Type 0
IsCardFault plan card faults.NoCard = (group digest : List ℕ) (me : ℕ) → ¬ IsCardOf card group digest me
IsCardFault plan card faults.OtherPlan =
    (group : List ℕ) × (digest : List ℕ) × (me : ℕ) × IsCardOf card group digest me × (digest ≢ plan.digest)
IsCardFault plan card faults.NoMember =
    (group : List ℕ) × (me : ℕ) × IsCardOf card group plan.digest me × (plan.script.members ≤ me)
IsCardFault plan card fault = ⊥

-- why the bytes are no log that a seat goes on with: the first of these that is the case, or want of memory
abbrev pub IsLogFault : List ℕ → OpenFault → Type 0
IsLogFault log faults.Empty = length log < 10
IsLogFault log (faults.Damaged at) = (10 ≤ length log) × IsDamaged log at
IsLogFault log faults.OldFormat =
    (10 ≤ length log) × (content : OnLog) × StandFor log content × (content.newer ≡ false)
IsLogFault log faults.OutOfMemory = ⊤
IsLogFault log fault = ⊥

-- the card is that of a member of the plan
abbrev pub IsCardOfPlan : PlanOf → List ℕ → Type 0
IsCardOfPlan plan card =
    (group : List ℕ) × (me : ℕ) × IsCardOf card group plan.digest me × (me < plan.script.members)

-- why no seat is opened by this card on this log: a fault of the card, else of the log
abbrev pub IsOpenFault : PlanOf → List ℕ → List ℕ → OpenFault → Type 0
IsOpenFault plan card log fault = IsCardFault plan card fault ⊎ (IsCardOfPlan plan card × IsLogFault log fault)

-- a log that wasn't mounted is none for this reason; the calls of a desk never fail
abbrev pub fault_by : MountWhy → OpenFault
fault_by mounts.OutOfMemory = faults.OutOfMemory
fault_by mounts.DiskFault = faults.OutOfMemory
fault_by (mounts.Damaged at) = faults.Damaged at
