-- The numbers of errors.
use Rattle.std.specs.Prelude.{ℕ}
use Rattle.dr_packet.specs.declared.reading.PacketFault.TheVariants as packets
use Rattle.dr_script.specs.declared.refusal.ScriptFault.TheVariants as scripts
use Rattle.dr_seat.specs.declared.{faults.OpenFault.OpenFault, faults.Refused.Refused, plan.PlanFault.PlanFault}
use Rattle.dr_seat.specs.declared.faults.OpenFault.TheVariants as opens
use Rattle.dr_seat.specs.declared.faults.Refused.TheVariants as refusals
use Rattle.dr_seat.specs.declared.plan.PlanFault.TheVariants as plans
use Rattle.derecho_c.specs.declared.codes.TheConstants as codes

-- why bytes are no plan
abbrev pub plan_code : PlanFault → ℕ
plan_code (plans.Script scripts.OutOfMemory) = codes.MEMORY
plan_code (plans.Script scripts.TooLong) = codes.PLAN
plan_code (plans.Script scripts.NotJson) = codes.PLAN
plan_code (plans.Script (scripts.Wrong rule path)) = codes.PLAN
plan_code plans.TestPlan = codes.TEST_PLAN

-- why a seat wasn't opened
abbrev pub open_code : OpenFault → ℕ
open_code opens.NoCard = codes.NO_CARD
open_code opens.OtherPlan = codes.OTHER_PLAN
open_code opens.NoMember = codes.NO_MEMBER
open_code opens.Empty = codes.EMPTY
open_code (opens.Damaged at) = codes.DAMAGED
open_code opens.OldFormat = codes.OLD_FORMAT
open_code opens.OutOfMemory = codes.MEMORY

-- why a packet was refused
abbrev pub refusal_code : Refused → ℕ
refusal_code (refusals.Packet packets.Short) = codes.SHORT
refusal_code (refusals.Packet packets.Sum) = codes.SUM
refusal_code (refusals.Packet packets.OtherGroup) = codes.OTHER_GROUP
refusal_code (refusals.Packet packets.OtherPlan) = codes.OTHER_PLAN
refusal_code (refusals.Packet packets.Kind) = codes.KIND
refusal_code refusals.NotMine = codes.NOT_MINE
refusal_code (refusals.OtherAge age) = codes.OTHER_AGE
refusal_code refusals.Place = codes.PLACE
refusal_code refusals.Form = codes.FORM
refusal_code refusals.Growth = codes.GROWTH
refusal_code refusals.Ended = codes.ENDED
refusal_code refusals.OutOfMemory = codes.MEMORY
