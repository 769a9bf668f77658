use Rattle.dr_turn.specs.Work.{deeds_left}
use Rattle.dr_door.specs.Lone.{Leads, Lone}
use Rattle.dr_door.proofs.door.Door.go.Given as goal

-- whatever its deeds lead to from here they lead to from the beginning
abbrev pub invariant-loop-self : goal.invariant-loop-self
invariant-loop-self l = (e : Lone) → Leads l.self e → Leads l.fn.self e

abbrev pub decreases-loop-self : goal.decreases-loop-self
decreases-loop-self l = deeds_left l.self.member
