-- What members append.
use Rattle.std.specs.Prelude.{⊤, Option, None, Some}
use Rattle.dr_door.specs.Lone.{Lone, due_of}
use Rattle.dr_entry.specs.declared.{end.End.End}
use Rattle.dr_machine.specs.declared.step.Step.{Step}
use Rattle.dr_machine.specs.declared.step.Step.TheVariants as steps
use Rattle.dr_member.specs.Deeds.{is_before_turn}
use Rattle.dr_program.specs.declared.deed.Deed.{Deed}
use Rattle.dr_program.specs.declared.deed.Deed.TheVariants as deeds
use Rattle.dr_program.specs.Running.{Running, deed, deed_of, next_deed, next_step}
use Rattle.dr_seat.specs.Books.{IsOfMember}
use Rattle.std.proofs.Common.{Bool, true, false, if◌then◌else◌}

-- a deed that appends a record appends one of a member
abbrev pub AppendsOfMember : Deed → Type 0
AppendsOfMember (deeds.Append what) = IsOfMember what
AppendsOfMember d = ⊤

abbrev pub DueOfMember : Option Deed → Type 0
DueOfMember None = ⊤
DueOfMember (Some d) = AppendsOfMember d

by_step : (r : Running) (s : Step) → AppendsOfMember (deed_of r s)
by_step r (steps.Do a) = tt
by_step r (steps.Look i c) = tt
by_step r (steps.Push j c) = tt
by_step r steps.Append = tt
by_step r (steps.LogVote v) = tt
by_step r (steps.Welcome j) = tt
by_step r steps.Join = tt

by_end : (r : Running) (end : Option End) → AppendsOfMember (deed r end)
by_end r None = by_step r (next_step r)
by_end r (Some end) = tt

pub due_of_member : (d : Lone) → DueOfMember (due_of d)
due_of_member d = by_test (is_before_turn d.member)
  where
    by_test : (b : Bool) → DueOfMember (if b then None else Some (next_deed d.member))
    by_test true = tt
    by_test false = by_end d.member d.member.replica.end
