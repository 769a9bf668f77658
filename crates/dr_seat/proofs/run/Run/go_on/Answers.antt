use Rattle.std.proofs.Common.{◌∙◌, subst, sym}
use Rattle.dr_seat.proofs.Deeds.{AppendsOfMember, DueOfMember, due_of_member}
use Rattle.dr_seat.proofs.run.Run.go_on.Goals as goal

pub append-requires-clause-kind : goal.append-requires-clause-kind
append-requires-clause-kind c = subst AppendsOfMember c.in-Some-Append.field-0-is
    (subst DueOfMember (sym c.go.ensures.due ∙ c.in-Some-Append.is) (due_of_member c.go.new.self))
