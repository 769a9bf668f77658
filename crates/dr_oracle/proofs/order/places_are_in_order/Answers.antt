use Rattle.std.proofs.Common.{inl}
use Rattle.dr_entry.proofs.BoolFacts.{both_decide}
use Rattle.dr_oracle.proofs.order.places_are_in_order.Goals as goal

pub returns-then-messages_are_placed : goal.returns-then-messages_are_placed
returns-then-messages_are_placed c =
    both_decide c.messages_are_placed.result c.places_rise.result c.messages_are_placed.ensures
    (inl (c.if-messages_are_placed.true, c.places_rise.ensures))
