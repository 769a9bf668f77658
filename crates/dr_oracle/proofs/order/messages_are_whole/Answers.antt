use Rattle.std.proofs.Common.{inl}
use Rattle.dr_entry.proofs.BoolFacts.{both_decide}
use Rattle.dr_oracle.proofs.order.messages_are_whole.Goals as goal

pub returns-then-all_are_numbered : goal.returns-then-all_are_numbered
returns-then-all_are_numbered c =
    both_decide c.all_are_numbered.result c.last_view_is_whole.result c.all_are_numbered.ensures
    (inl (c.if-all_are_numbered.true, c.last_view_is_whole.ensures))
