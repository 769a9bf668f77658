use Rattle.std.proofs.Common.{inl}
use Rattle.dr_entry.proofs.BoolFacts.{both_decide}
use Rattle.dr_oracle.proofs.succession.may_join.Goals as goal

pub returns-then-is_late : goal.returns-then-is_late
returns-then-is_late c = both_decide c.is_late.result c.is_in_no_view.result c.is_late.ensures
    (inl (c.if-is_late.true, c.is_in_no_view.ensures))
