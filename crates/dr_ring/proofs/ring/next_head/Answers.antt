use Rattle.std.proofs.Common.{sym, ◌∙◌}
use Rattle.dr_ring.proofs.Heads.{head_first, head_next}
use Rattle.dr_ring.proofs.ring.next_head.Goals as goal

pub returns-then-column-head_column : goal.returns-then-column-head_column
returns-then-column-head_column c = λ k here. c.head_column-then-column-head_column.ensures.value
    ∙ head_first c.args.shape.now.members c.args.shape.now.window k c.args.column
    c.args.shape.now.some_slot here (c.if-column-head_column.true ∙ c.head_column.ensures.value)

pub returns-else-column-head_column : goal.returns-else-column-head_column
returns-else-column-head_column c = λ k here.
    head_next c.args.shape.now.members c.args.shape.now.window k c.args.column c.args.shape.now.some_slot here
    (λ last. c.if-column-head_column.false (last ∙ sym c.head_column.ensures.value))
