use Rattle.std.proofs.Common.{◌≡◌, sym, ap, ap₂, ◌∙◌}
use Rattle.dr_words.specs.Columns.{head_column}
use Rattle.dr_ring.{specs.Slots.{is_of, slot_column}, proofs.Marked.rest_in_row}
use Rattle.dr_ring.proofs.ring.is_ready.Goals as goal

pub returns-then-is_of-clause-ready : goal.returns-then-is_of-clause-ready
returns-then-is_of-clause-ready c =
    let window = c.args.shape.now.window in
    let rows = c.args.rows.now in
    let place : c.head_column-column.result ≡ slot_column rows.members window c.args.k =
    c.head_column-column.ensures.value ∙ ap₂ head_column (sym c.requires.shape.members) c.slot_at.ensures.value in
    let head = ap (is_of c.args.k) (sym c.seen.ensures) ∙ sym c.is_of.ensures ∙ c.if-is_of.true in
    rest_in_row window rows c.args.row c.args.k c.head_column-column.result c.has_rest.result place head
    c.has_rest.ensures
