use Rattle.std.proofs.Common.{string_bytes, arith, ap, ◌++◌, ◌∙◌}
use Rattle.dr_entry.proofs.ListFacts.{numbered_texts_more}
use Rattle.dr_commands.specs.StoreLines.{value_line}
use Rattle.dr_commands.proofs.store.values.push_members.Goals as goal

pub loop-number-preserved : goal.loop-number-preserved
loop-number-preserved c = numbered_texts_more (λ t. value_line c.args.key.now c.args.version t.0 t.1.history)
    c.args.members.now c.loop-number.number c.index-members-number.result (string_bytes c.args.out.now)
    (string_bytes c.loop-number.out) (string_bytes c.push_line.new.out) (omega arith) c.index-members-number.is
    c.loop-number.invariant (c.in_ok-push_line.ensures ∙ ap (λ h. string_bytes c.loop-number.out
    ++ value_line c.args.key.now c.args.version c.loop-number.number h) c.as_slice.ensures)
