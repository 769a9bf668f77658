use Rattle.std.proofs.Common.{◌++◌, ◌∷◌, [], ◌∙◌, ap, length, string_bytes}
use Rattle.dr_text.proofs.Lines.{none_printed, printed_more}
use Rattle.dr_text.proofs.printed.Printed.of.Goals as goal

pub loop-entry-preserved : goal.loop-entry-preserved
loop-entry-preserved c =
    let ends = c.loop-entry.ends.items in
    printed_more c.args.entries.now c.loop-entry.entry-index c.entry-item.result (string_bytes c.loop-entry.text) ends
    (string_bytes c.push_entry.new.out) c.push-in-loop-entry.new.self.items c.loop-entry-test.true c.entry-item.is
    c.loop-entry.invariant c.in_ok-push_entry.ensures
    (c.in_ok-push-2.ensures.items ∙ ap (λ end. ends ++ end ∷ []) (ap length c.as_str.ensures.value))

pub loop-entry-init : goal.loop-entry-init
loop-entry-init c =
    let entries = c.args.entries.now in
    let zero_alone = c.in_ok-push.ensures.items ∙ ap (λ xs. xs ++ 0 ∷ []) c.new-ends.ensures.items in
    let text = string_bytes c.new-text.result in
    none_printed entries text c.push.new.self.items c.new-text.ensures.bytes zero_alone
