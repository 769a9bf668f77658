use Rattle.std.proofs.Common.{string_bytes, arith}
use Rattle.dr_entry.proofs.ListFacts.{numbered_texts_more}
use Rattle.dr_summary.specs.Table.{name_text}
use Rattle.dr_summary.proofs.ends.push_names.Goals as goal

pub loop-number-preserved : goal.loop-number-preserved
loop-number-preserved c =
    numbered_texts_more (λ t. name_text t.0) c.args.members.now c.loop-number.number c.index-members-number.result
    (string_bytes c.args.out.now) (string_bytes c.loop-number.out) (string_bytes c.push_name.new.out) (omega arith) c.index-members-number.is c.loop-number.invariant c.in_ok-push_name.ensures
