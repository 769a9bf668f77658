use Rattle.std.proofs.Common.{string_bytes, arith}
use Rattle.dr_entry.proofs.ListFacts.{numbered_texts_more}
use Rattle.dr_summary.specs.Objects.{age_object}
use Rattle.dr_tools.proofs.summary.object.push_ages.Goals as goal

pub loop-nth-preserved : goal.loop-nth-preserved
loop-nth-preserved c = numbered_texts_more (λ t. age_object c.args.script.now t.0 t.1) c.args.ages.now c.loop-nth.nth
    c.index-ages-nth.result (string_bytes c.args.out.now) (string_bytes c.loop-nth.out)
    (string_bytes c.push_age_object.new.out) (omega arith) c.index-ages-nth.is c.loop-nth.invariant
    c.in_ok-push_age_object.ensures
