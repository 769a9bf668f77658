use Rattle.std.proofs.Common.{string_bytes, arith}
use Rattle.dr_entry.proofs.ListFacts.{numbered_texts_more}
use Rattle.dr_tools.specs.Outcomes.{age_ending}
use Rattle.dr_tools.proofs.sweeps.outcomes.push_ages.Goals as goal

pub loop-nth-preserved : goal.loop-nth-preserved
loop-nth-preserved c = numbered_texts_more (λ t. age_ending t.0 t.1) c.args.ages.now c.loop-nth.nth
    c.index-ages-nth.result (string_bytes c.args.out.now) (string_bytes c.loop-nth.out)
    (string_bytes c.push_age.new.out) (omega arith) c.index-ages-nth.is c.loop-nth.invariant c.in_ok-push_age.ensures
