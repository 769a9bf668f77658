use Rattle.std.proofs.Common.{string_bytes, subst, sym, arith}
use Rattle.dr_entry.{specs.declared.end.AgeEnd.AgeEnd, proofs.ListFacts.numbered_texts_more}
use Rattle.dr_history.specs.declared.opening.Opening.{Opening}
use Rattle.dr_summary.specs.Summary.{HaveAgreed, age_text}
use Rattle.dr_tools.proofs.summary.ages.push_ages.Goals as goal

pub push_age-requires : goal.push_age-requires
push_age-requires c = record {
  agreed = subst (λ (age : AgeEnd). (o : Opening) × HaveAgreed o age.members) (sym c.index-ages-nth.is)
      (c.requires c.loop-nth.nth c.index-ages-nth.result (omega arith));
}

pub loop-nth-preserved : goal.loop-nth-preserved
loop-nth-preserved c = numbered_texts_more (λ t. age_text c.args.script.now t.0 t.1) c.args.ages.now c.loop-nth.nth
    c.index-ages-nth.result (string_bytes c.args.out.now) (string_bytes c.loop-nth.out)
    (string_bytes c.push_age.new.out) (omega arith) c.index-ages-nth.is c.loop-nth.invariant
    c.in_ok-push_age.ensures.text
