use Rattle.std.proofs.Common.{◌++◌, ◌∙◌, ap, sym}
use Rattle.dr_entry.proofs.ListFacts.{text_more}
use Rattle.dr_text.specs.Report.{age_text}
use Rattle.dr_text.proofs.long_text.LongText.of_ages.Goals as goal

pub loop-age-preserved : goal.loop-age-preserved
loop-age-preserved c = c.in_ok-push_age_text.ensures
    ∙ ap (λ text. text ++ age_text c.age-item.result) c.loop-age.invariant
    ∙ sym (text_more age_text c.args.ages.now c.loop-age.age-index c.age-item.result c.loop-age-test.true
    c.age-item.is)
