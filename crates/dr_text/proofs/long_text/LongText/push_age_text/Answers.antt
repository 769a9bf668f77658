use Rattle.dr_entry.proofs.ListFacts.{concat_behind}
use Rattle.dr_text.specs.Report.{age_text}
use Rattle.dr_text.proofs.long_text.LongText.push_age_text.Goals as goal

pub returns : goal.returns
returns c = concat_behind c.self.inside.parts.items c.push.new.self.items c.args.self.now c.in_ok-text_of.field-0
    (age_text c.args.age.now) c.in_ok-push.ensures.items c.self.view_is c.in_ok-text_of.ensures
