use Rattle.dr_form.proofs.{Finishing.joined_form, Steps.{stepped_form, stepped_grown}}
use Rattle.std.proofs.{Common.{not, is_some}, lemmas.Bool.and_parts}
use Rattle.dr_program.specs.Steps.{allows, is_free}
use Rattle.dr_form.proofs.steps_keep_the_form.Goals as goal

pub returns-clause-form : goal.returns-clause-form
returns-clause-form c = λ word r s form may sees.
    let both = and_parts (is_free r s) (allows r s) (and_parts (not (is_some r.end)) _ may).1 in
    stepped_form word r s form both.1 both.0 sees

pub returns-clause-grown : goal.returns-clause-grown
returns-clause-grown c = λ word r s form may sees.
    let both = and_parts (is_free r s) (allows r s) (and_parts (not (is_some r.end)) _ may).1 in
    stepped_grown word r s form both.1 sees

pub returns-clause-joins : goal.returns-clause-joins
returns-clause-joins c = joined_form
