use Rattle.std.specs.List.{All}
use Rattle.std.proofs.Common.{◌≡◌, ◌<◌, Some, None, ap, sym, subst, ◌∙◌, rules as common_rules, tests}
use Rattle.serde_json.specs.View.{view}
use Rattle.dr_script.specs.{Ranges.HasRanges, Reading.script_of, Rules.{rules, first_broken}}
use Rattle.dr_script.{specs.declared.script.Script.Script, proofs.RangeLemmas.ranges_of_kept}
use Rattle.dr_script.proofs.{RuleLemmas.{broken_size, broken_message, broken_fault}, StopLemmas.{rule_of, handed_on}}
use Rattle.dr_script.proofs.reading.script_of.Goals as goal

pub returns-in_err-sizes-clause-broken : goal.returns-in_err-sizes-clause-broken
returns-in_err-sizes-clause-broken c = λ broken is.
    let named = rule_of c.from_residual-in_err-sizes.result c.in_err-sizes.field-0.0 broken
    c.from_residual-in_err-sizes.ensures.1 is in
    broken_size (view c.args.value.now) broken c.in_ok-check_shape.ensures.kept
    (c.in_err-sizes.ensures.broken ∙ ap Some named)

pub returns-in_err-messages-clause-broken : goal.returns-in_err-messages-clause-broken
returns-in_err-messages-clause-broken c = λ broken is.
    let named = handed_on c.from_residual-in_err-messages.result c.messages_of.result
    c.in_err-messages.field-0.0 broken c.from_residual-in_err-messages.ensures.1 c.in_err-messages.was is in
    broken_message (view c.args.value.now) broken c.in_ok-check_shape.ensures.kept
    c.in_ok-sizes.ensures.kept (c.messages_of.ensures.broken broken named)

pub returns-in_err-faults-clause-broken : goal.returns-in_err-faults-clause-broken
returns-in_err-faults-clause-broken c = λ broken is.
    let named = handed_on c.from_residual-in_err-faults.result c.faults_of.result c.in_err-faults.field-0.0
    broken c.from_residual-in_err-faults.ensures.1 c.in_err-faults.was is in
    broken_fault (view c.args.value.now) broken c.in_ok-check_shape.ensures.kept c.in_ok-sizes.ensures.kept
    c.in_ok-messages.ensures.kept (c.faults_of.ensures.broken broken named)

pub returns-clause-ranges : goal.returns-clause-ranges
returns-clause-ranges c =
    let d = view c.args.value.now in
    let none : first_broken rules d ≡ None = search (common_rules, tests) in
    let made : Script = record {
      members = c.in_ok-sizes.sizes.members;
      window = c.in_ok-sizes.sizes.window;
      turns = c.in_ok-sizes.sizes.turns;
      patience = c.in_ok-sizes.sizes.patience;
      ages = c.in_ok-sizes.sizes.ages;
      messages = c.in_ok-messages.messages;
      faults = c.in_ok-faults.faults;
      schedule = c.in_ok-schedule.schedule;
    } in
    let same : made ≡ script_of d = search (common_rules, tests) in
    subst HasRanges (sym same) (ranges_of_kept d none
    (subst (All (All (All (λ byte. byte < 256)))) c.in_ok-messages.ensures.messages c.in_ok-messages.ensures.bytes))
