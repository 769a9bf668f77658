use Rattle.std.{specs.List.slice_split, proofs.Common.{◌∙◌, ◌==◌, ◌-◌, ap, arith, drop, length, rules, sym}}
use Rattle.std.proofs.lemmas.Iterator.{Consumers.{YieldsList-end, YieldsList-turn}, Splits.YieldsList-from_str_split}
use Rattle.std.proofs.lemmas.List.{length_push}
use Rattle.dr_tools.{specs.OutcomeForms.are_ages, proofs.Forms.{age_ill, age_missing, age_well, all_ages}}
use Rattle.dr_tools.proofs.sweeps.forms.are_ages.Goals as goal

pub loop-age-preserved : goal.loop-age-preserved
loop-age-preserved c =
    let texts = slice_split (λ byte. byte == 124) c.args.text.now in
    let turn = YieldsList-turn
    (YieldsList-from_str_split 124 c.args.text.now (omega arith) (search rules) (search rules) (search rules))
    c.loop-age.yielded _ c.loop-age.yielded_by _ _ c.in-Some.age c.in-Some.is c.next.ensures.steps in
    c.loop-age.invariant
    ∙ age_well c.args.members c.loop-age.left (length c.loop-age.yielded) c.in-Some.age.now texts turn.0 turn.1
    (search rules) (search rules) ∙ ap (λ i. are_ages c.args.members (c.loop-age.left - 1) (drop i texts))
    (sym (length_push c.loop-age.yielded c.in-Some.age))

pub returns-then-left-eq0 : goal.returns-then-left-eq0
returns-then-left-eq0 c =
    let texts = slice_split (λ byte. byte == 124) c.args.text.now in
    let turn = YieldsList-turn
    (YieldsList-from_str_split 124 c.args.text.now (omega arith) (search rules) (search rules) (search rules))
    c.loop-age.yielded _ c.loop-age.yielded_by _ _ c.in-Some.age c.in-Some.is c.next.ensures.steps in
    sym (c.loop-age.invariant ∙ age_missing c.args.members c.loop-age.left
    (length c.loop-age.yielded) c.in-Some.age.now texts turn.0 turn.1 (search rules))

pub returns-then-not-are_ends : goal.returns-then-not-are_ends
returns-then-not-are_ends c =
    let texts = slice_split (λ byte. byte == 124) c.args.text.now in
    let turn = YieldsList-turn
    (YieldsList-from_str_split 124 c.args.text.now (omega arith) (search rules) (search rules) (search rules))
    c.loop-age.yielded _ c.loop-age.yielded_by _ _ c.in-Some.age c.in-Some.is c.next.ensures.steps in
    sym (c.loop-age.invariant ∙ age_ill c.args.members c.loop-age.left
    (length c.loop-age.yielded) c.in-Some.age.now texts turn.0 turn.1 (search rules) (search rules))

pub returns : goal.returns
returns c =
    let texts = slice_split (λ byte. byte == 124) c.args.text.now in
    let end = YieldsList-end (YieldsList-from_str_split 124 c.args.text.now (omega arith) (search rules)
    (search rules) (search rules)) c.loop-age.yielded _ c.loop-age.yielded_by _ _ c.in-None.is c.next.ensures.steps in
    sym (c.loop-age.invariant
    ∙ all_ages c.args.members c.loop-age.left (length c.loop-age.yielded) texts (omega (arith, end.1)))
