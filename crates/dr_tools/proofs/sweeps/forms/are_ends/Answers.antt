use Rattle.std.{specs.List.slice_split, proofs.Common.{◌∙◌, ◌+◌, ◌==◌, Some, ap, arith, drop, length, rules, sym}}
use Rattle.std.proofs.lemmas.Iterator.{Consumers.{YieldsList-end, YieldsList-turn}, Splits.YieldsList-from_str_split}
use Rattle.std.proofs.lemmas.List.{length_push}
use Rattle.dr_tools.{specs.OutcomeForms.are_ends, proofs.Forms.{all_ends, word_more}}
use Rattle.dr_tools.proofs.sweeps.forms.are_ends.Goals as goal

pub loop-word-preserved : goal.loop-word-preserved
loop-word-preserved c =
    let words = slice_split (λ byte. byte == 44) c.args.text.now in
    let turn = YieldsList-turn
    (YieldsList-from_str_split 44 c.args.text.now (omega arith) (search rules) (search rules) (search rules))
    c.loop-word.yielded _ c.loop-word.yielded_by _ _ c.in-Some.word c.in-Some.is c.next.ensures.steps in
    c.loop-word.invariant
    ∙ word_more c.loop-word.state.0 c.loop-word.state.1 (length c.loop-word.yielded) c.in-Some.word.now words
    (Some c.in-Some-behind_word.next) turn.0 turn.1 (sym c.in-Some-behind_word.is ∙ c.behind_word.ensures)
    ∙ ap (λ i. are_ends (Some c.in-Some-behind_word.next) (drop i words)) (sym (length_push c.loop-word.yielded c.in-Some.word))

pub returns-in-None-behind_word : goal.returns-in-None-behind_word
returns-in-None-behind_word c =
    let words = slice_split (λ byte. byte == 44) c.args.text.now in
    let turn = YieldsList-turn
    (YieldsList-from_str_split 44 c.args.text.now (omega arith) (search rules) (search rules) (search rules))
    c.loop-word.yielded _ c.loop-word.yielded_by _ _ c.in-Some.word c.in-Some.is c.next.ensures.steps in
    sym (c.loop-word.invariant ∙ word_more c.loop-word.state.0 c.loop-word.state.1
    (length c.loop-word.yielded) c.in-Some.word.now words c.behind_word.result turn.0 turn.1 c.behind_word.ensures
    ∙ ap (λ s. are_ends s (drop (length c.loop-word.yielded + 1) words)) c.in-None-behind_word.is)

pub returns : goal.returns
returns c =
    let words = slice_split (λ byte. byte == 44) c.args.text.now in
    let end = YieldsList-end (YieldsList-from_str_split 44 c.args.text.now (omega arith) (search rules) (search rules)
    (search rules)) c.loop-word.yielded _ c.loop-word.yielded_by _ _ c.in-None.is c.next.ensures.steps in
    sym (c.loop-word.invariant
    ∙ all_ends c.loop-word.state.0 c.loop-word.state.1 (length c.loop-word.yielded) words (omega (arith, end.1)))
