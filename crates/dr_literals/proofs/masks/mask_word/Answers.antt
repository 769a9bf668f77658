use Rattle.std.{specs.List.slice_split, proofs.Common.{◌==◌, ◌+◌, ap, arith, length, drop, rules, sym, ◌∙◌}}
use Rattle.std.proofs.lemmas.Iterator.{Consumers.{YieldsList-end, YieldsList-turn}, Splits.YieldsList-from_str_split}
use Rattle.std.proofs.lemmas.List.{length_push}
use Rattle.dr_literals.{specs.Literals.with_words, proofs.Members.{all_members, member_more, no_member}}
use Rattle.dr_literals.proofs.masks.mask_word.Goals as goal

pub returns-in_err-member : goal.returns-in_err-member
returns-in_err-member c =
    let words = slice_split (λ byte. byte == 44) c.args.word.now in
    let turn = YieldsList-turn
    (YieldsList-from_str_split 44 c.args.word.now (omega arith) (search rules) (search rules) (search rules))
    c.loop-number.yielded _ c.loop-number.yielded_by _ _ c.in-Some.number c.in-Some.is c.next.ensures.steps in
    c.from_residual.ensures ∙ sym (c.loop-number.invariant ∙ no_member c.loop-number.mask c.loop-number.least
    (length c.loop-number.yielded) c.in-Some.number.now words turn.0 turn.1 c.in_err-member.ensures.number)

pub loop-number-preserved : goal.loop-number-preserved
loop-number-preserved c =
    let words = slice_split (λ byte. byte == 44) c.args.word.now in
    let turn = YieldsList-turn
    (YieldsList-from_str_split 44 c.args.word.now (omega arith) (search rules) (search rules) (search rules))
    c.loop-number.yielded _ c.loop-number.yielded_by _ _ c.in-Some.number c.in-Some.is c.next.ensures.steps in
    c.loop-number.invariant
    ∙ member_more c.loop-number.mask c.with-mask.result c.loop-number.least (length c.loop-number.yielded)
    c.in_ok-member.member c.in-Some.number.now words turn.0 turn.1 c.in_ok-member.ensures.number
    c.with-mask.ensures.value ∙ ap (λ i. with_words c.with-mask.result (c.in_ok-member.member + 1) (drop i words))
    (sym (length_push c.loop-number.yielded c.in-Some.number))

pub returns : goal.returns
returns c =
    let words = slice_split (λ byte. byte == 44) c.args.word.now in
    let end = YieldsList-end (YieldsList-from_str_split 44 c.args.word.now (omega arith) (search rules) (search rules)
    (search rules)) c.loop-number.yielded _ c.loop-number.yielded_by _ _ c.in-None.is c.next.ensures.steps in
    sym (c.loop-number.invariant
    ∙ all_members c.loop-number.mask c.loop-number.least (length c.loop-number.yielded) words (omega (arith, end.1)))
