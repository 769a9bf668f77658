use Rattle.std.{specs.List.{concat, slice_split}, proofs.lemmas.List.{length_push, take_all}}
use Rattle.std.proofs.Common.{◌≡◌, ◌∙◌, ◌==◌, ◌+◌, ◌++◌, ◌<◌, ℕ, zero, List, [], ◌∷◌, ap, append-nil, append_assoc, arith, get_or, length, rules, string_bytes, suc, sym, take}
use Rattle.std.proofs.lemmas.Iterator.{Consumers.{YieldsList-end, YieldsList-turn}, Splits.YieldsList-from_str_split}
use Rattle.dr_tools.proofs.sweeps.forms.without_blanks.Goals as goal

-- one piece more of those that are joined
joined_more : (xs : List (List ℕ)) (i : ℕ) (x : List ℕ) → i < length xs → x ≡ get_or xs i x
    → concat (take (suc i) xs) ≡ concat (take i xs) ++ x
joined_more [] i x below is = absurd (omega (arith, below))
joined_more (y ∷ ys) zero x below is = append-nil y ∙ sym is
joined_more (y ∷ ys) (suc i) x below is =
    ap (λ l. y ++ l) (joined_more ys i x (omega (arith, below)) is) ∙ sym (append_assoc y (concat (take i ys)) x)

pub loop-word-preserved : goal.loop-word-preserved
loop-word-preserved c =
    let words = slice_split (λ byte. byte == 32) c.args.text.now in
    let i = length c.loop-word.yielded in
    let turn = YieldsList-turn
    (YieldsList-from_str_split 32 c.args.text.now (omega arith) (search rules) (search rules) (search rules))
    c.loop-word.yielded _ c.loop-word.yielded_by _ _ c.in-Some.word c.in-Some.is c.next.ensures.steps in
    let one : suc i ≡ i + 1 = omega arith in
    let pushed : string_bytes c.push_str.new.self ≡ string_bytes c.loop-word.out ++ c.in-Some.word.now = search rules in
    pushed ∙ ap (λ b. b ++ c.in-Some.word.now) c.loop-word.invariant
    ∙ sym (joined_more words i c.in-Some.word.now turn.0 turn.1)
    ∙ ap (λ k. concat (take k words)) (one ∙ sym (length_push c.loop-word.yielded c.in-Some.word))

pub returns : goal.returns
returns c =
    let words = slice_split (λ byte. byte == 32) c.args.text.now in
    let end = YieldsList-end (YieldsList-from_str_split 32 c.args.text.now (omega arith) (search rules) (search rules)
    (search rules)) c.loop-word.yielded _ c.loop-word.yielded_by _ _ c.in-None.is c.next.ensures.steps in
    c.loop-word.invariant ∙ ap concat (take_all (length c.loop-word.yielded) words (omega (arith, end.1)))
