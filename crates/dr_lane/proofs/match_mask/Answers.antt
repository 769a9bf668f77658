use Rattle.std.{specs.{Int.bit_at, Simd.Lanes.mask_l}, proofs.lemmas.{Bool.{eq-eqb, ne_eqb}, List.take_all}}
use Rattle.std.proofs.Common.{◌≡◌, ◌↔◌, ◌==◌, ℕ, List, get_or, map, take, arith, sym, subst, ◌∙◌, ap}
use Rattle.dr_lane.proofs.Blocks.{bit_clear, bit_marked, block_marked, word_marked, word_unmarked}
use Rattle.dr_lane.proofs.match_mask.Goals.{then-words-i, else-words-i}
use Rattle.dr_lane.proofs.match_mask.Goals as goal

pub loop-at-preserved : goal.loop-at-preserved
loop-at-preserved c = (
  omega arith,
  block_marked (λ word. word == c.args.to) c.args.words.now c.loop-at.at c.loop-at.mask c.marks.result
      (omega arith) c.requires c.loop-at.invariant.1 c.marks.ensures,
)

pub loop-i-preserved : goal.loop-i-preserved
loop-i-preserved c = (
  c.loop-i.invariant.0,
  elim c.if-words-i.branch [
    | then-words-i w ↦ w.mask-is ∙ word_marked (λ word. word == c.args.to) c.args.words.now c.loop-i.i c.loop-i.mask
        (omega arith) c.requires c.loop-i.invariant.1 (eq-eqb _ _ w.if-words-i.true)
    | else-words-i w ↦ w.mask-is ∙ c.loop-i.invariant.1 ∙ word_unmarked (λ word. word == c.args.to) c.args.words.now c.loop-i.i
        (omega arith) (ne_eqb _ _ w.if-words-i.false)
  ],
)

whole : (c : goal.After-loop-i) → mask_l (map (λ word. word == c.args.to) c.args.words.now) ≡ c.loop-i.mask
whole c = sym (c.loop-i.invariant.1
    ∙ ap (λ (xs : List ℕ). mask_l (map (λ word. word == c.args.to) xs)) (take_all c.loop-i.i c.args.words.now (omega arith)))

pub returns-clause-set : goal.returns-clause-set
returns-clause-set c i room = subst (λ (m : ℕ). (bit_at m i ≡ 1) ↔ (get_or c.args.words.now i 0 ≡ c.args.to)) (whole c)
    (bit_marked c.args.words.now c.args.to i room)

pub returns-clause-clear : goal.returns-clause-clear
returns-clause-clear c i past = subst (λ (m : ℕ). bit_at m i ≡ 0) (whole c)
    (bit_clear c.args.words.now (λ word. word == c.args.to) i past)
