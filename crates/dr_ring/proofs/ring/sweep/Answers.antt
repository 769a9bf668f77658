use Rattle.std.proofs.{Common.{◌≡◌, ◌+◌, ◌<◌, ℕ, subst, sym, ap, ◌∙◌, arith, get_or}, lemmas.Bool.{true≢false}}
use Rattle.std.proofs.lemmas.Nat.Bits.{shr_and_one}
use Rattle.dr_entry.proofs.{Bits.{few_bits, Marks, one_marked}, OptionFacts.one_unmarked}
use Rattle.dr_ring.{specs.Slots.{IsReady, slot_column, slot_of}, proofs.Marked.{no_head, rest_behind}}
use Rattle.dr_ring.proofs.ring.sweep.Goals.{then-heads-i-eq1+then-has_rest, else-heads-i-eq1, else-heads-i-eq1-via-then-heads-i-eq1+else-has_rest, else-heads-i-eq1-via-else-heads-i-eq1}
use Rattle.dr_ring.proofs.ring.sweep.Goals as goal

pub overflow_cast-result : goal.overflow_cast-result
overflow_cast-result c =
    let small = few_bits c.seen_heads-heads.result.1 16
    (λ i g. c.seen_heads-heads.ensures.clear i (omega (arith, g, c.args.shape.now.most_slots))) in
    omega (arith, small)

pub loop-i-preserved : goal.loop-i-preserved
loop-i-preserved c =
    let window = c.args.shape.now.window in
    let rows = c.args.rows.now in
    let row = c.args.row in
    let k = c.args.k in
    let i = c.loop-i.i in
    let heads = c.seen_heads-heads.result.1 in
    let within : i < window = omega (arith, c.loop-i-test.true) in
    let is : ℕ → Type 0 = λ j. IsReady (k + j) (slot_of window rows row (k + j)) in
    let column : ℕ = get_or c.seen_heads-heads.result.0 c.from.result 0 in
    let place : column ≡ slot_column rows.members window (k + i) =
    ap (λ (j : ℕ). get_or c.seen_heads-heads.result.0 j 0) c.from.ensures
    ∙ c.seen_heads-heads.ensures.columns i within in
    let test = c.seen_heads-heads.ensures.heads i within in
    elim c.if-heads-i-eq1.branch [
      | then-heads-i-eq1+then-has_rest w ↦ subst (λ (m : ℕ). Marks is m (i + 1)) (sym w.mask-is)
          (one_marked is c.loop-i.mask i (omega (arith, within, c.args.shape.now.most_slots))
          ((rest_behind window rows row k i w.from-then-heads-i-eq1.result column w.has_rest.result
          w.from-then-heads-i-eq1.ensures place (test.0 (sym (shr_and_one heads i) ∙ w.if-heads-i-eq1.true))
          w.has_rest.ensures).0 w.if-has_rest.true) c.loop-i.invariant)
      | else-heads-i-eq1 w ↦ subst (λ (m : ℕ). Marks is m (i + 1)) (sym w.mask-is) (elim w.else-heads-i-eq1.branch [
        | else-heads-i-eq1-via-then-heads-i-eq1+else-has_rest v ↦ one_unmarked is c.loop-i.mask i
            (λ here. true≢false (sym ((rest_behind window rows row k i
            v.from-then-heads-i-eq1.result column v.has_rest.result v.from-then-heads-i-eq1.ensures place
            (test.0 (sym (shr_and_one heads i) ∙ v.if-heads-i-eq1.true))
            v.has_rest.ensures).1 here) ∙ v.if-has_rest.false)) c.loop-i.invariant
        | else-heads-i-eq1-via-else-heads-i-eq1 v ↦ one_unmarked is c.loop-i.mask i (no_head window rows row
            (k + i) (λ head. v.if-heads-i-eq1.false (shr_and_one heads i ∙ test.1 head))) c.loop-i.invariant
      ])
    ]
