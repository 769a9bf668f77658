use Rattle.std.{specs.Int.div_ceil, proofs.Common.{◌≡◌, ◌+◌, ℕ, true, false, ap, sym, subst, ◌∙◌, rules, arith}}
use Rattle.dr_entry.proofs.ListFacts.{passes_more, passes_not, block_fails, block_passes}
use Rattle.dr_rows.specs.Words.{seen}
use Rattle.dr_ring.specs.Slots.{is_of}
use Rattle.dr_ring.proofs.ring.has_body.Goals as goal

pub returns-then-not-is_block_of : goal.returns-then-not-is_block_of
returns-then-not-is_block_of c =
    let word : ℕ → ℕ = λ column. seen c.args.rows.now c.args.row column in
    let missing : c.is_block_of.result ≡ false = search rules in
    sym (block_fails (is_of c.args.k)
    (λ part. word (c.args.column + part)) c.loop-part.part (div_ceil c.args.len 4) c.is_block_of.result
    (omega (arith, c.div_ceil-count.ensures, c.loop-part-test.true)) missing (λ each. c.is_block_of.ensures.1 (λ i l.
    let place : c.args.column + (1 + c.loop-part.part + i) ≡ c.args.column + 1 + c.loop-part.part + i =
    omega arith in subst (λ (x : ℕ). is_of c.args.k (word x) ≡ true) place (each i l))))

pub loop-part-preserved : goal.loop-part-preserved
loop-part-preserved c =
    let word : ℕ → ℕ = λ column. seen c.args.rows.now c.args.row column in
    let whole : c.is_block_of.result ≡ true = search rules in (
      omega (arith, c.loop-part-test.true),
      block_passes (is_of c.args.k) (λ part. word (c.args.column + part)) c.loop-part.part
          c.loop-part.invariant.1 (λ i l.
          let place : c.args.column + 1 + c.loop-part.part + i
          ≡ c.args.column + (1 + c.loop-part.part + i) = omega arith in
          subst (λ (x : ℕ). is_of c.args.k (word x) ≡ true) place (c.is_block_of.ensures.0 whole i l)),
    )

pub returns-then-not-is_of : goal.returns-then-not-is_of
returns-then-not-is_of c =
    let word : ℕ → ℕ = λ column. seen c.args.rows.now c.args.row column in
    let missing : is_of c.args.k c.seen.result ≡ false = search rules in
    let place : c.args.column + (1 + c.loop-i.i) ≡ c.args.column + 1 + c.loop-i.i = omega arith in
    sym (passes_not (is_of c.args.k) (λ part. word (c.args.column + part)) (div_ceil c.args.len 4) c.loop-i.i
    (omega (arith, c.div_ceil-count.ensures, c.loop-i-test.true))
    (ap (λ (x : ℕ). is_of c.args.k (word x)) place ∙ ap (is_of c.args.k) (sym c.seen.ensures) ∙ missing))

pub loop-i-preserved : goal.loop-i-preserved
loop-i-preserved c =
    let word : ℕ → ℕ = λ column. seen c.args.rows.now c.args.row column in
    let one : is_of c.args.k c.seen.result ≡ true = search rules in
    let place : c.args.column + (1 + c.loop-i.i) ≡ c.args.column + 1 + c.loop-i.i = omega arith in
    passes_more (is_of c.args.k) (λ part. word (c.args.column + part)) c.loop-i.i c.loop-i.invariant
    (ap (λ (x : ℕ). is_of c.args.k (word x)) place ∙ ap (is_of c.args.k) (sym c.seen.ensures) ∙ one)
