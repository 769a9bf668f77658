use Rattle.std.proofs.Common.{◌≡◌, ◌+◌, ℕ, ap, ◌∙◌, arith}
use Rattle.dr_words.specs.Packing.{ring_tag}
use Rattle.dr_rows.specs.Words.{seen}
use Rattle.dr_ring.proofs.Marked.{block_full}
use Rattle.dr_ring.proofs.ring.is_block_of.Goals as goal

pub returns : goal.returns
returns c =
    let word : ℕ → ℕ = λ i. seen c.args.rows.now c.args.row (c.args.column + i) in
    let first : c.args.column ≡ c.args.column + 0 = omega arith in
    block_full c.args.k c.match_mask.result c.tag_at.result c.tag_at-2.result c.tag_at-3.result
    c.tag_at-4.result (c.from.result + 1) word
    (c.tag_at.ensures.value ∙ ap (λ (x : ℕ). ring_tag (seen c.args.rows.now c.args.row x)) first)
    c.tag_at-2.ensures.value c.tag_at-3.ensures.value c.tag_at-4.ensures.value
    (omega (arith, c.from.ensures)) c.match_mask.ensures.set c.match_mask.ensures.clear
