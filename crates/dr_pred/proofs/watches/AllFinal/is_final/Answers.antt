use Rattle.std.{specs.List.All, proofs.Common.{◌≡◌, ◌<◌, ◌^◌, ℕ, true, sym, subst, arith}}
use Rattle.dr_history.proofs.Tests.{all_words, by_bits}
use Rattle.dr_words.{specs.Packing.is_final, proofs.{Columns.recv_small, Masks.column_iff}}
use Rattle.dr_rows.specs.Words.{seen}
use Rattle.dr_pred.proofs.watches.AllFinal.is_final.Goals as goal

pub all_final-requires : goal.all_final-requires
all_final-requires c =
    let word_of : ℕ → ℕ = λ i. seen c.args.rows.now i c.recv_column-column.result in
    subst
    (All (λ w. w < 2 ^ 33)) (sym (by_bits word_of c.bits.result _ _ c.column_of-count.ensures.words c.bits.ensures))
    (all_words (λ w. w < 2 ^ 33) word_of c.args.self.now.of (λ i m. rw c.recv_column-column.ensures.value
    (recv_small c.args.rows.now.members c.args.rows.now.words c.requires.shape.form c.args.sender
    c.requires.sender i)))

pub returns : goal.returns
returns c = column_iff (λ w. is_final w ≡ true) c.args.rows.now c.args.self.now.of _
    c.recv_column-column.result _ c.all_final.result
    (by_bits _ c.bits.result _ _ c.column_of-count.ensures.words c.bits.ensures)
    c.recv_column-column.ensures.value c.requires.of
    (omega (arith, c.requires.shape.shape.members, c.args.self.now.shape.most_members)) c.all_final.ensures
