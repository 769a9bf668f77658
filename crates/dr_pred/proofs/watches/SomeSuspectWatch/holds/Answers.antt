use Rattle.std.{specs.List.All, proofs.Common.{◌≡◌, ◌<◌, ◌^◌, ℕ, true, subst, sym}}
use Rattle.dr_history.{specs.Members.has, proofs.Tests.{all_words, by_bits}}
use Rattle.dr_words.{specs.declared.column.TheConstants.SUSPECTED_COLUMN, proofs.Forms.suspected_small}
use Rattle.dr_words.proofs.Masks.{some_iff}
use Rattle.dr_rows.specs.Words.{seen}
use Rattle.dr_pred.proofs.watches.SomeSuspectWatch.holds.Goals as goal

pub any_suspects-requires-clause-masks : goal.any_suspects-requires-clause-masks
any_suspects-requires-clause-masks c =
    let word_of : ℕ → ℕ = λ i. seen c.args.rows.now i SUSPECTED_COLUMN in
    subst (All (λ w. w < 2 ^ 16))
    (sym (by_bits word_of c.bits.result _ _ c.column_of-count.ensures.words c.bits.ensures))
    (all_words (λ w. w < 2 ^ 16) word_of c.args.self.now.members
    (λ i m. suspected_small c.args.rows.now.members c.args.rows.now.words c.requires.0.form
    c.requires.0.most_members i))

pub returns : goal.returns
returns c = some_iff (λ w. has w c.args.self.now.name ≡ true)
    (λ i. seen c.args.rows.now i SUSPECTED_COLUMN) c.args.self.now.members c.args.rows.now.members
    _ c.any_suspects.result (by_bits _ c.bits.result _ _ c.column_of-count.ensures.words c.bits.ensures)
    c.requires.1 c.requires.0.most_members c.any_suspects.ensures
