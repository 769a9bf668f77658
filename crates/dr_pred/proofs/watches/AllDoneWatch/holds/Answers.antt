use Rattle.std.proofs.Common.{◌≡◌}
use Rattle.dr_history.proofs.Tests.{by_bits}
use Rattle.dr_words.{specs.declared.column.TheConstants.DONE_COLUMN, proofs.Masks.each_iff}
use Rattle.dr_rows.specs.Words.{seen}
use Rattle.dr_pred.proofs.watches.AllDoneWatch.holds.Goals as goal

pub returns : goal.returns
returns c = each_iff (λ w. w ≡ 1)
    (λ i. seen c.args.rows.now i DONE_COLUMN) c.args.self.now.members c.args.rows.now.members _ c.all_done.result
    (by_bits _ c.bits.result _ _ c.column_of-count.ensures.words c.bits.ensures)
    c.requires.1 c.requires.0.most_members c.all_done.ensures
