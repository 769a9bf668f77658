use Rattle.std.proofs.Common.{◌≤◌, refl, arith}
use Rattle.dr_history.proofs.Tests.{by_bits}
use Rattle.dr_words.{specs.Packing.accept_promise, proofs.Masks.column_iff}
use Rattle.dr_pred.proofs.watches.PromisedAt.is_promised.Goals as goal

pub returns : goal.returns
returns c = column_iff (λ w. c.args.self.now.promise ≤ accept_promise w) c.args.rows.now
    c.args.self.now.of _ c.args.column _ c.all_promise.result
    (by_bits _ c.bits.result _ _ c.column_of-count.ensures.words c.bits.ensures) refl c.requires.of
    (omega (arith, c.requires.shape.shape.members, c.args.self.now.shape.most_members)) c.all_promise.ensures
