use Rattle.std.proofs.Common.{ℕ, ◌<◌, IsSomeAnd}
use Rattle.dr_history.specs.{History.{sent_of, item_at}, Order.IsDelivered}
use Rattle.dr_oracle.proofs.order.whole_below.Given as goal

abbrev pub invariant-loop-lower : goal.invariant-loop-lower
invariant-loop-lower l = (q : ℕ) → q < l.lower → IsSomeAnd (item_at (sent_of l.ends) l.view q)
    (λ t. IsDelivered l.history t.0 t.1)
