use Rattle.std.proofs.Common.{◌≡◌, ℕ, ◌<◌, take, Some, IsSomeAnd}
use Rattle.dr_history.specs.{History.{GroupView, sent_of, view_of, item_at, place_at}, Order.IsDelivered}
use Rattle.dr_oracle.proofs.order.last_view_is_whole.Given as goal

abbrev pub invariant-loop-i : goal.invariant-loop-i
invariant-loop-i l = (i : ℕ) → i < l.i → l.start < i → (p q : ℕ) (v : GroupView) → view_of (take i l.history) ≡ Some v
    → view_of l.history ≡ Some v → place_at (sent_of l.ends) l.history i ≡ Some p
    → q < p → IsSomeAnd (item_at (sent_of l.ends) v q) (λ t. IsDelivered l.history t.0 t.1)
