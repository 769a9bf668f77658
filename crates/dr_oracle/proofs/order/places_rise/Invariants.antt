use Rattle.std.proofs.Common.{◌≡◌, ℕ, ◌<◌, take, Some}
use Rattle.dr_history.specs.History.{sent_of, view_of, place_at}
use Rattle.dr_oracle.proofs.order.places_rise.Given as goal

abbrev pub invariant-loop-j : goal.invariant-loop-j
invariant-loop-j l = (i j : ℕ) → j < l.j → l.start < i → i < j → (p q : ℕ)
    → view_of (take i l.history) ≡ view_of (take j l.history) → place_at (sent_of l.ends) l.history i ≡ Some p
    → place_at (sent_of l.ends) l.history j ≡ Some q → p < q

abbrev pub invariant-loop-i : goal.invariant-loop-i
invariant-loop-i l = (i : ℕ) → i < l.i → l.start < i → (p q : ℕ)
    → view_of (take i l.history) ≡ view_of (take l.j l.history) → place_at (sent_of l.ends) l.history i ≡ Some p
    → place_at (sent_of l.ends) l.history l.j ≡ Some q → p < q
