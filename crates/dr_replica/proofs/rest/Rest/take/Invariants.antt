use Rattle.std.proofs.Common.{◌≡◌, ℕ, ◌-◌, ◌*◌, ◌^◌, ◌<◌, ◌≤◌, false, length}
use Rattle.dr_history.specs.Places.{is_held}
use Rattle.dr_replica.proofs.rest.Rest.take.Given as goal

-- no place up to the next one is taken
abbrev pub invariant-loop-self : goal.invariant-loop-self
invariant-loop-self l = record {
  trims : l.self.trims ≡ l.initial.self.trims;
  after : l.initial.self.next.place ≤ l.self.next.place;
  none : (p : ℕ) → l.initial.self.next.place ≤ p → p < l.self.next.place → is_held l.self.trims.items p ≡ false;
}

abbrev pub decreases-loop-self : goal.decreases-loop-self
decreases-loop-self l = length l.self.trims.items * 2 ^ 32 - l.self.next.place
