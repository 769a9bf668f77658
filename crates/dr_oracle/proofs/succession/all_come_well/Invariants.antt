use Rattle.std.proofs.Common.{◌≡◌, ◌⊎◌, ℕ, ◌<◌, true, Contains}
use Rattle.dr_history.specs.{Members.has, Order.MayJoin}
use Rattle.dr_oracle.proofs.succession.all_come_well.Given as goal

abbrev pub invariant-loop-member : goal.invariant-loop-member
invariant-loop-member l = (s : ℕ) → s < l.member → has l.members s ≡ true
    → Contains l.view.members s ⊎ MayJoin l.opening l.entries s
