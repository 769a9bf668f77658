use Rattle.std.proofs.Common.{◌≡◌, ℕ, ◌<◌, true}
use Rattle.dr_history.specs.{Agreement.accounts_of, Members.has}
use Rattle.dr_oracle.specs.Agreeing.{AreConsistent}
use Rattle.dr_oracle.proofs.agreement.is_consistent_with_all.Given as goal

abbrev pub invariant-loop-member : goal.invariant-loop-member
invariant-loop-member l = (j : ℕ) → j < l.member → has l.present j ≡ true
    → AreConsistent l.history (accounts_of l.ends j).history
