use Rattle.std.proofs.Common.{◌≡◌, ℕ, ◌<◌, true}
use Rattle.dr_history.specs.Members.{has}
use Rattle.dr_oracle.specs.Agreeing.{AgreesWithAll}
use Rattle.dr_oracle.proofs.agreement.all_agree.Given as goal

abbrev pub invariant-loop-member : goal.invariant-loop-member
invariant-loop-member l = (i : ℕ) → i < l.member → has l.present i ≡ true → AgreesWithAll l.opening l.ends i
