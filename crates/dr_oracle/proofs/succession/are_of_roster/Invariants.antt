use Rattle.std.proofs.Common.{◌≡◌, ℕ, ◌<◌, true}
use Rattle.dr_history.specs.Members.{has}
use Rattle.dr_oracle.proofs.succession.are_of_roster.Given as goal

abbrev pub invariant-loop-member : goal.invariant-loop-member
invariant-loop-member l = (m : ℕ) → m < l.member → has l.members m ≡ true → m < l.roster
