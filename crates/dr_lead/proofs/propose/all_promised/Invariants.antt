use Rattle.std.proofs.Common.{◌≡◌, ℕ, ◌<◌, true}
use Rattle.dr_history.specs.Members.{has}
use Rattle.dr_lead.specs.Accepts.{AllPromise}
use Rattle.dr_lead.proofs.propose.all_promised.Given as goal

abbrev pub invariant-loop-row : goal.invariant-loop-row
invariant-loop-row l = (i : ℕ) → i < l.row → has l.of i ≡ true → AllPromise l.rows l.s.members i l.s.me
