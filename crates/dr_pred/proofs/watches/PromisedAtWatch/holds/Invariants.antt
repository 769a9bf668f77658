use Rattle.std.proofs.Common.{◌≡◌, ℕ, ◌<◌, true}
use Rattle.dr_history.specs.Members.{has}
use Rattle.dr_words.specs.Columns.{trim_column}
use Rattle.dr_pred.specs.Watches.{Promises}
use Rattle.dr_pred.proofs.watches.PromisedAtWatch.holds.Given as goal

abbrev pub invariant-loop-sender : goal.invariant-loop-sender
invariant-loop-sender l = (i s : ℕ) → s < l.sender → has l.self.of i ≡ true
    → has l.self.senders s ≡ true → Promises l.rows l.self.promise i (trim_column l.rows.members s)
