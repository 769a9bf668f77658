use Rattle.std.proofs.Common.{◌≡◌, ℕ, ◌<◌, true}
use Rattle.dr_history.specs.Members.{has}
use Rattle.dr_words.specs.{Columns.recv_column, Packing.is_final}
use Rattle.dr_rows.specs.Words.{seen}
use Rattle.dr_pred.proofs.watches.AllFinalWatch.holds.Given as goal

abbrev pub invariant-loop-sender : goal.invariant-loop-sender
invariant-loop-sender l = (i s : ℕ) → s < l.sender → has l.self.of i ≡ true
    → has l.self.senders s ≡ true → is_final (seen l.rows i (recv_column s)) ≡ true
