use Rattle.std.proofs.Common.{◌≡◌, ℕ, ◌<◌, true}
use Rattle.dr_history.specs.Members.{has}
use Rattle.dr_words.specs.Packing.{accept_promise}
use Rattle.dr_lead.specs.Accepts.{trim_word}
use Rattle.dr_lead.proofs.accepts.all_promise.Given as goal

abbrev pub invariant-loop-sender : goal.invariant-loop-sender
invariant-loop-sender l = (s : ℕ) → s < l.sender → has l.members s ≡ true
    → accept_promise (trim_word l.rows l.row s) ≡ l.promised
