use Rattle.std.proofs.Common.{◌≡◌}
use Rattle.dr_history.proofs.Tests.{IsFilledTo}
use Rattle.dr_words.specs.Packing.{accept_value}
use Rattle.dr_lead.specs.Accepts.{trim_word}
use Rattle.dr_lead.proofs.accepts.shown.Given as goal

abbrev pub invariant-loop-sender : goal.invariant-loop-sender
invariant-loop-sender l = IsFilledTo (λ s trim. trim ≡ accept_value (trim_word l.rows l.row s)) l.members
    l.sender l.trim
