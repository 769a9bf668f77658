use Rattle.std.proofs.Common.{◌≤◌, All, length, take}
use Rattle.dr_history.specs.Agreement.{accounts_of}
use Rattle.dr_oracle.proofs.agreement.all_have_logged.Given as goal

abbrev pub invariant-loop-member : goal.invariant-loop-member
invariant-loop-member l = All (λ j. l.durable ≤ length (accounts_of l.ends j).log) (take l.member-index l.members)
