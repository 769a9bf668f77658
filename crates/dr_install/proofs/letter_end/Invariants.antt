use Rattle.std.proofs.Common.{◌≡◌, ◌≤◌, take}
use Rattle.dr_history.specs.History.{up_to_view}
use Rattle.dr_install.proofs.letter_end.Given as goal

abbrev pub invariant-loop-at : goal.invariant-loop-at
invariant-loop-at l = record {
  within : l.end ≤ l.at;
  letter : take l.end l.history ≡ up_to_view (take l.at l.history);
}
