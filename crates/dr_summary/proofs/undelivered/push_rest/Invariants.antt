use Rattle.std.proofs.Common.{◌≡◌, ◌≤◌, ◌++◌, max}
use Rattle.dr_summary.specs.Notes.{names_behind}
use Rattle.dr_summary.proofs.undelivered.push_rest.Given as goal

abbrev pub invariant-loop-index : goal.invariant-loop-index
invariant-loop-index l = record {
  names : l.names.items ≡ l.initial.names.items ++ names_behind l.sender l.had l.index;
  within : l.index ≤ max l.had l.count;
}
