use Rattle.std.proofs.Common.{◌≡◌, ◌+◌, ◌-◌, length}
use Rattle.dr_check.specs.{Clauses.KeepsPrefix, Flaws.{line_behind, own_entries}}
use Rattle.dr_entry.proofs.ListFacts.{KeepBelow}
use Rattle.dr_tools.proofs.judging.differing.difference_of.Given as goal

abbrev pub invariant-loop-at : goal.invariant-loop-at
invariant-loop-at l = KeepBelow (λ k e. line_behind l.member k ≡ l.line → KeepsPrefix l.age l.n
    (length l.age.start + k) e) (own_entries l.age l.member) (l.at - length l.age.start)
