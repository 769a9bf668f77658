use Rattle.std.proofs.Common.{◌≡◌, drop, fold, map, max}
use Rattle.dr_tools.specs.Summary.{most_turns, turns_in}
use Rattle.dr_tools.proofs.summary.turns.most_turns.Given as goal

abbrev pub invariant-loop-age : goal.invariant-loop-age
invariant-loop-age l = most_turns l.ages ≡ fold max l.most (map turns_in (drop l.age-index l.ages))
