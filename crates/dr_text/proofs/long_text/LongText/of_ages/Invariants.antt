use Rattle.std.{specs.List.flat_map, proofs.Common.{◌≡◌, take}}
use Rattle.dr_text.specs.Report.{age_text}
use Rattle.dr_text.proofs.long_text.LongText.of_ages.Given as goal

abbrev pub invariant-loop-age : goal.invariant-loop-age
invariant-loop-age l = l.long ≡ flat_map age_text (take l.age-index l.ages)
