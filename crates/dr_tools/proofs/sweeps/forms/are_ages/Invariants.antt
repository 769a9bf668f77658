use Rattle.std.{specs.List.slice_split, proofs.Common.{◌≡◌, ◌==◌, drop, length}}
use Rattle.dr_tools.specs.OutcomeForms.{are_ages}
use Rattle.dr_tools.proofs.sweeps.forms.are_ages.Given as goal

abbrev pub invariant-loop-age : goal.invariant-loop-age
invariant-loop-age l = are_ages l.members l.ages (slice_split (λ byte. byte == 124) l.text)
    ≡ are_ages l.members l.left (drop (length l.yielded) (slice_split (λ byte. byte == 124) l.text))
