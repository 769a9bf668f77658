use Rattle.std.{specs.List.slice_split, proofs.Common.{◌≡◌, ◌==◌, Some, drop, false, length}}
use Rattle.dr_tools.specs.OutcomeForms.{are_ends}
use Rattle.dr_tools.proofs.sweeps.forms.are_ends.Given as goal

abbrev pub invariant-loop-word : goal.invariant-loop-word
invariant-loop-word l = are_ends (Some (false, l.members)) (slice_split (λ byte. byte == 44) l.text)
    ≡ are_ends (Some l.state) (drop (length l.yielded) (slice_split (λ byte. byte == 44) l.text))
