use Rattle.std.{specs.List.{concat, slice_split}, proofs.Common.{◌≡◌, ◌==◌, length, string_bytes, take}}
use Rattle.dr_tools.proofs.sweeps.forms.without_blanks.Given as goal

abbrev pub invariant-loop-word : goal.invariant-loop-word
invariant-loop-word l =
    string_bytes l.out ≡ concat (take (length l.yielded) (slice_split (λ byte. byte == 32) l.text))
