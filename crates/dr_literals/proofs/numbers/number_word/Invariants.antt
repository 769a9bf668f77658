use Rattle.std.proofs.Common.{◌≡◌, ◌<◌, ◌^◌, drop}
use Rattle.dr_literals.specs.Literals.{number_from}
use Rattle.dr_literals.proofs.numbers.number_word.Given as goal

abbrev pub invariant-loop-digit : goal.invariant-loop-digit
invariant-loop-digit l =
    (number_from 0 l.digits ≡ number_from l.number (drop l.digit-index l.digits)) × (l.number < 2 ^ 64)
