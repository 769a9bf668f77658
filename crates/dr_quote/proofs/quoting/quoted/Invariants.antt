use Rattle.std.{specs.List.flat_map, proofs.Common.{◌≡◌, ◌∷◌, take}}
use Rattle.dr_quote.specs.Quote.{escaped}
use Rattle.dr_quote.proofs.quoting.quoted.Given as goal

abbrev pub invariant-loop-byte : goal.invariant-loop-byte
invariant-loop-byte l = l.text.items ≡ 34 ∷ flat_map escaped (take l.byte-index l.bytes)
