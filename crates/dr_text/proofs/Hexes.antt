-- Messages are bytes, as the kit's hexadecimal text takes them.
use Rattle.std.proofs.{Common.{ℕ, inl, inr, ◌<◌, arith, ◌≤◌, ◌⊎◌, List, length, get_or}, lemmas.Bool.cases_lt}
use Rattle.std.proofs.lemmas.List.{get_or_past}
use Rattle.hex.specs.Hex.{IsBytes}
use Rattle.dr_entry.specs.Messages.{IsMessage}

pub are_bytes : (bytes : List ℕ) → IsMessage bytes → IsBytes bytes
are_bytes bytes is i = by (cases_lt i (length bytes))
  where
    by : (i < length bytes) ⊎ (length bytes ≤ i) → get_or bytes i 0 < 256
    by (inl within) = is.small i 0 within
    by (inr past) = let e = get_or_past bytes i 0 past in omega (arith, e)
