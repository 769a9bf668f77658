use Rattle.std.proofs.{Common.{ℕ, ◌<◌, inl, inr, replicate, slice_index, arith}, lemmas.Bool.cases_lt}
use Rattle.std.proofs.lemmas.List.{get_or-replicate, get_or_past, length-replicate}
use Rattle.dr_bench.proofs.puts.long_item.Goals as goal

bytes_from : (byte n i : ℕ) → byte < 256 → slice_index (replicate n byte) i < 256
bytes_from byte n i fits = elim (cases_lt i n) [
  | inl within ↦ omega (arith, get_or-replicate n i byte 0 within)
  | inr past ↦ omega (arith, get_or_past (replicate n byte) i 0 (omega (arith, length-replicate n byte)))
]

pub loop-place-init : goal.loop-place-init
loop-place-init c i = bytes_from 0 64 i (omega arith)
