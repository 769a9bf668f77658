use Rattle.std.{specs.List.range_with_len, proofs.Common.{◌≡◌, filter}}
use Rattle.dr_history.specs.Places.{is_held}
use Rattle.dr_oracle.proofs.places.held_places.Given as goal

abbrev pub invariant-loop-place : goal.invariant-loop-place
invariant-loop-place l = l.places.items ≡ filter (is_held l.counts) (range_with_len 0 l.place)
