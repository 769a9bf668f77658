use Rattle.std.{specs.Simd.Lanes.mask_l, proofs.Common.{◌≡◌, ◌-◌, ◌≤◌, ◌==◌, length, map, take}}
use Rattle.dr_lane.proofs.match_mask.Given as goal

abbrev pub invariant-loop-at : goal.invariant-loop-at
invariant-loop-at l = (l.at ≤ length l.words) × (l.mask ≡ mask_l (map (λ word. word == l.to) (take l.at l.words)))

abbrev pub decreases-loop-at : goal.decreases-loop-at
decreases-loop-at l = length l.words - l.at

abbrev pub invariant-loop-i : goal.invariant-loop-i
invariant-loop-i l = (l.at ≤ length l.words) × (l.mask ≡ mask_l (map (λ word. word == l.to) (take l.i l.words)))
