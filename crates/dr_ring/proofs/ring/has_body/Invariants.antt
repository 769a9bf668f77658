use Rattle.std.{specs.List.{list_all, range_with_len}, proofs.Common.{◌≡◌, ◌+◌, ◌-◌, ◌≤◌, true, map}}
use Rattle.dr_rows.specs.Words.{seen}
use Rattle.dr_ring.specs.Slots.{is_of}
use Rattle.dr_ring.proofs.ring.has_body.Given as goal

abbrev pub invariant-loop-part : goal.invariant-loop-part
invariant-loop-part l = (l.part ≤ l.count) × (list_all (is_of l.k)
    (map (λ part. seen l.rows l.row (l.column + part)) (range_with_len 1 l.part)) ≡ true)

abbrev pub decreases-loop-part : goal.decreases-loop-part
decreases-loop-part l = l.count - l.part

abbrev pub invariant-loop-i : goal.invariant-loop-i
invariant-loop-i l = list_all (is_of l.k)
    (map (λ part. seen l.rows l.row (l.column + part)) (range_with_len 1 l.i)) ≡ true
