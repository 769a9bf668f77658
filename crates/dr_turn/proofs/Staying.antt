-- Where the search stays, and how many steps are enough for it.
use Rattle.std.specs.Prelude.{None, is_some}
use Rattle.std.proofs.Common.{◌≡◌, refl, ℕ, zero, suc, ◌<◌, ◌≤◌, Bool, true, false, if◌then◌else◌, arith, ◌∙◌}
use Rattle.dr_entry.proofs.{BoolFacts.idle, Ends.stops_not}
use Rattle.dr_program.specs.{Running.{Running, members, columns, applies, moved, settle}, Turn.places_in}
use Rattle.dr_program.{specs.declared.place.TheConstants.TURN, proofs.RunningPrograms.{stops, settle_on}}
use Rattle.dr_program.proofs.Search.{idle_part, part_before}
use Rattle.dr_turn.{specs.Search.{left, IsUnderway}, proofs.Order.{left_falls, left_some, left_small}}
use Rattle.dr_turn.proofs.Search.{underway_idle, GoesBy}

-- more steps than places that are left change nothing
pub settle_enough : (f g : ℕ) (r : Running) → IsUnderway r → left (members r) (columns r) r.place ≤ f
    → left (members r) (columns r) r.place ≤ g → settle f r ≡ settle g r
unfolding settle
settle_enough zero g r u a b = absurd (omega (arith, a, left_some (members r) (columns r) r.place u.place))
settle_enough (suc f) zero r u a b = absurd (omega (arith, b, left_some (members r) (columns r) r.place u.place))
settle_enough (suc f) (suc g) r u a b = by (stops r) refl (settle_enough f g (moved r))
  where
    by : (x : Bool) → stops r ≡ x → (IsUnderway (moved r) → left (members r) (columns r) (moved r).place ≤ f
        → left (members r) (columns r) (moved r).place ≤ g → settle f (moved r) ≡ settle g (moved r))
        → (if x then r else settle f (moved r)) ≡ (if x then r else settle g (moved r))
    by true e s = refl
    by false e s =
        let falls : left (members r) (columns r) (moved r).place < left (members r)
        (columns r) r.place = left_falls (members r) (columns r) r.place u.place (part_before (members r)
        (columns r) r.place u.place (idle_part r r.place (idle (is_some r.replica.end) (applies r r.place) e))) in
        s (underway_idle r u (idle _ _ e)) (omega (arith, falls)) (omega (arith, falls))

-- the search goes by the next place
pub goes_on : (r : Running) → IsUnderway r → r.replica.end ≡ None → applies r r.place ≡ false → GoesBy r (moved r)
goes_on r u none e =
    let most = places_in (members r) (columns r) TURN in
    let small = left_small (members r) (columns r) r.place u.place in record {
      same = settle_on most r (stops_not r.replica.end (applies r r.place) none e)
          ∙ settle_enough (suc most) most r u (omega (arith, small)) small;
      underway = underway_idle r u e;
      later = left_falls (members r) (columns r) r.place u.place
          (part_before (members r) (columns r) r.place u.place (idle_part r r.place e));
    }
