-- The search along the order of a turn.
use Rattle.std.{specs.Prelude.{Option, Some, None, is_some}, proofs.lemmas.Bool.Decides.nat_tests}
use Rattle.std.proofs.Common.{◌≡◌, refl, sym, ap, ◌∙◌, ℕ, zero, suc, ◌<◌, ◌≤◌, ◌==◌, ◌&&◌, ◌||◌, Bool, true, false, if◌then◌else◌, le_refl, le_trans, arith, subst}
use Rattle.dr_entry.{specs.declared.end.End.End, proofs.{BoolFacts.idle, Ends.awake}}
use Rattle.dr_program.{specs.{Form.IsRunningMember, declared.place.Place.Place}, proofs.Order.{after_beat, after_in}}
use Rattle.dr_program.specs.Running.{Running, WaitsAt, members, columns, applies, moved, settle, settled}
use Rattle.dr_program.specs.{Turn.{after, is_beat, IsIn, part_of, places_in}, declared.place.TheConstants.TURN}
use Rattle.dr_program.proofs.RunningPrograms.{waits_on}
use Rattle.dr_program.proofs.Search.{part_before, some_member, some_column, applies_at, idle_part, applies_from, settle_only}
use Rattle.dr_program.specs.declared.place.Part.TheVariants as parts
use Rattle.dr_turn.specs.{Search.{left, IsUnderway, Passed, here, on}, Work.{left_to, deeds_left, may_fail, work}}
use Rattle.dr_turn.proofs.{Fewer.no_more_here, Order.{left_falls, left_small, left_some}}

-- ---- a member that is underway

falls : (r : Running) → IsUnderway r → is_beat (part_of r.place) ≡ false
    → left (members r) (columns r) (moved r).place < left (members r) (columns r) r.place
falls r u other = left_falls (members r) (columns r) r.place u.place
    (part_before (members r) (columns r) r.place u.place other)

-- it goes on from a place at which there is nothing to do, and from one where it has done what there was, but
-- for the end of the last turn
pub underway_moved : (r : Running) → IsUnderway r → is_beat (part_of r.place) ≡ false
    → (r.replica.end ≡ None → part_of r.place ≡ parts.Spent → r.replica.turns < r.limit)
    → WaitsAt r (part_of (moved r).place) → IsUnderway (moved r)
underway_moved r u other unspent free = record {
  free = free;
  replica = u.replica;
  place = inside;
  turns = u.turns;
  waits = u.waits;
  left = λ none begins. unspent none (after_beat (members r) (columns r) r.place inside other (ap is_beat begins));
}
  where
    inside : IsIn (members r) (columns r) (after (members r) (columns r) r.place)
    inside = after_in (members r) (columns r) r.place (some_member r u.replica) (some_column r) u.place

-- a member under way is still so behind a place with nothing to do
pub underway_idle : (r : Running) → IsUnderway r → applies r r.place ≡ false → IsUnderway (moved r)
underway_idle r u e = underway_moved r u (idle_part r r.place e)
    (λ none spent. unspent (ap (λ x. applies_at r x r.place.row r.place.column) spent))
    (waits_on r u.place u.free (λ outside. (u.replica.outside outside).idle) e)
  where
    unspent : applies r r.place ≡ ((r.replica.turns == r.limit) && true) → r.replica.turns < r.limit
    unspent t = grind (arith, nat_tests, t, e, u.turns)

-- ---- the search

-- what is passed by a member is passed by it wherever it stands
pub passed_at : (r : Running) (x p q : Place) → Passed (record r { place = x }) p q → Passed r p q
passed_at r x _ _ (here p) = here p
passed_at r x _ _ (on p q e s) =
    on p q (sym (applies_from r x p) ∙ e) (passed_at r x (after (members r) (columns r) p) q s)

-- the search passes only places with nothing to do
pub settle_passed : (f : ℕ) (r : Running) → Passed r r.place (settle f r).place
unfolding settle
settle_passed zero r = here r.place
settle_passed (suc f) r = by (is_some r.replica.end || applies r r.place) refl (settle_passed f (moved r))
  where
    by : (x : Bool) → (is_some r.replica.end || applies r r.place) ≡ x → Passed (moved r) (moved r).place (settle f
        (moved r)).place → Passed r r.place (if x then r else settle f (moved r)).place
    by true e s = here r.place
    by false e s = on r.place _ (idle _ _ e) (passed_at r (moved r).place (moved r).place _ s)

-- with as many steps as places are left, the search comes to a place at which there is something to do
pub settle_due : (f : ℕ) (r : Running) → IsUnderway r → left (members r) (columns r) r.place ≤ f
    → IsUnderway (settle f r) × ((settle f r).replica.end ≡ None → applies (settle f r) (settle f r).place ≡ true)
unfolding settle
settle_due zero r u l = absurd (omega (arith, l, left_some (members r) (columns r) r.place u.place))
settle_due (suc f) r u l = by (is_some r.replica.end || applies r r.place) refl (settle_due f (moved r))
  where
    by : (x : Bool) → (is_some r.replica.end || applies r r.place) ≡ x
        → (IsUnderway (moved r) → left (members r) (columns r) (moved r).place ≤ f → IsUnderway (settle f (moved r))
        × ((settle f (moved r)).replica.end ≡ None → applies (settle f (moved r)) (settle f (moved r)).place ≡ true))
        → IsUnderway (if x then r else settle f (moved r)) × ((if x then r else settle f (moved r)).replica.end ≡ None
        → applies (if x then r else settle f (moved r)) (if x then r else settle f (moved r)).place ≡ true)
    by true e s = (u, awake r.replica.end (applies r r.place) e)
    by false e s = s (underway_idle r u (idle _ _ e)) (omega (arith, l, falls r u (idle_part r r.place (idle _ _ e))))

-- a member under way is a running member where the search stays
pub settled_running : (r : Running) → IsUnderway r → IsRunningMember (settled r)
settled_running r u = running (settled r) (settle_due _ r u (left_small (members r) (columns r) r.place u.place))
  where
    running : (s : Running) → IsUnderway s × (s.replica.end ≡ None → applies s s.place ≡ true) → IsRunningMember s
    running s d = record {
      replica = d.0.replica;
      place = d.0.place;
      due = d.1;
      turns = d.0.turns;
      waits = d.0.waits;
      free = d.0.free;
      left = d.0.left;
    }

-- where a member under way has not ended, the search stays where there is something to do
pub settled_due : (r : Running) → IsUnderway r → r.replica.end ≡ None → applies (settled r) (settled r).place ≡ true
settled_due r u none = (settle_due _ r u (left_small (members r) (columns r) r.place u.place)).1
    (ap (λ (x : Running). x.replica.end) (settle_only (places_in (members r) (columns r) TURN) r) ∙ none)

-- a member under way is so where the search stays
pub settled_underway : (r : Running) → IsUnderway r → IsUnderway (settled r)
settled_underway r u = (settle_due _ r u (left_small (members r) (columns r) r.place u.place)).0

-- the search leaves no more
less_left : (r : Running) (o : Option End) → left (members r) (columns r) (moved r).place ≤ left (members r)
    (columns r) r.place → left_to (moved r) o ≤ left_to r o
less_left r None h = no_more_here _ _ _ _ (work r.replica) (may_fail r.failed) h
less_left r (Some x) h = le_refl 0

-- the search leaves no more deeds than before
pub settle_less : (f : ℕ) (r : Running) → IsUnderway r → deeds_left (settle f r) ≤ deeds_left r
unfolding settle
settle_less zero r u = le_refl _
settle_less (suc f) r u = by (is_some r.replica.end || applies r r.place) refl (settle_less f (moved r))
  where
    by : (x : Bool) → (is_some r.replica.end || applies r r.place) ≡ x
        → (IsUnderway (moved r) → deeds_left (settle f (moved r)) ≤ deeds_left (moved r))
        → deeds_left (if x then r else settle f (moved r)) ≤ deeds_left r
    by true e s = le_refl _
    by false e s = le_trans (s (underway_idle r u (idle _ _ e)))
        (less_left r r.replica.end (omega (arith, falls r u (idle_part r r.place (idle _ _ e)))))

-- the search from r goes by x, which stands later in the turn
pub record GoesBy (r x : Running) : Type 0 where
  pub same : settled x ≡ settled r
  pub underway : IsUnderway x
  pub later : left (members x) (columns x) x.place < left (members r) (columns r) r.place

-- what the search goes by on its way from y it goes by from r
pub goes_far : (r x y : Running) → GoesBy r x → GoesBy x y → GoesBy r y
goes_far r x y a b = record { same = b.same ∙ a.same; underway = b.underway; later = omega (arith, a.later, b.later) }

-- the search passes only places with nothing to do, as its member is behind it
pub settled_passed : (y : Running) → Passed (settled y) y.place (settled y).place
settled_passed y = subst (λ (z : Running). Passed z y.place (settled y).place) (sym (settle_only _ y))
    (passed_at (record y { place = (settled y).place }) y.place y.place (settled y).place (settle_passed _ y))
