-- What the search may pass over at once.
use Rattle.std.{specs.Prelude.{None, is_some}, proofs.lemmas.Bool.Decides.nat_tests}
use Rattle.std.proofs.Common.{◌≡◌, refl, subst, ap, ◌∙◌, ℕ, zero, suc, ◌+◌, ◌-◌, ◌<◌, ◌≤◌, ◌==◌, ◌&&◌, ◌||◌, Bool, true, false, if◌then◌else◌, nat_lt, le_refl, sym, arith}
use Rattle.dr_entry.proofs.BoolFacts.{neither, stops_due}
use Rattle.dr_rows.specs.Words.{changed}
use Rattle.dr_program.specs.declared.place.Part.TheVariants as parts
use Rattle.dr_program.specs.Replica.{Replica, is_inside, is_other}
use Rattle.dr_program.specs.Running.{Running, members, columns, applies, crashes_now, push_or_crash, settled, step_at}
use Rattle.dr_program.specs.{Steps.{allows, has_cell}, Turn.{columns_in, part_of}, declared.place.Place.Place}
use Rattle.dr_program.proofs.{RunningPrograms.settled_here, Search.{applies_at, applies_from}}
use Rattle.dr_turn.{specs.Search.IsUnderway, proofs.{Search.{GoesBy, goes_far}, Staying.goes_on}}
use Rattle.dr_member.specs.{Search.{IsFirstDue, IsIdleTo, next_row, standing}, declared.fate.Fate.Fate}

-- the place of this column in the row, or what comes after the row where it has no such column
abbrev pub from_column : ℕ → ℕ → Place → ℕ → Place
from_column n k p c = if nat_lt c (columns_in k (part_of p)) then record p { column = c } else next_row n p

-- behind the last column the next row comes
pub from_behind : (n k : ℕ) (p : Place) (c : ℕ) → columns_in k (part_of p) ≤ c → from_column n k p c ≡ next_row n p
from_behind n k p c h = by (nat_lt c (columns_in k (part_of p))) (grind (arith, nat_tests))
  where
    by : (x : Bool) → x ≡ false → (if x then record p { column = c } else next_row n p) ≡ next_row n p
    by true e = absurd (cc)
    by false e = refl

-- a column that there is
pub from_here : (n k : ℕ) (p : Place) (c : ℕ) → c < columns_in k (part_of p)
    → from_column n k p c ≡ record p { column = c }
from_here n k p c h = by (nat_lt c (columns_in k (part_of p))) (grind (arith, nat_tests))
  where
    by : (x : Bool) → x ≡ true → (if x then record p { column = c } else next_row n p) ≡ record p { column = c }
    by true e = refl
    by false e = absurd (cc)

-- the member at a column of the row in which it stands, or behind that row
abbrev pub at_column : Running → ℕ → Running
at_column r c = record r { place = record r.place { column = c } }

-- the member at this column of its place
abbrev pub past_column : Running → ℕ → Running
past_column r c = record r { place = from_column (members r) (columns r) r.place c }

-- columns at which there is nothing to do are passed over, with so many between this one and t
pass : (d : ℕ) (r : Running) (t : ℕ) → IsUnderway r → r.replica.end ≡ None → IsIdleTo r r.place t
    → r.place.column + 1 + d ≡ t → t ≤ columns_in (columns r) (part_of r.place) → GoesBy r (past_column r t)
pass zero r t u none idle e within = subst (λ (x : ℕ). GoesBy r (past_column r x)) (omega arith)
    (goes_on r u none (idle r.place.column (le_refl _) (omega arith)))
pass (suc d) r t u none idle e within = far (pass d (at_column r (r.place.column + 1)) t)
  where
    next : GoesBy r (at_column r (r.place.column + 1))
    next = subst (λ (p : Place). GoesBy r (record r { place = p })) (from_here (members r) (columns r) r.place
        (r.place.column + 1) (omega arith)) (goes_on r u none (idle r.place.column (le_refl _) (omega arith)))

    far : (IsUnderway (at_column r (r.place.column + 1)) → r.replica.end ≡ None
        → ((c : ℕ) → r.place.column + 1 ≤ c → c < t
        → applies (at_column r (r.place.column + 1)) (record r.place { column = c }) ≡ false)
        → r.place.column + 1 + 1 + d ≡ t → t ≤ columns_in (columns r) (part_of r.place)
        → GoesBy (at_column r (r.place.column + 1)) (past_column r t)) → GoesBy r (past_column r t)
    far s = goes_far _ _ _ next
        (s next.underway none (λ c l h. applies_from r (at_column r (r.place.column + 1)).place
        (record r.place { column = c }) ∙ idle c (omega arith) h) (omega arith) within)

-- a member under way goes by columns with nothing to do
pub passes : (r : Running) (t : ℕ) → IsUnderway r → r.replica.end ≡ None → IsIdleTo r r.place t
    → r.place.column < t → t ≤ columns_in (columns r) (part_of r.place) → GoesBy r (past_column r t)
passes r t u none idle later within = pass (t - (r.place.column + 1)) r t u none idle (omega arith) within

-- where a row has nothing to do, the search goes by what comes after it
pub row_passed : (r : Running) → IsUnderway r → r.replica.end ≡ None → IsIdleTo r r.place (columns_in (columns r)
    (part_of r.place)) → GoesBy r (record r { place = next_row (members r) r.place })
row_passed r u none idle = subst (λ (p : Place). GoesBy r (record r { place = p }))
    (from_behind (members r) (columns r) r.place (columns_in (columns r) (part_of r.place)) (le_refl _))
    (passes r (columns_in (columns r) (part_of r.place)) u none idle u.place.column (le_refl _))

-- the search stays at the first column of the row with something to do
pub first_found : (r : Running) (c : ℕ) → IsUnderway r → r.replica.end ≡ None
    → IsFirstDue r r.place c → at_column r c ≡ settled r
first_found r c u none f = by (c == r.place.column) refl
  where
    stays : at_column r c ≡ settled (at_column r c)
    stays = sym (settled_here (at_column r c) (stops_due (is_some r.replica.end)
        (applies (at_column r c) (at_column r c).place)
        (applies_from r (at_column r c).place (at_column r c).place ∙ f.due)))

    by : (b : Bool) → (c == r.place.column) ≡ b → at_column r c ≡ settled r
    by true e =
        let same : at_column r c ≡ r = ap (at_column r) (grind (arith, nat_tests)) in stays ∙ ap settled same
    by false e =
        let far = passes r c u none f.idle (grind (arith, nat_tests, f.later)) (omega (arith, f.within)) in
        stays ∙ ap (λ (p : Place). settled (record r { place = p }))
        (sym (from_here (members r) (columns r) r.place c f.within)) ∙ far.same

-- a column whose word did not change has nothing to push
pub pushes_idle : (replica : Replica) (fate : Fate) (p : Place) (c : ℕ) → part_of p ≡ parts.Push
    → changed replica.rows p.row c ≡ false → applies (standing replica fate p) (record p { column = c }) ≡ false
pushes_idle replica fate p c at same = ap (λ x. applies_at (standing replica fate p) x p.row c) at
    ∙ neither (is_other replica p.row) (changed replica.rows p.row c)
    (allows replica (step_at (standing replica fate p) parts.Push p.row c)) same

-- nor has anybody but another member of its view, and who neither pushes nor crashes has nothing
pub pushes_nobody : (replica : Replica) (fate : Fate) (p : Place) (c : ℕ) → part_of p ≡ parts.Push
    → is_other replica p.row ≡ false → applies (standing replica fate p) (record p { column = c }) ≡ false
pushes_nobody replica fate p c at none = ap (λ x. applies_at (standing replica fate p) x p.row c) at
    ∙ ap (λ b. (b && changed replica.rows p.row c)
    && allows replica (step_at (standing replica fate p) parts.Push p.row c)) none

pub pushes_nothing : (replica : Replica) (fate : Fate) (p : Place) (c : ℕ) → part_of p ≡ parts.Push
    → (is_inside replica || crashes_now (standing replica fate p)) ≡ false
    → applies (standing replica fate p) (record p { column = c }) ≡ false
pushes_nothing replica fate p c at neither_one = ap (λ x. applies_at (standing replica fate p) x p.row c) at
    ∙ last (is_other replica p.row && changed replica.rows p.row c) _
    (by (is_inside replica) (crashes_now (standing replica fate p)) refl neither_one)
  where
    last : (a b : Bool) → b ≡ false → (a && b) ≡ false
    last true b e = e
    last false b e = refl

    by : (inside crashes : Bool) → is_inside replica ≡ inside → (inside || crashes) ≡ false
        → allows replica (push_or_crash crashes p.row c) ≡ false
    by true crashes is e = absurd (cc e)
    by false true is e = absurd (cc e)
    by false false is e = ap (λ x. x && has_cell replica p.row c) is
