-- What the search goes past at once in a member's view: the take of a letter, and the letters where nobody came.
use Rattle.std.{specs.Prelude.None, proofs.lemmas.Bool.Decides.nat_tests}
use Rattle.std.proofs.Common.{◌≡◌, sym, ap, ◌∙◌, subst, ℕ, zero, suc, ◌+◌, ◌-◌, ◌<◌, ◌==◌, not, true, false, if◌then◌else◌, nat_lt, arith}
use Rattle.dr_program.specs.{Replica.{Replica, is_inside, may_give}, Running.step_at, Turn.{part_of, rows_in}}
use Rattle.dr_program.{specs.declared.place.{Part.Part, Place.Place}, proofs.Order.give_place}
use Rattle.dr_program.proofs.{Parts.{begin, give_to}, Replicas.all_allowed, Voting.no_letters, Works.take_place}
use Rattle.dr_program.specs.declared.place.Part.TheVariants as parts
use Rattle.dr_words.specs.{Columns.columns_of, Masks.without}
use Rattle.dr_turn.{specs.Search.IsUnderway, proofs.{Search.{GoesBy, goes_far}, Staying.goes_on}}
use Rattle.dr_member.specs.{Search.{next_row, standing}, declared.fate.Fate.Fate}
use Rattle.dr_member.{specs.declared.search.TheConstants.{LOOKS, SPENT}, proofs.Passing.row_passed}

-- ---- the take

-- a member in its view takes no letter
pub take_passed : (q : Replica) (fate : Fate) (p : Place) → IsUnderway (standing q fate p) → q.end ≡ None
    → part_of p ≡ parts.Take → is_inside q ≡ true
    → GoesBy (standing q fate p) (standing q fate (record p { part = LOOKS }))
take_passed q fate p u none at inside =
    let is = take_place q.roster (columns_of q.roster q.window) p u.place at in
    subst (λ (x : Place). GoesBy (standing q fate x) (standing q fate (record x { part = LOOKS }))) (sym is)
    (goes_on (standing q fate (begin 0)) (subst (λ (x : Place). IsUnderway (standing q fate x)) is u) none
    (all_allowed q (step_at (standing q fate (begin 0)) parts.Take 0 0) inside ∙ ap not inside))

-- ---- letters

-- behind the letter for a member comes the one for the next, and behind the last one the next part
more_letters : (n i : ℕ) → nat_lt (i + 1) n ≡ true → next_row n (give_to i) ≡ give_to (i + 1)
more_letters n i e = ap (λ b. if b then give_to (i + 1) else begin SPENT) e

last_letter : (n i : ℕ) → nat_lt (i + 1) n ≡ false → next_row n (give_to i) ≡ begin SPENT
last_letter n i e = ap (λ b. if b then give_to (i + 1) else begin SPENT) e

-- where there is no letter to give to a member, the search goes by its place
letter_passed : (q : Replica) (fate : Fate) (i : ℕ) → IsUnderway (standing q fate (give_to i)) → q.end ≡ None
    → is_inside q ≡ true → may_give q i ≡ false
    → GoesBy (standing q fate (give_to i)) (standing q fate (next_row q.roster (give_to i)))
letter_passed q fate i u none inside idle = row_passed (standing q fate (give_to i)) u none
    (λ c l h. all_allowed q (step_at (standing q fate (give_to i)) parts.Give i 0) inside ∙ idle)

-- and so by those of all members from this one on, of whom there are d more
all_passed : (d : ℕ) (q : Replica) (fate : Fate) (i : ℕ) → i + 1 + d ≡ q.roster
    → IsUnderway (standing q fate (give_to i)) → q.end ≡ None → is_inside q ≡ true → ((j : ℕ) → may_give q j ≡ false)
    → GoesBy (standing q fate (give_to i)) (standing q fate (begin SPENT))
all_passed zero q fate i e u none inside idle =
    subst (λ (x : Place). GoesBy (standing q fate (give_to i)) (standing q fate x))
    (last_letter q.roster i (grind (arith, nat_tests, e))) (letter_passed q fate i u none inside (idle i))
all_passed (suc d) q fate i e u none inside idle =
    let next : GoesBy (standing q fate (give_to i)) (standing q fate (give_to (i + 1))) =
    subst (λ (x : Place). GoesBy (standing q fate (give_to i)) (standing q fate x))
    (more_letters q.roster i (grind (arith, nat_tests, e))) (letter_passed q fate i u none inside (idle i)) in
    goes_far _ _ _ next (all_passed d q fate (i + 1) (omega (arith, e)) next.underway none inside idle)

-- where all of its view were in the one before, the search goes from its letters to the part behind
pub letters_passed : (q : Replica) (fate : Fate) (p : Place) → IsUnderway (standing q fate p) → q.end ≡ None
    → part_of p ≡ parts.Give → is_inside q ≡ true → (without q.members q.came_from == 0) ≡ true
    → GoesBy (standing q fate p) (standing q fate (record p { part = SPENT; row = 0 }))
letters_passed q fate p u none at inside all =
    let is = give_place q.roster (columns_of q.roster q.window) p u.place at in
    let row : p.row < q.roster = subst (λ (x : Part). p.row < rows_in q.roster x) at u.place.row in
    subst (λ (x : Place). GoesBy (standing q fate x) (standing q fate (record x { part = SPENT; row = 0 }))) (sym is)
    (all_passed (q.roster - (p.row + 1)) q fate p.row (omega (arith, row))
    (subst (λ (x : Place). IsUnderway (standing q fate x)) is u) none inside (no_letters q u.replica all))
