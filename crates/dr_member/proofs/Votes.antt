-- Where nothing of a vote is due, the search goes past the parts that votes have.
use Rattle.std.{specs.Prelude.{None, is_some}, proofs.Common.{◌≡◌, sym, ap, ◌∙◌, subst, true}}
use Rattle.dr_entry.proofs.{BoolFacts.{calm_parts, first_fails, second_fails}, OptionFacts.no_value}
use Rattle.dr_program.specs.declared.place.Part.TheVariants as parts
use Rattle.dr_program.specs.Replica.{Replica, is_inside, is_named, is_others, is_own, is_wedged, me, value_due}
use Rattle.dr_program.specs.{Running.vote_or_end, Steps.allows, Turn.part_of, declared.place.Place.Place}
use Rattle.dr_program.proofs.{Order.vote_place, Parts.begin, Replicas.none_waits}
use Rattle.dr_words.specs.Columns.{columns_of}
use Rattle.dr_turn.{specs.Search.IsUnderway, proofs.{Search.{GoesBy, goes_far}, Staying.goes_on}}
use Rattle.dr_member.specs.{Search.{is_calm, standing}, declared.fate.Fate.Fate, declared.search.TheConstants.PUSHES}

-- ---- what is idle where nothing of a vote is due

-- from the part of the vote the search comes to the pushes
past : (q : Replica) (fate : Fate) → is_calm q fate ≡ true → q.end ≡ None → IsUnderway (standing q fate (begin 11))
    → GoesBy (standing q fate (begin 11)) (standing q fate (begin PUSHES))
past q fate calm none u =
    let parts = calm_parts (is_some fate.failed) (is_wedged q) (is_named (me q) q.committed) calm in
    let pending = none_waits q.pending (me q) u.free in
    let vote = goes_on (standing q fate (begin 11)) u none (ap (λ o. allows q (vote_or_end o (value_due q)))
    (no_value fate.failed parts.0) ∙ second_fails (is_inside q) _ (first_fails (is_wedged q) _ parts.1.0)) in
    let propose = goes_on (standing q fate (begin 12)) vote.underway none
    (second_fails (is_inside q) _ (ap (is_own (me q)) pending)) in
    let accept = goes_on (standing q fate (begin 13)) propose.underway none
    (second_fails (is_inside q) _ (ap (is_others (me q)) pending)) in
    let commit = goes_on (standing q fate (begin 14)) accept.underway none
    (second_fails (is_inside q) _ (first_fails (is_wedged q) _ parts.1.0)) in
    let excluded = goes_on (standing q fate (begin 15)) commit.underway none
    (second_fails (is_inside q) _ (first_fails (is_named (me q) q.committed) _ parts.1.1)) in
    goes_far _ _ _ vote (goes_far _ _ _ propose (goes_far _ _ _ accept (goes_far _ _ _ commit excluded)))

-- where nothing of a vote is due, the search goes from its part to the pushes
pub votes_passed : (q : Replica) (fate : Fate) (p : Place) → IsUnderway (standing q fate p) → q.end ≡ None
    → part_of p ≡ parts.Vote → is_calm q fate ≡ true
    → GoesBy (standing q fate p) (standing q fate (record p { part = PUSHES }))
votes_passed q fate p u none at calm =
    let is = vote_place q.roster (columns_of q.roster q.window) p u.place at in
    subst (λ (x : Place). GoesBy (standing q fate x) (standing q fate (record x { part = PUSHES }))) (sym is)
    (past q fate calm none (subst (λ (x : Place). IsUnderway (standing q fate x)) is u))
