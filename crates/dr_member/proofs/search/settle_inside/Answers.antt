use Rattle.std.{specs.Prelude.is_some, proofs.Common.{◌≡◌, ℕ, true, ap, sym, ◌∙◌, subst}}
use Rattle.dr_program.{specs.{Running.applies, declared.place.Place.Place}, proofs.RunningPrograms.settled_here}
use Rattle.dr_turn.{specs.Search.IsUnderway, proofs.Search.GoesBy}
use Rattle.dr_entry.proofs.BoolFacts.{stops_due}
use Rattle.dr_member.{specs.{Ready.KeepsReady, Search.standing}, proofs.Letters.{letters_passed, take_passed}}
use Rattle.dr_member.proofs.{Passing.{first_found, row_passed}, Votes.votes_passed}
use Rattle.dr_member.proofs.search.settle_inside.Goals as goal

-- the place with the part that was told is this place
told : (place : Place) (part : ℕ) → part ≡ place.part
    → record { part = part; row = place.row; column = place.column } ≡ place
told place part e = ap (λ (p : ℕ). record place { part = p }) e

pub applies_inside-requires-clause-underway : goal.applies_inside-requires-clause-underway
applies_inside-requires-clause-underway c =
    subst (λ (x : Place). IsUnderway (standing c.args.replica.now c.args.fate.now x))
    (sym (told c.args.place.now c.args.part c.requires.part)) c.requires.underway

pub applies_inside-requires-clause-ready : goal.applies_inside-requires-clause-ready
applies_inside-requires-clause-ready c = subst (λ (x : Place). KeepsReady c.args.replica.now x c.args.ready.now)
    (sym (told c.args.place.now c.args.part c.requires.part)) c.requires.ready

pub returns-then-applies_inside-clause-place : goal.returns-then-applies_inside-clause-place
returns-then-applies_inside-clause-place c =
    let r = standing c.args.replica.now c.args.fate.now c.args.place.now in
    let due : applies r r.place ≡ true =
    subst (λ (x : Place). applies (standing c.args.replica.now c.args.fate.now x) x ≡ true)
    (told c.args.place.now c.args.part c.requires.part) (sym c.applies_inside.ensures ∙ c.if-applies_inside.true) in
    sym (settled_here r (stops_due (is_some r.replica.end) (applies r r.place) due))

pub returns-then-applies_inside-clause-ready : goal.returns-then-applies_inside-clause-ready
returns-then-applies_inside-clause-ready c = c.requires.ready

goes : (c : goal.After-enter_row) → GoesBy (standing c.args.replica.now c.args.fate.now c.loop-place.place)
    (standing c.args.replica.now c.args.fate.now c.enter_row.new.place)
goes c =
    let r = standing c.args.replica.now c.args.fate.now c.loop-place.place in
    subst (λ (x : Place). GoesBy r (standing c.args.replica.now c.args.fate.now x)) (sym c.enter_row.ensures.place)
    (row_passed r c.loop-place.invariant.underway c.loop-place.invariant.none c.in_default-first_inside.ensures)

pub returns-in-Some-clause-ready : goal.returns-in-Some-clause-ready
returns-in-Some-clause-ready c = c.loop-place.invariant.ready

pub enter_row-requires-clause-next : goal.enter_row-requires-clause-next
enter_row-requires-clause-next c = (row_passed (standing c.args.replica.now c.args.fate.now c.loop-place.place)
    c.loop-place.invariant.underway c.loop-place.invariant.none c.in_default-first_inside.ensures).underway.place

pub returns-in-Some-clause-place : goal.returns-in-Some-clause-place
returns-in-Some-clause-place c =
    first_found (standing c.args.replica.now c.args.fate.now c.loop-place.place) c.in-Some.column
    c.loop-place.invariant.underway c.loop-place.invariant.none c.in-Some.ensures ∙ c.loop-place.invariant.same

pub loop-place-smaller : goal.loop-place-smaller
loop-place-smaller c = (goes c).later

pub loop-place-preserved : goal.loop-place-preserved
loop-place-preserved c = record {
  same = (goes c).same ∙ c.loop-place.invariant.same;
  underway = (goes c).underway;
  none = c.loop-place.invariant.none;
  ready = c.enter_row.ensures.ready;
}

pub loop-place-smaller-in-Take-1 : goal.loop-place-smaller-in-Take-1
loop-place-smaller-in-Take-1 c = (take_passed c.args.replica.now c.args.fate.now c.loop-place.place
    c.loop-place.invariant.underway c.loop-place.invariant.none
    (sym c.part_of.ensures ∙ c.in-Take.is) c.requires.inside).later

pub loop-place-preserved-in-Take-1 : goal.loop-place-preserved-in-Take-1
loop-place-preserved-in-Take-1 c =
    let past = take_passed c.args.replica.now c.args.fate.now c.loop-place.place
    c.loop-place.invariant.underway c.loop-place.invariant.none (sym c.part_of.ensures ∙ c.in-Take.is)
    c.requires.inside in
    record {
      same = past.same ∙ c.loop-place.invariant.same;
      underway = past.underway;
      none = c.loop-place.invariant.none;
      ready = λ at. absurd (cc at);
    }

pub loop-place-smaller-then-is_calm : goal.loop-place-smaller-then-is_calm
loop-place-smaller-then-is_calm c = (votes_passed c.args.replica.now c.args.fate.now c.loop-place.place
    c.loop-place.invariant.underway c.loop-place.invariant.none
    (sym c.part_of.ensures ∙ c.in-Vote.is) (sym c.is_calm.ensures ∙ c.if-is_calm.true)).later

pub loop-place-preserved-then-is_calm : goal.loop-place-preserved-then-is_calm
loop-place-preserved-then-is_calm c =
    let past = votes_passed c.args.replica.now c.args.fate.now c.loop-place.place
    c.loop-place.invariant.underway c.loop-place.invariant.none (sym c.part_of.ensures ∙ c.in-Vote.is)
    (sym c.is_calm.ensures ∙ c.if-is_calm.true) in
    record {
      same = past.same ∙ c.loop-place.invariant.same;
      underway = past.underway;
      none = c.loop-place.invariant.none;
      ready = λ at. absurd (cc at);
    }

pub loop-place-smaller-then-has_no_newcomers : goal.loop-place-smaller-then-has_no_newcomers
loop-place-smaller-then-has_no_newcomers c = (letters_passed c.args.replica.now c.args.fate.now c.loop-place.place
    c.loop-place.invariant.underway c.loop-place.invariant.none (sym c.part_of.ensures ∙ c.in-Give.is)
    c.requires.inside (sym c.has_no_newcomers.ensures ∙ c.if-has_no_newcomers.true)).later

pub loop-place-preserved-then-has_no_newcomers : goal.loop-place-preserved-then-has_no_newcomers
loop-place-preserved-then-has_no_newcomers c =
    let past = letters_passed c.args.replica.now c.args.fate.now c.loop-place.place
    c.loop-place.invariant.underway c.loop-place.invariant.none (sym c.part_of.ensures ∙ c.in-Give.is)
    c.requires.inside (sym c.has_no_newcomers.ensures ∙ c.if-has_no_newcomers.true) in
    record {
      same = past.same ∙ c.loop-place.invariant.same;
      underway = past.underway;
      none = c.loop-place.invariant.none;
      ready = λ at. absurd (cc at);
    }
