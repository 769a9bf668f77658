use Rattle.std.proofs.Common.{sym, ◌∙◌, subst}
use Rattle.dr_program.specs.declared.place.Place.{Place}
use Rattle.dr_turn.proofs.Search.{GoesBy}
use Rattle.dr_member.{specs.Search.standing, proofs.Passing.{first_found, row_passed}}
use Rattle.dr_member.proofs.search.settle_outside.Goals as goal

goes : (c : goal.After-enter_row) → GoesBy (standing c.args.replica.now c.args.fate.now c.loop-column.place)
    (standing c.args.replica.now c.args.fate.now c.enter_row.new.place)
goes c =
    let r = standing c.args.replica.now c.args.fate.now c.loop-column.place in
    subst (λ (x : Place). GoesBy r (standing c.args.replica.now c.args.fate.now x)) (sym c.enter_row.ensures.place)
    (row_passed r c.loop-column.invariant.underway c.loop-column.invariant.none c.in_default.ensures)

pub returns-in-Some-clause-ready : goal.returns-in-Some-clause-ready
returns-in-Some-clause-ready c = c.loop-column.invariant.ready

pub enter_row-requires-clause-next : goal.enter_row-requires-clause-next
enter_row-requires-clause-next c = (row_passed (standing c.args.replica.now c.args.fate.now c.loop-column.place)
    c.loop-column.invariant.underway c.loop-column.invariant.none c.in_default.ensures).underway.place

pub returns-in-Some-clause-place : goal.returns-in-Some-clause-place
returns-in-Some-clause-place c =
    first_found (standing c.args.replica.now c.args.fate.now c.loop-column.place) c.in-Some.column
    c.loop-column.invariant.underway c.loop-column.invariant.none c.in-Some.ensures ∙ c.loop-column.invariant.same

pub loop-column-smaller : goal.loop-column-smaller
loop-column-smaller c = (goes c).later

pub loop-column-preserved : goal.loop-column-preserved
loop-column-preserved c = record {
  same = (goes c).same ∙ c.loop-column.invariant.same;
  underway = (goes c).underway;
  none = c.loop-column.invariant.none;
  ready = c.enter_row.ensures.ready;
}
