use Rattle.std.proofs.Common.{◌+◌, ◌<◌, refl, sym, ap, subst, arith}
use Rattle.dr_entry.proofs.NumberFacts.{untrue}
use Rattle.dr_program.{specs.Replica.Replica, proofs.Replicas.look_row_stays}
use Rattle.dr_member.{specs.Inside.member_inside, proofs.member.Member.look_row.{Given.Over, Goals.After-look}}
use Rattle.dr_member.proofs.Moves.{IsLooked, look_left, looked_inside, looked_row_timely, waited}
use Rattle.dr_member.proofs.Sweeps.{HasLeft, at_column, look_index, look_on, look_takes, looks_begin, looks_end, saw, stale_in, was_waited}
use Rattle.dr_member.proofs.member.Member.look_row.Goals as goal

pub loop-column-init : goal.loop-column-init
loop-column-init g c = record {
  home = c.requires.home;
  came = subst (g.A.Access.came c.args.access.now c.args.self.now c.args.access.now)
      (sym c.self.view_is) c.requires.came;
  on = looks_begin c.args.self.now c.self.inside c.look_index-first.result c.self.view_is c.self.invariant
      c.requires.deed c.look_index-first.ensures.index;
  row = refl;
  behind = omega arith;
  columns = refl;
}

pub overflow_add-first : goal.overflow_add-first
overflow_add-first g c =
    let is = look_index c.args.self.now (at_column c.loop-column.self-inside c.loop-column.column) _
    c.loop-column.invariant.on in
    omega (arith, is.small)

pub look-word-requires-clause-within : goal.look-word-requires-clause-within
look-word-requires-clause-within g c =
    let is = look_index c.args.self.now (at_column c.loop-column.self-inside c.loop-column.column) _
    c.loop-column.invariant.on in
    omega (arith, is.index, is.within)

pub look-requires-clause-row : goal.look-requires-clause-row
look-requires-clause-row g c =
    let t = look_takes (at_column c.loop-column.self-inside c.loop-column.column) _ c.look-word.result
    c.loop-column.invariant.on.inside c.look-word.ensures.sees c.loop-column.invariant.row in
    t.row

pub look-requires-clause-other : goal.look-requires-clause-other
look-requires-clause-other g c =
    let t = look_takes (at_column c.loop-column.self-inside c.loop-column.column) _ c.look-word.result
    c.loop-column.invariant.on.inside c.look-word.ensures.sees c.loop-column.invariant.row in
    t.other

pub look-requires-clause-unsuspected : goal.look-requires-clause-unsuspected
look-requires-clause-unsuspected g c =
    let t = look_takes (at_column c.loop-column.self-inside c.loop-column.column) _ c.look-word.result
    c.loop-column.invariant.on.inside c.look-word.ensures.sees c.loop-column.invariant.row in
    untrue _ _ t.may

pub look-requires-clause-in_form : goal.look-requires-clause-in_form
look-requires-clause-in_form g c =
    let t = look_takes (at_column c.loop-column.self-inside c.loop-column.column) _ c.look-word.result
    c.loop-column.invariant.on.inside c.look-word.ensures.sees c.loop-column.invariant.row in
    t.in_form

pub look-requires-clause-grown : goal.look-requires-clause-grown
look-requires-clause-grown g c =
    let t = look_takes (at_column c.loop-column.self-inside c.loop-column.column) _ c.look-word.result
    c.loop-column.invariant.on.inside c.look-word.ensures.sees c.loop-column.invariant.row in
    t.grown

-- the look was done
known : (g : Over) (c : After-look g)
    → IsLooked c.loop-column.self-inside.replica c.look.new.self c.loop-column.self-inside.fate
    (record c.loop-column.self-inside.place { column = c.loop-column.column }) c.look-word.result
known g c = saw (at_column c.loop-column.self-inside c.loop-column.column) c.look.new.self _ c.look-word.result
    c.loop-column.invariant.on.inside c.look-word.ensures.sees c.loop-column.invariant.row
    c.look.ensures.after c.look.ensures.form c.look.ensures.grown

pub loop-column-smaller : goal.loop-column-smaller
loop-column-smaller g c =
    let inner : c.loop-column.column + 1 < c.loop-column.self-inside.bases.columns =
    omega (arith, c.loop-column.invariant.columns, c.if-column-columns.false) in
    (look_on c.args.self.now (at_column c.loop-column.self-inside c.loop-column.column) c.look.new.self _
    c.look-word.result c.loop-column.invariant.on (known g (goal.at.loop-column-smaller g c).After-look)
    inner).1.done.fewer

pub loop-column-preserved : goal.loop-column-preserved
loop-column-preserved g c =
    let inner : c.loop-column.column + 1 < c.loop-column.self-inside.bases.columns =
    omega (arith, c.loop-column.invariant.columns, c.if-column-columns.false) in
    let next = look_on c.args.self.now (at_column c.loop-column.self-inside c.loop-column.column)
    c.look.new.self _ c.look-word.result c.loop-column.invariant.on
    (known g (goal.at.loop-column-preserved g c).After-look) inner in
    record {
      home = c.look-word.ensures.home;
      came = subst (g.A.Access.came c.args.access.now c.args.self.now c.look-word.new.self)
          (sym next.1.after) (c.look-word.ensures.came _ _ c.loop-column.invariant.came);
      on = next.0;
      row = c.loop-column.invariant.row;
      behind = omega (arith, c.loop-column.invariant.behind);
      columns = c.loop-column.invariant.columns;
    }

pub wait_for-requires : goal.wait_for-requires
wait_for-requires g c =
    let t = look_takes (at_column c.loop-column.self-inside c.loop-column.column) _ c.look-word.result
    c.loop-column.invariant.on.inside c.look-word.ensures.sees c.loop-column.invariant.row in
    look_row_stays _ c.look.new.self _ _ c.look-word.result t c.look.ensures.after

pub leave_row-requires-clause-place : goal.leave_row-requires-clause-place
leave_row-requires-clause-place g c =
    stale_in (at_column c.loop-column.self-inside c.loop-column.column) c.look.new.self _
    c.loop-column.invariant.on.inside (ap (λ (r : Replica). r.roster) c.look.ensures.after)
    (ap (λ (r : Replica). r.window) c.look.ensures.after) c.loop-column.invariant.behind

pub leave_row-requires-clause-underway : goal.leave_row-requires-clause-underway
leave_row-requires-clause-underway g c =
    let a = at_column c.loop-column.self-inside c.loop-column.column in
    let l = known g (goal.at.leave_row-requires-clause-underway g c).After-look in
    look_left a.replica c.look.new.self a.fate a.place c.look-word.result c.wait_for.new.patience l
    (was_waited a c.look.new.self _ c.look-word.result c.wait_for.new.patience c.loop-column.invariant.on.inside l
    (omega (arith, c.if-column-columns.true, c.loop-column.invariant.columns))
    c.loop-column.invariant.row c.wait_for.ensures.after)

pub leave_row-requires-clause-inside : goal.leave_row-requires-clause-inside
leave_row-requires-clause-inside g c =
    let a = at_column c.loop-column.self-inside c.loop-column.column in
    looked_inside a.replica c.look.new.self a.fate a.place c.look-word.result
    (known g (goal.at.leave_row-requires-clause-inside g c).After-look)

pub leave_row-requires-clause-fate : goal.leave_row-requires-clause-fate
leave_row-requires-clause-fate g c =
    looked_row_timely (at_column c.loop-column.self-inside c.loop-column.column) c.look.new.self _ _
    c.look-word.result c.wait_for.new.patience c.loop-column.invariant.on.inside c.look.ensures.after

-- and left
left : (g : Over) (c : goal.After-leave_row g) → HasLeft c.look-word.result c.args.self.now
    (member_inside (at_column c.loop-column.self-inside c.loop-column.column)) (record c.loop-column.self-inside {
      replica = c.look.new.self;
      place = c.leave_row.new.place;
      fate = waited c.loop-column.self-inside.fate c.wait_for.new.patience;
      ready = c.leave_row.new.ready;
    })
left g c =
    let a = at_column c.loop-column.self-inside c.loop-column.column in
    let is = c.loop-column.invariant.on in
    let l = saw a c.look.new.self _ c.look-word.result is.inside c.look-word.ensures.sees
    c.loop-column.invariant.row c.look.ensures.after c.look.ensures.form c.look.ensures.grown in
    looks_end c.args.self.now a c.look.new.self c.leave_row.new.place _ c.look-word.result
    c.leave_row.new.ready c.wait_for.new.patience is l
    (was_waited a c.look.new.self _ c.look-word.result c.wait_for.new.patience is.inside l
    (omega (arith, c.if-column-columns.true, c.loop-column.invariant.columns)) c.loop-column.invariant.row
    c.wait_for.ensures.after) c.leave_row.ensures.place c.leave_row.ensures.ready

pub invariant_of-self : goal.invariant_of-self
invariant_of-self g c = (left g c).inside

pub returns-clause-came : goal.returns-clause-came
returns-clause-came g c = subst (g.A.Access.came c.args.access.now c.args.self.now c.look-word.new.self)
    (sym (left g c).answer.after) (c.look-word.ensures.came _ _ c.loop-column.invariant.came)

pub returns-clause-form : goal.returns-clause-form
returns-clause-form g c = (left g c).answer.form

pub returns-clause-grown : goal.returns-clause-grown
returns-clause-grown g c = λ same. (left g c).grown

pub returns-clause-falls : goal.returns-clause-falls
returns-clause-falls g c = (left g c).falls

pub returns-clause-keeps : goal.returns-clause-keeps
returns-clause-keeps g c = (left g c).still
