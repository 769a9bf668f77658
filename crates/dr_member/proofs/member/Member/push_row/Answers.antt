use Rattle.std.proofs.Common.{◌≡◌, ◌+◌, ◌<◌, ◌≤◌, refl, sym, ap, ◌∙◌, subst, arith}
use Rattle.dr_rows.specs.Words.{changed, own}
use Rattle.dr_words.specs.Columns.{columns_of}
use Rattle.dr_program.specs.declared.deed.Deed.TheVariants.{Push}
use Rattle.dr_member.{specs.{Inside.member_inside, Search.standing}, proofs.Indices.columns_after}
use Rattle.dr_member.proofs.Moves.{IsPushed, counted, push_left, pushed_behind, pushed_inside, pushed_timely, pushed_within}
use Rattle.dr_member.proofs.{Ready.elsewhere, member.Member.push_row.{Given.Over, Goals.After-next_changed-column}}
use Rattle.dr_member.proofs.Sweeps.{HasLeft, IsOnRow, at_column, push_index, push_on, push_row_stays, pushed_from, pushes_begin, pushes_end, wrote}
use Rattle.dr_program.specs.declared.place.Part.TheVariants as parts
use Rattle.dr_turn.proofs.Works.{IsAnswer}
use Rattle.dr_member.proofs.member.Member.push_row.Goals as goal

pub loop-column-init : goal.loop-column-init
loop-column-init g c = record {
  home = c.requires.home;
  came = subst (g.A.Access.came c.args.access.now c.args.self.now c.args.access.now)
      (sym c.self.view_is) c.requires.came;
  on = pushes_begin c.args.self.now c.self.inside c.push_index-first.result c.self.view_is c.self.invariant
      c.requires.deed c.push_index-first.ensures.index;
  row = refl;
  behind = omega arith;
  columns = refl;
}

pub overflow_add-first : goal.overflow_add-first
overflow_add-first g c =
    let is = push_index c.args.self.now (at_column c.loop-column.self-inside c.loop-column.column) _ _
    c.loop-column.invariant.on in
    omega (arith, is.small)

pub push-requires-clause-within : goal.push-requires-clause-within
push-requires-clause-within g c =
    let is = push_index c.args.self.now (at_column c.loop-column.self-inside c.loop-column.column) _ _
    c.loop-column.invariant.on in
    omega (arith, is.index, is.within)

pub next_changed-column-requires-clause-columns : goal.next_changed-column-requires-clause-columns
next_changed-column-requires-clause-columns g c = sym c.loop-column.invariant.columns
    ∙ columns_after (at_column c.loop-column.self-inside c.loop-column.column)
    c.push-in-loop-column.new.self _ c.loop-column.invariant.on.inside c.push-in-loop-column.ensures.after refl

pub next_changed-column-requires-clause-to : goal.next_changed-column-requires-clause-to
next_changed-column-requires-clause-to g c =
    push_row_stays c.args.self.now (at_column c.loop-column.self-inside c.loop-column.column)
    c.push-in-loop-column.new.self _ _ _ c.loop-column.invariant.on c.loop-column.invariant.row
    c.push-in-loop-column.ensures.after

pub next_changed-column-requires-clause-from : goal.next_changed-column-requires-clause-from
next_changed-column-requires-clause-from g c =
    pushed_from c.args.self.now (at_column c.loop-column.self-inside c.loop-column.column)
    c.push-in-loop-column.new.self _ _ _ c.loop-column.invariant.on c.push-in-loop-column.ensures.after

-- the push was done
known : (g : Over) (c : After-next_changed-column g)
    → IsPushed c.loop-column.self-inside.replica c.push-in-loop-column.new.self c.loop-column.self-inside.fate
    (record c.loop-column.self-inside.place { column = c.loop-column.column })
    c.saturating_add-self-inside.result c.next_changed-column.result
known g c =
    let a = at_column c.loop-column.self-inside c.loop-column.column in
    wrote c.args.self.now a c.push-in-loop-column.new.self _ _ _ c.saturating_add-self-inside.result
    c.next_changed-column.result c.loop-column.invariant.on c.loop-column.invariant.row
    c.push-in-loop-column.ensures.after c.push-in-loop-column.ensures.form
    c.push-in-loop-column.ensures.grown c.saturating_add-self-inside.ensures
    c.next_changed-column.ensures.unchanged c.next_changed-column.ensures.from c.next_changed-column.ensures.within

-- the columns of its row
columns : (g : Over) (c : After-next_changed-column g) → c.self.inside.bases.columns
    ≡ columns_of c.push-in-loop-column.new.self.roster c.push-in-loop-column.new.self.window
columns g c = sym c.loop-column.invariant.columns
    ∙ columns_after (at_column c.loop-column.self-inside c.loop-column.column)
    c.push-in-loop-column.new.self _ c.loop-column.invariant.on.inside c.push-in-loop-column.ensures.after refl

-- and it stays on the row
stays : (g : Over) (c : goal.Else-crashes_now g)
    → IsPushed c.loop-column.self-inside.replica c.push-in-loop-column.new.self c.loop-column.self-inside.fate
    (record c.loop-column.self-inside.place { column = c.loop-column.column })
    c.saturating_add-self-inside.result c.next_changed-column.result
    → IsOnRow (Push (c.push_index-first.result + c.next_changed-column.result)
    (own c.push-in-loop-column.new.self.rows c.next_changed-column.result)) c.args.self.now
    (record c.loop-column.self-inside {
      replica = c.push-in-loop-column.new.self;
      fate = counted c.loop-column.self-inside.fate c.saturating_add-self-inside.result;
      place = record c.loop-column.self-inside.place { column = c.next_changed-column.result };
    }) × IsAnswer 0 (member_inside (at_column c.loop-column.self-inside c.loop-column.column))
    (standing c.push-in-loop-column.new.self
    (counted c.loop-column.self-inside.fate c.saturating_add-self-inside.result)
    (record c.loop-column.self-inside.place { column = c.next_changed-column.result }))
stays g c l =
    let a = at_column c.loop-column.self-inside c.loop-column.column in
    let within : c.next_changed-column.result < c.loop-column.self-inside.bases.columns =
    omega (arith, c.if-column-columns.false, c.loop-column.invariant.columns) in
    let later = sym (c.crashes_now.ensures c.push-in-loop-column.new.self
    (record a.place { column = c.next_changed-column.result })
    (pushed_timely a.replica c.push-in-loop-column.new.self a.fate a.place _ _ l)) ∙ c.if-crashes_now.false in
    push_on c.args.self.now a c.push-in-loop-column.new.self _ _ _ c.loop-column.invariant.on l within
    (λ inner. ap (λ i. changed c.push-in-loop-column.new.self.rows i c.next_changed-column.result)
    c.loop-column.invariant.row ∙ c.next_changed-column.ensures.changed inner) later

pub loop-column-smaller : goal.loop-column-smaller
loop-column-smaller g c =
    (stays g c (known g (goal.at.loop-column-smaller g c).After-next_changed-column)).1.done.fewer

pub loop-column-preserved : goal.loop-column-preserved
loop-column-preserved g c =
    let next = stays g c (known g (goal.at.loop-column-preserved g c).After-next_changed-column) in
    record {
      home = c.push.ensures.home;
      came = subst (g.A.Access.came c.args.access.now c.args.self.now c.push.new.self)
          (sym next.1.after) (c.push.ensures.came _ _ c.loop-column.invariant.came);
      on = next.0;
      row = c.loop-column.invariant.row;
      behind = omega (arith, c.loop-column.invariant.behind, c.next_changed-column.ensures.from);
      columns = c.loop-column.invariant.columns;
    }

pub leave_row-requires-clause-underway : goal.leave_row-requires-clause-underway
leave_row-requires-clause-underway g c =
    let at = (goal.at.leave_row-requires-clause-underway g c).After-next_changed-column in
    let a = at_column c.loop-column.self-inside c.loop-column.column in
    push_left a.replica c.push-in-loop-column.new.self a.fate a.place _ _ (known g at)
    (omega (arith, c.if-column-columns.true, columns g at))

pub leave_row-requires-clause-inside : goal.leave_row-requires-clause-inside
leave_row-requires-clause-inside g c =
    let at = (goal.at.leave_row-requires-clause-inside g c).After-next_changed-column in
    let a = at_column c.loop-column.self-inside c.loop-column.column in
    pushed_inside a.replica c.push-in-loop-column.new.self a.fate a.place _ _ (known g at)

pub leave_row-requires-clause-fate : goal.leave_row-requires-clause-fate
leave_row-requires-clause-fate g c =
    let at = (goal.at.leave_row-requires-clause-fate g c).After-next_changed-column in
    let a = at_column c.loop-column.self-inside c.loop-column.column in
    pushed_timely a.replica c.push-in-loop-column.new.self a.fate a.place _ _ (known g at)

-- behind the last changed column it left the row
left : (g : Over) (c : goal.After-leave_row g)
    → HasLeft 0 c.args.self.now (member_inside (at_column c.loop-column.self-inside c.loop-column.column))
    (record c.loop-column.self-inside {
      replica = c.push-in-loop-column.new.self;
      place = c.leave_row.new.place;
      fate = counted c.loop-column.self-inside.fate c.saturating_add-self-inside.result;
      ready = c.leave_row.new.ready;
    })
left g c =
    let a = at_column c.loop-column.self-inside c.loop-column.column in
    let l = wrote c.args.self.now a c.push-in-loop-column.new.self _ _ _ c.saturating_add-self-inside.result
    c.next_changed-column.result c.loop-column.invariant.on c.loop-column.invariant.row
    c.push-in-loop-column.ensures.after c.push-in-loop-column.ensures.form
    c.push-in-loop-column.ensures.grown c.saturating_add-self-inside.ensures
    c.next_changed-column.ensures.unchanged c.next_changed-column.ensures.from c.next_changed-column.ensures.within in
    let outer : columns_of c.push-in-loop-column.new.self.roster c.push-in-loop-column.new.self.window
    ≤ c.next_changed-column.result = omega (
      arith,
      c.if-column-columns.true,
      c.loop-column.invariant.columns,
      columns_after a c.push-in-loop-column.new.self _ c.loop-column.invariant.on.inside
          c.push-in-loop-column.ensures.after refl,
    ) in
    pushes_end c.args.self.now a c.push-in-loop-column.new.self c.leave_row.new.place _ _ _ _
    c.leave_row.new.ready c.loop-column.invariant.on l
    (pushed_behind (member_inside a) a.replica c.push-in-loop-column.new.self a.fate a.place c.leave_row.new.place
    _ _ 0 refl l outer c.leave_row.ensures.place) c.leave_row.ensures.ready

-- before its crash it stands at the next one
crashes : (g : Over) (c : goal.After-self-then-crashes_now-1 g)
    → HasLeft 0 c.args.self.now (member_inside (at_column c.loop-column.self-inside c.loop-column.column))
    (record c.loop-column.self-inside {
      replica = c.push-in-loop-column.new.self;
      place = record c.loop-column.self-inside.place { column = c.next_changed-column.result };
      fate = counted c.loop-column.self-inside.fate c.saturating_add-self-inside.result;
    })
crashes g c =
    let a = at_column c.loop-column.self-inside c.loop-column.column in
    let l = wrote c.args.self.now a c.push-in-loop-column.new.self _ _ _ c.saturating_add-self-inside.result
    c.next_changed-column.result c.loop-column.invariant.on c.loop-column.invariant.row
    c.push-in-loop-column.ensures.after c.push-in-loop-column.ensures.form
    c.push-in-loop-column.ensures.grown c.saturating_add-self-inside.ensures
    c.next_changed-column.ensures.unchanged c.next_changed-column.ensures.from c.next_changed-column.ensures.within in
    let inner : c.next_changed-column.result
    < columns_of c.push-in-loop-column.new.self.roster c.push-in-loop-column.new.self.window = omega (
      arith,
      c.if-column-columns.false,
      c.loop-column.invariant.columns,
      columns_after a c.push-in-loop-column.new.self _ c.loop-column.invariant.on.inside
          c.push-in-loop-column.ensures.after refl,
    ) in
    pushes_end c.args.self.now a c.push-in-loop-column.new.self _ _ _ _ _ a.ready c.loop-column.invariant.on l
    (pushed_within (member_inside a) a.replica c.push-in-loop-column.new.self a.fate a.place _ _ 0 refl l inner
    (ap (λ i. changed c.push-in-loop-column.new.self.rows i c.next_changed-column.result)
    c.loop-column.invariant.row ∙ c.next_changed-column.ensures.changed inner))
    (elsewhere c.push-in-loop-column.new.self (record a.place { column = c.next_changed-column.result })
    parts.Push a.ready l.due.at refl)

pub invariant_of-self : goal.invariant_of-self
invariant_of-self g c = (left g c).inside

pub returns-then-column-columns-clause-came : goal.returns-then-column-columns-clause-came
returns-then-column-columns-clause-came g c =
    subst (g.A.Access.came c.args.access.now c.args.self.now c.push.new.self)
    (sym (left g c).answer.after) (c.push.ensures.came _ _ c.loop-column.invariant.came)

pub returns-then-column-columns-clause-form : goal.returns-then-column-columns-clause-form
returns-then-column-columns-clause-form g c = (left g c).answer.form

pub returns-then-column-columns-clause-falls : goal.returns-then-column-columns-clause-falls
returns-then-column-columns-clause-falls g c = (left g c).falls

pub returns-then-column-columns-clause-keeps : goal.returns-then-column-columns-clause-keeps
returns-then-column-columns-clause-keeps g c = (left g c).still

pub invariant_of-self-then-crashes_now : goal.invariant_of-self-then-crashes_now
invariant_of-self-then-crashes_now g c = (crashes g c).inside

pub returns-then-crashes_now-clause-came : goal.returns-then-crashes_now-clause-came
returns-then-crashes_now-clause-came g c = subst (g.A.Access.came c.args.access.now c.args.self.now c.push.new.self)
    (sym (crashes g c).answer.after) (c.push.ensures.came _ _ c.loop-column.invariant.came)

pub returns-then-crashes_now-clause-form : goal.returns-then-crashes_now-clause-form
returns-then-crashes_now-clause-form g c = (crashes g c).answer.form

pub returns-then-crashes_now-clause-falls : goal.returns-then-crashes_now-clause-falls
returns-then-crashes_now-clause-falls g c = (crashes g c).falls

pub returns-then-crashes_now-clause-keeps : goal.returns-then-crashes_now-clause-keeps
returns-then-crashes_now-clause-keeps g c = (crashes g c).still
