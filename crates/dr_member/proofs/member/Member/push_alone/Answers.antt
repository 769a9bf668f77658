use Rattle.std.proofs.Common.{◌+◌, ◌-◌, ◌^◌, min, sym, ap, subst, ◌∙◌, slice_set, arith}
use Rattle.dr_entry.proofs.OptionFacts.{no_value}
use Rattle.dr_program.specs.Program.{next_sight}
use Rattle.dr_member.proofs.Alone.{HasComeAlone, columns_here, push_stores, push_sweeps, pushes_done, pushes_fit}
use Rattle.dr_member.proofs.Moves.{counted}
use Rattle.dr_member.proofs.member.Member.push_alone.Goals as goal

pub bounds-table-first : goal.bounds-table-first
bounds-table-first c =
    let fit = pushes_fit c.args.table.now c.args.self.now c.push_index-first.result c.self.inside c.self.view_is
    c.self.invariant c.requires.deed c.push_index-first.ensures.index c.requires.size in
    omega (
      arith,
      fit.within,
      fit.column,
      columns_here c.self.inside c.self.invariant,
      c.self.invariant.form.replica.columns,
    )

pub returns-then-is_some-clause-taken : goal.returns-then-is_some-clause-taken
returns-then-is_some-clause-taken c = (
  1,
  (
    push_sweeps c.args.self.now c.requires.deed,
    (
      push_stores c.args.table.now c.args.self.now c.push_index-first.result c.self.inside c.self.view_is
          c.self.invariant c.requires.deed c.push_index-first.ensures.index ∙ ap (slice_set c.args.table.now
          (c.push_index-first.result + c.self.inside.place.column)) (sym c.own.ensures),
      sym (c.pushed.ensures.after (next_sight c.args.table.now c.args.self.now)),
    ),
  ),
)

pub push_row-count-requires-clause-within : goal.push_row-count-requires-clause-within
push_row-count-requires-clause-within c =
    (pushes_fit c.args.table.now c.args.self.now c.push_index-first.result c.self.inside c.self.view_is
    c.self.invariant c.requires.deed c.push_index-first.ensures.index c.requires.size).within

pub leave_row-requires-clause-underway : goal.leave_row-requires-clause-underway
leave_row-requires-clause-underway c =
    (pushes_done c.args.table.now c.args.self.now c.push_index-first.result c.self.inside
    c.push_row-count.new.self c.saturating_add-self-inside.result (record {
      view = c.self.view_is;
      inside = c.self.invariant;
      due = c.requires.deed;
      begins = c.push_index-first.ensures.index;
      safe = no_value c.self.inside.fate.crash (sym c.is_some.ensures ∙ c.if-is_some.false);
    }) c.push_row-count.ensures.after.0
    (c.saturating_add-self-inside.ensures
    ∙ ap (λ n. min (c.self.inside.fate.pushes + n) (2 ^ 32 - 1)) c.push_row-count.ensures.after.2)).underway

pub leave_row-requires-clause-inside : goal.leave_row-requires-clause-inside
leave_row-requires-clause-inside c =
    (pushes_done c.args.table.now c.args.self.now c.push_index-first.result c.self.inside
    c.push_row-count.new.self c.saturating_add-self-inside.result (record {
      view = c.self.view_is;
      inside = c.self.invariant;
      due = c.requires.deed;
      begins = c.push_index-first.ensures.index;
      safe = no_value c.self.inside.fate.crash (sym c.is_some.ensures ∙ c.if-is_some.false);
    }) c.push_row-count.ensures.after.0
    (c.saturating_add-self-inside.ensures
    ∙ ap (λ n. min (c.self.inside.fate.pushes + n) (2 ^ 32 - 1)) c.push_row-count.ensures.after.2)).inside

-- it has left the row
left : (c : goal.After-leave_row) → HasComeAlone c.args.table.now c.args.self.now c.push_row-count.new.table
    (record c.self.inside {
      replica = c.push_row-count.new.self;
      place = c.leave_row.new.place;
      fate = counted c.self.inside.fate c.saturating_add-self-inside.result;
      ready = c.leave_row.new.ready;
    })
left c = subst (λ cells. HasComeAlone c.args.table.now c.args.self.now cells (record c.self.inside {
  replica = c.push_row-count.new.self;
  place = c.leave_row.new.place;
  fate = counted c.self.inside.fate c.saturating_add-self-inside.result;
  ready = c.leave_row.new.ready;
})) (sym c.push_row-count.ensures.after.1)
    ((pushes_done c.args.table.now c.args.self.now c.push_index-first.result c.self.inside
    c.push_row-count.new.self c.saturating_add-self-inside.result (record {
      view = c.self.view_is;
      inside = c.self.invariant;
      due = c.requires.deed;
      begins = c.push_index-first.ensures.index;
      safe = no_value c.self.inside.fate.crash (sym c.is_some.ensures ∙ c.if-is_some.false);
    }) c.push_row-count.ensures.after.0
    (c.saturating_add-self-inside.ensures
    ∙ ap (λ n. min (c.self.inside.fate.pushes + n) (2 ^ 32 - 1)) c.push_row-count.ensures.after.2)).left
    c.leave_row.new.place c.leave_row.new.ready c.leave_row.ensures.place c.leave_row.ensures.ready)

pub invariant_of-self : goal.invariant_of-self
invariant_of-self c = (left c).inside

pub returns-clause-taken : goal.returns-clause-taken
returns-clause-taken c = (left c).taken

pub returns-clause-form : goal.returns-clause-form
returns-clause-form c = (left c).form

pub returns-clause-falls : goal.returns-clause-falls
returns-clause-falls c = (left c).falls

pub returns-clause-keeps : goal.returns-clause-keeps
returns-clause-keeps c = (left c).still
