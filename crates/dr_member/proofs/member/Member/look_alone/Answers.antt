use Rattle.std.proofs.Common.{arith}
use Rattle.dr_entry.proofs.NumberFacts.{untrue}
use Rattle.dr_member.proofs.Alone.{AsksOfLooks, HasComeAlone, IsBehindRow, IsLooking, columns_here, looks_asked, looks_done, looks_fit}
use Rattle.dr_member.proofs.Moves.{waited}
use Rattle.dr_member.proofs.member.Member.look_alone.Goals as goal

looking : (c : goal.After-look_row-arg-1)
    → IsLooking c.args.table.now c.args.self.now c.look_index-first.result c.self.inside
looking c = record {
  view = c.self.view_is;
  inside = c.self.invariant;
  due = c.requires.deed;
  begins = c.look_index-first.ensures.index;
  sees = c.requires.sight;
}

asked : (c : goal.After-look_row-arg-1) → AsksOfLooks c.args.table.now c.look_index-first.result c.self.inside
asked c = looks_asked c.args.table.now c.args.self.now c.look_index-first.result c.self.inside (looking c)

pub look_row-requires-clause-row : goal.look_row-requires-clause-row
look_row-requires-clause-row c = (asked c).row

pub look_row-requires-clause-other : goal.look_row-requires-clause-other
look_row-requires-clause-other c = (asked c).other

pub look_row-requires-clause-unsuspected : goal.look_row-requires-clause-unsuspected
look_row-requires-clause-unsuspected c = untrue _ _ (asked c).may

pub look_row-requires-clause-from : goal.look_row-requires-clause-from
look_row-requires-clause-from c = omega (
  arith,
  (asked c).column,
  columns_here c.self.inside c.self.invariant,
  c.self.invariant.form.replica.columns,
)

pub look_row-requires-clause-within : goal.look_row-requires-clause-within
look_row-requires-clause-within c = looks_fit c.args.table.now c.args.self.now c.look_index-first.result
    c.self.inside (looking c) c.requires.size

pub look_row-requires-clause-in_form : goal.look_row-requires-clause-in_form
look_row-requires-clause-in_form c = λ d l h. (asked c).in_form d l (omega (
  arith,
  h,
  columns_here c.self.inside c.self.invariant,
  c.self.invariant.form.replica.columns,
))

pub look_row-requires-clause-grown : goal.look_row-requires-clause-grown
look_row-requires-clause-grown c = λ d l h. (asked c).grown d l (omega (
  arith,
  h,
  columns_here c.self.inside c.self.invariant,
  c.self.invariant.form.replica.columns,
))

-- it stands behind the row
behind : (c : goal.After-leave_row-arg-4-1) → IsBehindRow c.args.table.now c.args.self.now c.self.inside c.args.table.now
    c.look_row.new.self (waited c.self.inside.fate c.wait_for.new.patience)
behind c = looks_done c.args.table.now c.args.self.now c.look_index-first.result c.self.inside
    c.look_row.new.self c.wait_for.new.patience (record {
      view = c.self.view_is;
      inside = c.self.invariant;
      due = c.requires.deed;
      begins = c.look_index-first.ensures.index;
      sees = c.requires.sight;
    }) c.look_row.ensures.after c.wait_for.ensures.after

pub leave_row-requires-clause-place : goal.leave_row-requires-clause-place
leave_row-requires-clause-place c = (behind c).place

pub leave_row-requires-clause-underway : goal.leave_row-requires-clause-underway
leave_row-requires-clause-underway c = (behind c).underway

pub leave_row-requires-clause-inside : goal.leave_row-requires-clause-inside
leave_row-requires-clause-inside c = (behind c).inside

pub leave_row-requires-clause-fate : goal.leave_row-requires-clause-fate
leave_row-requires-clause-fate c = (behind c).timely

-- and has left it
left : (c : goal.After-leave_row) → HasComeAlone c.args.table.now c.args.self.now c.args.table.now
    (record c.self.inside {
      replica = c.look_row.new.self;
      place = c.leave_row.new.place;
      fate = waited c.self.inside.fate c.wait_for.new.patience;
      ready = c.leave_row.new.ready;
    })
left c = (looks_done c.args.table.now c.args.self.now c.look_index-first.result c.self.inside
    c.look_row.new.self c.wait_for.new.patience (record {
      view = c.self.view_is;
      inside = c.self.invariant;
      due = c.requires.deed;
      begins = c.look_index-first.ensures.index;
      sees = c.requires.sight;
    }) c.look_row.ensures.after c.wait_for.ensures.after).left c.leave_row.new.place c.leave_row.new.ready
    c.leave_row.ensures.place c.leave_row.ensures.ready

pub invariant_of-self : goal.invariant_of-self
invariant_of-self c = (left c).inside

pub returns-clause-taken : goal.returns-clause-taken
returns-clause-taken c = (left c).taken

pub returns-clause-form : goal.returns-clause-form
returns-clause-form c = (left c).form

pub returns-clause-grown : goal.returns-clause-grown
returns-clause-grown c = λ same. (left c).grown

pub returns-clause-falls : goal.returns-clause-falls
returns-clause-falls c = (left c).falls

pub returns-clause-keeps : goal.returns-clause-keeps
returns-clause-keeps c = (left c).still
