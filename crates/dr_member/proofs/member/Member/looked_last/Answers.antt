use Rattle.std.proofs.Common.{refl, sym, subst, ◌+◌, ◌≤◌, arith}
use Rattle.dr_program.specs.Running.{Running, columns}
use Rattle.dr_member.{specs.{Inside.member_inside, Search.standing}, proofs.Alone.columns_here}
use Rattle.dr_member.proofs.Indices.{columns_after}
use Rattle.dr_member.proofs.Moves.{IsLooked, IsWaited, inside_after, is_looked, look_due_at, look_left, looked_inside, looked_past, looked_row_timely, waited}
use Rattle.dr_turn.proofs.Works.{IsAnswer}
use Rattle.dr_member.proofs.member.Member.looked_last.Goals as goal

known_past : (c : goal.After-leave_row-arg-4-1)
    → IsLooked c.self.inside.replica c.look.new.self c.self.inside.fate c.self.inside.place c.args.word
known_past c = is_looked c.args.self.now c.self.inside c.look.new.self c.args.word
    c.self.view_is c.self.invariant c.requires.sees c.look.ensures.after c.look.ensures.form c.look.ensures.grown

outer : (c : goal.After-leave_row-arg-4-1)
    → IsWaited c.look.new.self c.self.inside.fate c.self.inside.place c.wait_for.new.patience
outer c = record {
  past = omega (
    arith,
    last,
    columns_here c.self.inside c.self.invariant,
    columns_after c.self.inside c.look.new.self _ c.self.invariant c.look.ensures.after refl,
  );
  waits = c.wait_for.ensures.after;
}
  where
    last : columns (member_inside c.self.inside) ≤ c.self.inside.place.column + 1
    last = subst (λ (r : Running). columns r ≤ r.place.column + 1) (sym c.self.view_is) c.requires.last

past : (c : goal.After-leave_row) → IsAnswer c.args.word c.args.self.now (standing c.look.new.self
    (waited c.self.inside.fate c.wait_for.new.patience) c.leave_row.new.place)
past c = looked_past c.args.self.now c.self.inside.replica c.look.new.self c.self.inside.fate
    c.self.inside.place c.leave_row.new.place c.args.word c.wait_for.new.patience c.self.view_is
    (known_past c.before) (outer c.before) c.leave_row.ensures.place

pub look-requires-clause-in_form : goal.look-requires-clause-in_form
look-requires-clause-in_form c =
    (look_due_at c.args.self.now c.self.inside c.args.word c.self.view_is c.self.invariant c.requires.sees).seen.form

pub look-requires-clause-grown : goal.look-requires-clause-grown
look-requires-clause-grown c =
    (look_due_at c.args.self.now c.self.inside c.args.word c.self.view_is c.self.invariant c.requires.sees).seen.grown

pub leave_row-requires-clause-underway : goal.leave_row-requires-clause-underway
leave_row-requires-clause-underway c =
    look_left c.self.inside.replica c.look.new.self c.self.inside.fate c.self.inside.place
    c.args.word c.wait_for.new.patience (known_past c) (outer c)

pub leave_row-requires-clause-inside : goal.leave_row-requires-clause-inside
leave_row-requires-clause-inside c = looked_inside c.self.inside.replica c.look.new.self
    c.self.inside.fate c.self.inside.place c.args.word (known_past c)

pub leave_row-requires-clause-fate : goal.leave_row-requires-clause-fate
leave_row-requires-clause-fate c =
    looked_row_timely c.self.inside c.look.new.self _ _ c.args.word c.wait_for.new.patience
    c.self.invariant c.look.ensures.after

pub invariant_of-self : goal.invariant_of-self
invariant_of-self c = inside_after c.self.inside c.look.new.self _
    (waited c.self.inside.fate c.wait_for.new.patience) c.leave_row.new.place c.leave_row.new.ready
    c.self.invariant c.look.ensures.after refl (past c).form
    (looked_row_timely c.self.inside c.look.new.self _ _ c.args.word
    c.wait_for.new.patience c.self.invariant c.look.ensures.after) refl c.leave_row.ensures.ready

pub returns-clause-after : goal.returns-clause-after
returns-clause-after c = (past c).after

pub returns-clause-form : goal.returns-clause-form
returns-clause-form c = (past c).form

pub returns-clause-falls : goal.returns-clause-falls
returns-clause-falls c = (past c).done.fewer

pub returns-clause-keeps : goal.returns-clause-keeps
returns-clause-keeps c = (past c).done.still
