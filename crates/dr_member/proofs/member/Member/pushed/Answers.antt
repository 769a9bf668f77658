use Rattle.std.proofs.Common.{refl, sym, subst, ◌∙◌, ℕ, ◌<◌, ◌≤◌, arith}
use Rattle.dr_words.specs.Columns.{columns_of}
use Rattle.dr_program.{specs.Replica.Replica, proofs.Replicas.changed_behind}
use Rattle.dr_member.{specs.Search.standing, proofs.{Alone.columns_here, Indices.columns_after, Ready.elsewhere}}
use Rattle.dr_member.proofs.Moves.{IsPushed, counted, inside_after, is_pushed, push_left, pushed_behind, pushed_inside, pushed_timely, pushed_within}
use Rattle.dr_program.specs.declared.place.Part.TheVariants as parts
use Rattle.dr_turn.proofs.Works.{IsAnswer}
use Rattle.dr_member.proofs.member.Member.pushed.Goals as goal

known : (c : goal.After-self-then-next-columns-1)
    → IsPushed c.self.inside.replica c.push.new.self c.self.inside.fate c.self.inside.place
    c.saturating_add-self-inside.result c.next_changed-next.result
known c = is_pushed c.args.self.now c.self.inside c.push.new.self c.saturating_add-self-inside.result
    c.next_changed-next.result c.self.view_is c.self.invariant c.requires
    c.push.ensures.after c.push.ensures.form c.push.ensures.grown c.saturating_add-self-inside.ensures
    (λ x above within. changed_behind c.self.inside.replica c.push.new.self _ _ x c.push.ensures.after above
    ∙ c.next_changed-next.ensures.unchanged x above within)
    c.next_changed-next.ensures.from (subst (λ (r : Replica). c.next_changed-next.result ≤ columns_of r.roster r.window)
    (sym c.push.ensures.after) c.next_changed-next.ensures.within)

next : (c : goal.After-self-then-next-columns-1) (word : ℕ) → IsAnswer word c.args.self.now
    (standing c.push.new.self (counted c.self.inside.fate c.saturating_add-self-inside.result)
    (record c.self.inside.place { column = c.next_changed-next.result }))
next c word = pushed_within c.args.self.now c.self.inside.replica c.push.new.self c.self.inside.fate
    c.self.inside.place c.saturating_add-self-inside.result c.next_changed-next.result word c.self.view_is (known c)
    within (changed_behind c.self.inside.replica c.push.new.self _ _ c.next_changed-next.result
    c.push.ensures.after c.next_changed-next.ensures.from ∙ c.next_changed-next.ensures.changed
    (omega (arith, c.if-next-columns.true, columns_here c.self.inside c.self.invariant)))
  where
    within : c.next_changed-next.result < columns_of c.push.new.self.roster c.push.new.self.window
    within = omega (
      arith,
      c.if-next-columns.true,
      columns_after c.self.inside c.push.new.self _ c.self.invariant c.push.ensures.after refl,
    )

known_past : (c : goal.After-leave_row-arg-else-next-columns-3-1)
    → IsPushed c.self.inside.replica c.push.new.self c.self.inside.fate c.self.inside.place
    c.saturating_add-self-inside.result c.next_changed-next.result
known_past c = is_pushed c.args.self.now c.self.inside c.push.new.self c.saturating_add-self-inside.result
    c.next_changed-next.result c.self.view_is c.self.invariant c.requires
    c.push.ensures.after c.push.ensures.form c.push.ensures.grown c.saturating_add-self-inside.ensures
    (λ x above within. changed_behind c.self.inside.replica c.push.new.self _ _ x c.push.ensures.after above
    ∙ c.next_changed-next.ensures.unchanged x above within)
    c.next_changed-next.ensures.from (subst (λ (r : Replica). c.next_changed-next.result ≤ columns_of r.roster r.window)
    (sym c.push.ensures.after) c.next_changed-next.ensures.within)

outer : (c : goal.After-leave_row-arg-else-next-columns-3-1)
    → columns_of c.push.new.self.roster c.push.new.self.window ≤ c.next_changed-next.result
outer c = omega (
  arith,
  c.if-next-columns.false,
  columns_after c.self.inside c.push.new.self _ c.self.invariant c.push.ensures.after refl,
)

past : (c : goal.After-leave_row) (word : ℕ) → IsAnswer word c.args.self.now
    (standing c.push.new.self (counted c.self.inside.fate c.saturating_add-self-inside.result) c.leave_row.new.place)
past c word = pushed_behind c.args.self.now c.self.inside.replica c.push.new.self c.self.inside.fate
    c.self.inside.place c.leave_row.new.place c.saturating_add-self-inside.result c.next_changed-next.result
    word c.self.view_is (known_past c.before) (outer c.before) c.leave_row.ensures.place

pub next_changed-next-requires-clause-columns : goal.next_changed-next-requires-clause-columns
next_changed-next-requires-clause-columns c = columns_here c.self.inside c.self.invariant

pub leave_row-requires-clause-underway : goal.leave_row-requires-clause-underway
leave_row-requires-clause-underway c =
    push_left c.self.inside.replica c.push.new.self c.self.inside.fate c.self.inside.place
    c.saturating_add-self-inside.result c.next_changed-next.result (known_past c) (outer c)

pub leave_row-requires-clause-inside : goal.leave_row-requires-clause-inside
leave_row-requires-clause-inside c =
    pushed_inside c.self.inside.replica c.push.new.self c.self.inside.fate c.self.inside.place
    c.saturating_add-self-inside.result c.next_changed-next.result (known_past c)

pub leave_row-requires-clause-fate : goal.leave_row-requires-clause-fate
leave_row-requires-clause-fate c =
    pushed_timely c.self.inside.replica c.push.new.self c.self.inside.fate c.self.inside.place
    c.saturating_add-self-inside.result c.next_changed-next.result (known_past c)

pub invariant_of-self : goal.invariant_of-self
invariant_of-self c = inside_after c.self.inside c.push.new.self _
    (counted c.self.inside.fate c.saturating_add-self-inside.result)
    (record c.self.inside.place { column = c.next_changed-next.result }) c.self.inside.ready
    c.self.invariant c.push.ensures.after refl (next c 0).form
    (pushed_timely c.self.inside.replica c.push.new.self c.self.inside.fate c.self.inside.place
    c.saturating_add-self-inside.result c.next_changed-next.result (known c)) refl
    (elsewhere c.push.new.self (record c.self.inside.place { column = c.next_changed-next.result })
    parts.Push c.self.inside.ready (known c).due.at refl)

pub invariant_of-self-else-next-columns : goal.invariant_of-self-else-next-columns
invariant_of-self-else-next-columns c = inside_after c.self.inside c.push.new.self _
    (counted c.self.inside.fate c.saturating_add-self-inside.result) c.leave_row.new.place
    c.leave_row.new.ready c.self.invariant c.push.ensures.after refl (past c 0).form
    (pushed_timely c.self.inside.replica c.push.new.self c.self.inside.fate c.self.inside.place
    c.saturating_add-self-inside.result c.next_changed-next.result
    (known_past c.before)) refl c.leave_row.ensures.ready

pub returns-then-next-columns-clause-after : goal.returns-then-next-columns-clause-after
returns-then-next-columns-clause-after c = λ word. (next c word).after

pub returns-then-next-columns-clause-form : goal.returns-then-next-columns-clause-form
returns-then-next-columns-clause-form c = (next c 0).form

pub returns-then-next-columns-clause-falls : goal.returns-then-next-columns-clause-falls
returns-then-next-columns-clause-falls c = (next c 0).done.fewer

pub returns-then-next-columns-clause-keeps : goal.returns-then-next-columns-clause-keeps
returns-then-next-columns-clause-keeps c = (next c 0).done.still

pub returns-else-next-columns-clause-after : goal.returns-else-next-columns-clause-after
returns-else-next-columns-clause-after c = λ word. (past c word).after

pub returns-else-next-columns-clause-form : goal.returns-else-next-columns-clause-form
returns-else-next-columns-clause-form c = (past c 0).form

pub returns-else-next-columns-clause-falls : goal.returns-else-next-columns-clause-falls
returns-else-next-columns-clause-falls c = (past c 0).done.fewer

pub returns-else-next-columns-clause-keeps : goal.returns-else-next-columns-clause-keeps
returns-else-next-columns-clause-keeps c = (past c 0).done.still
