use Rattle.std.proofs.Common.{refl, subst, ◌+◌, ◌<◌, ◌≤◌, arith}
use Rattle.dr_words.specs.Columns.{columns_of}
use Rattle.dr_member.{specs.Search.standing, proofs.{Alone.columns_here, Indices.columns_after, Ready.elsewhere}}
use Rattle.dr_member.proofs.Moves.{IsLooked, inside_after, is_looked, look_due_at, looked_within, stays_timely}
use Rattle.dr_program.specs.Running.{Running, columns}
use Rattle.dr_program.specs.declared.place.Part.TheVariants as parts
use Rattle.dr_turn.proofs.Works.{IsAnswer}
use Rattle.dr_member.proofs.member.Member.looked.Goals as goal

known : (c : goal.After-look)
    → IsLooked c.self.inside.replica c.look.new.self c.self.inside.fate c.self.inside.place c.args.word
known c = is_looked c.args.self.now c.self.inside c.look.new.self c.args.word c.self.view_is
    c.self.invariant c.requires c.look.ensures.after c.look.ensures.form c.look.ensures.grown

within : (c : goal.After-look) → IsAnswer c.args.word c.args.self.now (standing c.look.new.self c.self.inside.fate
    (record c.self.inside.place { column = c.self.inside.place.column + 1 }))
within c = looked_within c.args.self.now c.self.inside.replica c.look.new.self c.self.inside.fate
    c.self.inside.place c.args.word c.self.view_is (known c) inner
  where
    inner : c.self.inside.place.column + 1 < columns_of c.look.new.self.roster c.look.new.self.window
    inner = omega (
      arith,
      c.if-next-self.true,
      columns_after c.self.inside c.look.new.self _ c.self.invariant c.look.ensures.after refl,
    )

pub look-requires-clause-in_form : goal.look-requires-clause-in_form
look-requires-clause-in_form c =
    (look_due_at c.args.self.now c.self.inside c.args.word c.self.view_is c.self.invariant c.requires).seen.form

pub look-requires-clause-grown : goal.look-requires-clause-grown
look-requires-clause-grown c =
    (look_due_at c.args.self.now c.self.inside c.args.word c.self.view_is c.self.invariant c.requires).seen.grown

pub invariant_of-self : goal.invariant_of-self
invariant_of-self c = inside_after c.self.inside c.look.new.self _ c.self.inside.fate
    (record c.self.inside.place { column = c.self.inside.place.column + 1 }) c.self.inside.ready
    c.self.invariant c.look.ensures.after refl (within c).form
    (stays_timely c.self.inside c.look.new.self _ c.self.invariant c.look.ensures.after refl) refl
    (elsewhere c.look.new.self (record c.self.inside.place { column = c.self.inside.place.column + 1 })
    parts.Look c.self.inside.ready (known c).due.at refl)

pub returns-then-next-self-clause-after : goal.returns-then-next-self-clause-after
returns-then-next-self-clause-after c = (within c).after

pub returns-then-next-self-clause-form : goal.returns-then-next-self-clause-form
returns-then-next-self-clause-form c = (within c).form

pub returns-then-next-self-clause-falls : goal.returns-then-next-self-clause-falls
returns-then-next-self-clause-falls c = (within c).done.fewer

pub looked_last-requires-clause-last : goal.looked_last-requires-clause-last
looked_last-requires-clause-last c = subst (λ (r : Running). columns r ≤ r.place.column + 1) c.self.view_is
    (omega (arith, c.if-next-self.false, columns_here c.self.inside c.self.invariant))
