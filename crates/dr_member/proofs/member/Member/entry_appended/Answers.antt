use Rattle.std.proofs.Common.{refl, ap, ℕ, ◌∙◌}
use Rattle.dr_words.specs.Columns.{columns_of}
use Rattle.dr_program.specs.{Running.{Running, goes}, Turn.part_of}
use Rattle.dr_program.specs.declared.place.Part.TheVariants as parts
use Rattle.dr_turn.proofs.Works.{IsAnswer}
use Rattle.dr_member.{specs.Search.standing, proofs.Dues.entry_due}
use Rattle.dr_member.proofs.{Moves.{entry_answer, inside_after, stays_timely}, Ready.gone_elsewhere}
use Rattle.dr_member.proofs.member.Member.entry_appended.Goals as goal

answer : (c : goal.After-append) (word : ℕ) → IsAnswer word c.args.self.now
    (standing c.append.new.self c.self.inside.fate c.go.new.place)
answer c word = entry_answer word c.args.self.now c.self.inside c.append.new.self c.go.new.place
    c.self.view_is c.self.invariant c.requires.due c.requires.at
    c.append.ensures.after c.append.ensures.form c.append.ensures.grown (c.go.ensures
    ∙ (λ z. goes (c.shape.ensures.members z) (columns_of (c.shape.ensures.members z) (c.shape.ensures.window z))
    (part_of c.self.inside.place) c.self.inside.place))

pub invariant_of-self : goal.invariant_of-self
invariant_of-self c =
    inside_after c.self.inside c.append.new.self _ c.self.inside.fate c.go.new.place c.self.inside.ready
    c.self.invariant c.append.ensures.after refl (answer c 0).form
    (stays_timely c.self.inside c.append.new.self _ c.self.invariant c.append.ensures.after refl) refl
    (gone_elsewhere c.self.inside.replica.roster _ c.append.new.self c.self.inside.place c.go.new.place
    parts.Append c.self.inside.ready c.self.invariant.form.place
    (ap (λ (x : Running). part_of x.place) c.self.view_is
    ∙ (entry_due c.args.self.now c.requires.due c.requires.at).at) refl
    (c.go.ensures
    ∙ (λ z. goes (c.shape.ensures.members z) (columns_of (c.shape.ensures.members z) (c.shape.ensures.window z))
    (part_of c.self.inside.place) c.self.inside.place)))

pub returns-clause-after : goal.returns-clause-after
returns-clause-after c = λ word. (answer c word).after

pub returns-clause-form : goal.returns-clause-form
returns-clause-form c = (answer c 0).form

pub returns-clause-falls : goal.returns-clause-falls
returns-clause-falls c = (answer c 0).done.fewer
