use Rattle.std.proofs.Common.{refl, ℕ, ◌∙◌}
use Rattle.dr_words.specs.Columns.{columns_of}
use Rattle.dr_program.specs.{Running.goes, Turn.part_of}
use Rattle.dr_program.specs.declared.place.Part.TheVariants as parts
use Rattle.dr_turn.proofs.Works.{IsAnswer, answer_at}
use Rattle.dr_member.{specs.{Inside.member_inside, Search.standing}, proofs.Answers.{IsTaken, is_answer, is_done}}
use Rattle.dr_member.proofs.{Joins.{give_due_at, give_taken}, Moves.{inside_after, stays_timely}}
use Rattle.dr_member.proofs.Ready.{gone_elsewhere}
use Rattle.dr_member.proofs.member.Member.given.Goals as goal

-- the letter was given
known : (c : goal.After-settle-arg-4-1) (word : ℕ)
    → IsTaken word (member_inside c.self.inside) c.give.new.self c.self.inside.fate c.go.new.place
known c word = give_taken word c.args.self.now c.self.inside c.give.new.self c.go.new.place c.self.view_is
    c.self.invariant c.requires c.give.ensures.after c.give.ensures.form c.give.ensures.grown (c.go.ensures
    ∙ (λ z. goes (c.shape.ensures.members z) (columns_of (c.shape.ensures.members z) (c.shape.ensures.window z))
    (part_of c.self.inside.place) c.self.inside.place))

answer : (c : goal.After-settle) (word : ℕ)
    → IsAnswer word c.args.self.now (standing c.give.new.self c.self.inside.fate c.settle.new.place)
answer c word = answer_at word _ c.args.self.now _ c.self.view_is
    (is_answer word _ _ _ _ c.settle.new.place (known c.before word) c.settle.ensures.place)

pub give-requires : goal.give-requires
give-requires c = (give_due_at c.args.self.now c.self.inside c.self.view_is c.self.invariant c.requires).may

pub settle-requires-clause-underway : goal.settle-requires-clause-underway
settle-requires-clause-underway c = (is_done 0 _ _ _ _ (known c 0)).underway

pub settle-requires-clause-ready : goal.settle-requires-clause-ready
settle-requires-clause-ready c =
    gone_elsewhere c.self.inside.replica.roster _ c.give.new.self c.self.inside.place c.go.new.place
    parts.Give c.self.inside.ready c.self.invariant.form.place
    (give_due_at c.args.self.now c.self.inside c.self.view_is c.self.invariant c.requires).at refl
    (c.go.ensures
    ∙ (λ z. goes (c.shape.ensures.members z) (columns_of (c.shape.ensures.members z) (c.shape.ensures.window z))
    (part_of c.self.inside.place) c.self.inside.place))

pub invariant_of-self : goal.invariant_of-self
invariant_of-self c =
    inside_after c.self.inside c.give.new.self _ c.self.inside.fate c.settle.new.place c.settle.new.ready
    c.self.invariant c.give.ensures.after refl (answer c 0).form
    (stays_timely c.self.inside c.give.new.self _ c.self.invariant c.give.ensures.after refl) refl
    c.settle.ensures.ready

pub returns-clause-after : goal.returns-clause-after
returns-clause-after c = λ word. (answer c word).after

pub returns-clause-form : goal.returns-clause-form
returns-clause-form c = (answer c 0).form

pub returns-clause-falls : goal.returns-clause-falls
returns-clause-falls c = (answer c 0).done.fewer
