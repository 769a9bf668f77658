use Rattle.std.proofs.Common.{◌≡◌, true, refl, sym, ap, subst, ℕ, ◌∙◌}
use Rattle.dr_entry.specs.declared.record.Value.{Value}
use Rattle.dr_program.specs.{Replica.{may_vote, voted}, Running.{Running, goes}, Turn.part_of}
use Rattle.dr_words.specs.Columns.{columns_of}
use Rattle.dr_program.specs.declared.place.Part.TheVariants as parts
use Rattle.dr_turn.proofs.Works.{IsAnswer, answer_at}
use Rattle.dr_member.{specs.{Inside.member_inside, Search.standing}, proofs.Answers.{IsTaken, is_answer, is_done}}
use Rattle.dr_member.proofs.{Moves.{append_taken, inside_after, stays_timely, vote_due_at}, Ready.gone_elsewhere}
use Rattle.dr_member.proofs.member.Member.vote_appended.Goals as goal

-- the vote was taken
known : (c : goal.After-settle-arg-4-1) (word : ℕ)
    → IsTaken word (member_inside c.self.inside) c.vote.new.self c.self.inside.fate c.go.new.place
known c word = append_taken word c.args.self.now c.self.inside c.vote.new.self c.go.new.place c.self.view_is
    c.self.invariant c.requires.due (c.vote.ensures.after ∙ ap (voted c.self.inside.replica) c.value_due-value.ensures
    ∙ sym ((vote_due_at c.args.self.now c.self.inside c.self.view_is c.self.invariant c.requires.due
    c.requires.at).step word)) c.vote.ensures.form c.vote.ensures.grown (c.go.ensures
    ∙ (λ z. goes (c.shape.ensures.members z) (columns_of (c.shape.ensures.members z) (c.shape.ensures.window z))
    (part_of c.self.inside.place) c.self.inside.place))

answer : (c : goal.After-settle) (word : ℕ) → IsAnswer word c.args.self.now
    (standing c.vote.new.self c.self.inside.fate c.settle.new.place)
answer c word = answer_at word _ c.args.self.now _ c.self.view_is
    (is_answer word _ _ _ _ c.settle.new.place (known c.before word) c.settle.ensures.place)

pub settle-requires-clause-underway : goal.settle-requires-clause-underway
settle-requires-clause-underway c = (is_done 0 _ _ _ _ (known c 0)).underway

pub settle-requires-clause-ready : goal.settle-requires-clause-ready
settle-requires-clause-ready c =
    gone_elsewhere c.self.inside.replica.roster _ c.vote.new.self c.self.inside.place c.go.new.place
    parts.Vote c.self.inside.ready c.self.invariant.form.place
    (ap (λ (x : Running). part_of x.place) c.self.view_is ∙ c.requires.at) refl
    (c.go.ensures
    ∙ (λ z. goes (c.shape.ensures.members z) (columns_of (c.shape.ensures.members z) (c.shape.ensures.window z))
    (part_of c.self.inside.place) c.self.inside.place))

pub value_due-value-requires : goal.value_due-value-requires
value_due-value-requires c = record {
  wedged = (vote_due_at c.args.self.now c.self.inside c.self.view_is c.self.invariant c.requires.due
      c.requires.at).wedged;
}

pub vote-requires-clause-may : goal.vote-requires-clause-may
vote-requires-clause-may c = subst (λ (v : Value). may_vote c.self.inside.replica v ≡ true)
    (sym c.value_due-value.ensures)
    (vote_due_at c.args.self.now c.self.inside c.self.view_is c.self.invariant c.requires.due c.requires.at).may

pub vote-requires-clause-free : goal.vote-requires-clause-free
vote-requires-clause-free c =
    (vote_due_at c.args.self.now c.self.inside c.self.view_is c.self.invariant c.requires.due c.requires.at).free

pub invariant_of-self : goal.invariant_of-self
invariant_of-self c =
    inside_after c.self.inside c.vote.new.self _ c.self.inside.fate c.settle.new.place c.settle.new.ready
    c.self.invariant c.vote.ensures.after refl (answer c 0).form
    (stays_timely c.self.inside c.vote.new.self _ c.self.invariant c.vote.ensures.after refl) refl
    c.settle.ensures.ready

pub returns-clause-after : goal.returns-clause-after
returns-clause-after c = λ word. (answer c word).after

pub returns-clause-form : goal.returns-clause-form
returns-clause-form c = (answer c 0).form

pub returns-clause-falls : goal.returns-clause-falls
returns-clause-falls c = (answer c 0).done.fewer
