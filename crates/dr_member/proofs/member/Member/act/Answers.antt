use Rattle.std.proofs.Common.{ℕ, ap, ◌∙◌, arith}
use Rattle.dr_words.specs.Columns.{columns_of}
use Rattle.dr_machine.specs.declared.step.Step.TheVariants.{Do}
use Rattle.dr_program.specs.{Running.{goes, next_step}, Turn.part_of}
use Rattle.dr_turn.proofs.Works.{IsAnswer, answer_at}
use Rattle.dr_member.{specs.{Fate.IsTimely, Search.standing}, proofs.Ready.act_keeps}
use Rattle.dr_member.{specs.Inside.member_inside, proofs.Answers.{IsFateAfter, IsTaken, is_answer, is_done}}
use Rattle.dr_member.proofs.{Fates.IsFateBy, Moves.{act_allowed, act_free, act_in_view, act_may, act_taken, act_told}}
use Rattle.dr_member.proofs.member.Member.act.Goals as goal

-- what it makes of the fate
by : (c : goal.After-settle-arg-4-1)
    → IsFateBy c.args.act c.take_act.new.replica.turns c.self.inside.fate c.take_act.new.fate
by c = record { turn = c.take_act.ensures.turn; view = c.take_act.ensures.view; other = c.take_act.ensures.fate }

told : (c : goal.After-settle-arg-4-1)
    → IsFateAfter 0 (member_inside c.self.inside) (Do c.args.act) c.take_act.new.fate
    × IsTimely c.take_act.new.fate c.take_act.new.replica.turns
told c = act_told 0 c.self.inside c.take_act.new.replica c.take_act.new.fate c.args.act c.self.invariant
    c.take_act.ensures.after (by c)

known : (c : goal.After-settle-arg-4-1) (word : ℕ)
    → IsTaken word (member_inside c.self.inside) c.take_act.new.replica c.take_act.new.fate c.go.new.place
known c word = act_taken word c.args.self.now c.self.inside c.take_act.new.replica c.take_act.new.fate c.go.new.place
    c.args.act c.self.view_is c.self.invariant c.requires.deed (ap next_step c.self.view_is
    ∙ c.requires.step) c.take_act.ensures.after c.take_act.ensures.form c.take_act.ensures.grown (c.go.ensures
    ∙ (λ z. goes (c.shape.ensures.members z) (columns_of (c.shape.ensures.members z) (c.shape.ensures.window z))
    (part_of c.self.inside.place) c.self.inside.place)) (by c)

answer : (c : goal.After-settle) (word : ℕ)
    → IsAnswer word c.args.self.now (standing c.take_act.new.replica c.take_act.new.fate c.settle.new.place)
answer c word = answer_at word _ c.args.self.now _ c.self.view_is
    (is_answer word _ _ _ _ c.settle.new.place (known c.before word) c.settle.ensures.place)

pub take_act-requires-clause-may : goal.take_act-requires-clause-may
take_act-requires-clause-may c =
    act_allowed c.args.self.now c.self.inside c.args.act c.self.view_is c.self.invariant c.requires.deed
    (ap next_step c.self.view_is ∙ c.requires.step)

pub take_act-requires-clause-free : goal.take_act-requires-clause-free
take_act-requires-clause-free c = act_free c.self.inside c.args.act c.self.invariant
    (ap next_step c.self.view_is ∙ c.requires.step)

pub is_inside_after-inside-requires : goal.is_inside_after-inside-requires
is_inside_after-inside-requires c = act_in_view c.self.inside.replica c.take_act.new.replica c.args.act
    (act_allowed c.args.self.now c.self.inside c.args.act c.self.view_is c.self.invariant c.requires.deed
    (ap next_step c.self.view_is ∙ c.requires.step)) c.take_act.ensures.after

pub settle-requires-clause-underway : goal.settle-requires-clause-underway
settle-requires-clause-underway c = (is_done 0 _ _ _ _ (known c 0)).underway

pub settle-requires-clause-ready : goal.settle-requires-clause-ready
settle-requires-clause-ready c =
    act_keeps c.self.inside c.take_act.new.replica c.args.act c.go.new.place c.take_act.new.ready
    c.self.invariant (ap next_step c.self.view_is ∙ c.requires.step)
    (act_may c.args.self.now c.self.inside c.args.act c.self.view_is c.self.invariant c.requires.deed
    (ap next_step c.self.view_is ∙ c.requires.step)) c.take_act.ensures.after
    (c.go.ensures
    ∙ (λ z. goes (c.shape.ensures.members z) (columns_of (c.shape.ensures.members z) (c.shape.ensures.window z))
    (part_of c.self.inside.place) c.self.inside.place)) c.take_act.ensures.ready

pub settle-requires-clause-fate : goal.settle-requires-clause-fate
settle-requires-clause-fate c = (told c).1

pub invariant_of-self : goal.invariant_of-self
invariant_of-self c = record {
  form = (answer c 0).form;
  fate = (told c.before).1;
  limit = omega (arith, (told c.before).0.limit, c.self.invariant.limit);
  bases = c.take_act.ensures.bases c.self.invariant.bases;
  ready = c.settle.ensures.ready;
}

pub returns-clause-after : goal.returns-clause-after
returns-clause-after c = λ word. (answer c word).after

pub returns-clause-form : goal.returns-clause-form
returns-clause-form c = (answer c 0).form

pub returns-clause-falls : goal.returns-clause-falls
returns-clause-falls c = (answer c 0).done.fewer

pub returns-clause-keeps : goal.returns-clause-keeps
returns-clause-keeps c = (answer c 0).done.still
