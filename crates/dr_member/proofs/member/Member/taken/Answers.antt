use Rattle.std.{specs.Prelude.option_map, proofs.Common.{refl, ◌∙◌, arith}}
use Rattle.dr_words.specs.Columns.{columns_of}
use Rattle.dr_program.specs.{Running.goes, Turn.part_of}
use Rattle.dr_program.specs.declared.place.Part.TheVariants as parts
use Rattle.dr_member.{specs.Search.standing, proofs.Ready.gone_elsewhere}
use Rattle.dr_member.proofs.Joins.{HasTakenLetter, IsTakeAnswer, leads_on, take_answer, take_due_at, took_limit, took_underway}
use Rattle.dr_member.proofs.member.Member.taken.Goals as goal

-- the letter was taken
known : (c : goal.After-settle-arg-4-1)
    → HasTakenLetter (option_map (λ list. list.now) c.args.letter) c.self.inside c.take_letter.new.replica
    c.take_letter.new.fate c.go.new.place
known c = record {
  inside = c.self.invariant;
  due = take_due_at c.args.self.now c.self.inside c.self.view_is c.self.invariant c.requires.due;
  after = c.take_letter.ensures.after c.self.inside.place;
  form = c.take_letter.ensures.form;
  leads = leads_on (λ list. list.now) c.args.self.now.replica c.args.letter c.requires.fitting;
  place = c.go.ensures
      ∙ (λ z. goes (c.shape.ensures.members z) (columns_of (c.shape.ensures.members z) (c.shape.ensures.window z))
      (part_of c.self.inside.place) c.self.inside.place);
}

answer : (c : goal.After-settle) → IsTakeAnswer (option_map (λ list. list.now) c.args.letter) c.args.self.now
    (standing c.take_letter.new.replica c.take_letter.new.fate c.settle.new.place)
answer c = take_answer _ c.args.self.now c.self.inside c.take_letter.new.replica c.take_letter.new.fate
    c.go.new.place c.settle.new.place c.self.view_is (known c.before) c.settle.ensures.place

pub take_letter-requires-clause-outside : goal.take_letter-requires-clause-outside
take_letter-requires-clause-outside c =
    (take_due_at c.args.self.now c.self.inside c.self.view_is c.self.invariant c.requires.due).outside

pub take_letter-requires-clause-free : goal.take_letter-requires-clause-free
take_letter-requires-clause-free c =
    (take_due_at c.args.self.now c.self.inside c.self.view_is c.self.invariant c.requires.due).free

pub settle-requires-clause-underway : goal.settle-requires-clause-underway
settle-requires-clause-underway c = took_underway _ _ _ _ _ (known c)

pub settle-requires-clause-ready : goal.settle-requires-clause-ready
settle-requires-clause-ready c =
    gone_elsewhere c.self.inside.replica.roster _ c.take_letter.new.replica c.self.inside.place c.go.new.place
    parts.Take c.self.inside.ready c.self.invariant.form.place (known c).due.at refl (known c).place

pub settle-requires-clause-fate : goal.settle-requires-clause-fate
settle-requires-clause-fate c = c.take_letter.ensures.timely c.self.invariant.fate

pub invariant_of-self : goal.invariant_of-self
invariant_of-self c = record {
  form = (answer c).form;
  fate = c.take_letter.ensures.timely c.self.invariant.fate;
  limit = omega (arith, took_limit _ _ _ _ _ (known c.before), c.self.invariant.limit);
  bases = c.take_letter.ensures.bases c.self.invariant.bases;
  ready = c.settle.ensures.ready;
}

pub returns-clause-after : goal.returns-clause-after
returns-clause-after c = (answer c).after

pub returns-clause-form : goal.returns-clause-form
returns-clause-form c = (answer c).form

pub returns-clause-falls : goal.returns-clause-falls
returns-clause-falls c = (answer c).done.fewer

pub returns-clause-keeps : goal.returns-clause-keeps
returns-clause-keeps c = (answer c).done.still
