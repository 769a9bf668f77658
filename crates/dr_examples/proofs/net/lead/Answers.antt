use Rattle.std.proofs.Common.{All, Contains, subst, sym}
use Rattle.dr_examples.{specs.Led.over, proofs.Carrying.{begins, carried_sound}}
use Rattle.dr_program_laws.specs.Carried.{IsCarried}
use Rattle.dr_examples.proofs.net.lead.Goals as goal

pub loop-turn-init : goal.loop-turn-init
loop-turn-init c = λ g letters is. subst (IsCarried g (over c.args.members.now c.args.words.now letters))
    (sym c.new-net.ensures.items) (begins g c.args.members.now c.args.words.now letters is)

pub take_turn-requires-clause-carried : goal.take_turn-requires-clause-carried
take_turn-requires-clause-carried c = (
  c.requires.sound.0,
  c.requires.sound.1,
  c.loop-m.invariant c.requires.sound.0 c.requires.sound.1 c.requires.sound.2,
)

pub returns-in_err-take_turn : goal.returns-in_err-take_turn
returns-in_err-take_turn c = record {
  sound = λ g letters is. carried_sound g (over c.take_turn.new.members c.take_turn.new.words letters)
      c.take_turn.new.net.items (c.take_turn.ensures.carried g letters (c.loop-m.invariant g letters is));
}

pub arrive-requires : goal.arrive-requires
arrive-requires c = record {
  carried = (
    c.requires.sound.0,
    c.loop-m.members,
    c.requires.sound.1,
    c.loop-m.net.items,
    subst (λ net. All (Contains net) c.sent_in.result.now) c.deref.ensures.value c.sent_in.ensures.among,
    c.loop-m.invariant c.requires.sound.0 c.requires.sound.1 c.requires.sound.2,
  );
}

pub arrive-requires-in-loop-turn : goal.arrive-requires-in-loop-turn
arrive-requires-in-loop-turn c = record {
  carried = (
    c.requires.sound.0,
    c.loop-m.members,
    c.requires.sound.1,
    c.loop-m.net.items,
    subst (λ net. All (Contains net) c.sent_in-in-loop-turn.result.now) c.deref-in-loop-turn-2.ensures.value
        c.sent_in-in-loop-turn.ensures.among,
    c.arrive.ensures.carried c.requires.sound.0 c.loop-m.members c.requires.sound.1 c.loop-m.net.items
        (subst (λ net. All (Contains net) c.sent_in.result.now) c.deref.ensures.value c.sent_in.ensures.among)
        (c.loop-m.invariant c.requires.sound.0 c.requires.sound.1 c.requires.sound.2),
  );
}

pub loop-turn-preserved : goal.loop-turn-preserved
loop-turn-preserved c g letters is =
    c.arrive-in-loop-turn.ensures.carried g c.loop-m.members letters c.loop-m.net.items
    (subst (λ net. All (Contains net) c.sent_in-in-loop-turn.result.now) c.deref-in-loop-turn-2.ensures.value
    c.sent_in-in-loop-turn.ensures.among)
    (c.arrive.ensures.carried g c.loop-m.members letters c.loop-m.net.items
    (subst (λ net. All (Contains net) c.sent_in.result.now) c.deref.ensures.value c.sent_in.ensures.among)
    (c.loop-m.invariant g letters is))

pub returns-in_err-push : goal.returns-in_err-push
returns-in_err-push c = record {
  sound = λ g letters is. carried_sound g (over c.loop-turn.members c.loop-turn.words letters)
      c.loop-turn.net.items (c.loop-turn.invariant g letters is);
}

pub returns : goal.returns
returns c = record {
  sound = λ g letters is. carried_sound g (over c.loop-turn.members c.loop-turn.words letters)
      c.loop-turn.net.items (c.loop-turn.invariant g letters is);
}
