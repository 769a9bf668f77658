use Rattle.dr_examples.proofs.leaders.show_turns.Goals as goal

pub lead_round-requires : goal.lead_round-requires
lead_round-requires g c = record {
  sound = (
    c.requires.sound.0,
    c.requires.sound.1,
    c.loop-turn.invariant c.requires.sound.0 c.requires.sound.1 c.requires.sound.2,
  );
}
