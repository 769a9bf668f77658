use Rattle.dr_examples.proofs.leaders.lead_round.Goals as goal

pub take_deed-requires-clause-sound : goal.take_deed-requires-clause-sound
take_deed-requires-clause-sound c = (
  c.requires.sound.0,
  c.requires.sound.1,
  c.loop.invariant c.requires.sound.0 c.requires.sound.1 c.requires.sound.2,
)
