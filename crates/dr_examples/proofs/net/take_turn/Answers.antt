use Rattle.dr_examples.proofs.net.take_turn.Goals as goal

pub take_deed-requires-clause-carried : goal.take_deed-requires-clause-carried
take_deed-requires-clause-carried c = (
  c.requires.carried.0,
  c.requires.carried.1,
  c.loop.invariant c.requires.carried.0 c.requires.carried.1 c.requires.carried.2,
)
