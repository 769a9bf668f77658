use Rattle.std.proofs.{Common.{take, refl, arith, below_more}, lemmas.Bool.{false≢true}}
use Rattle.dr_history.specs.History.{IsPrefixOf}
use Rattle.dr_machine.{specs.{Group.IsPresent, World.World}, proofs.Presence.in_roster}
use Rattle.dr_world.specs.Held.{its_group, its_world}
use Rattle.dr_agree.proofs.keeping.has_durable.Goals as goal

pub returns-then-not-has_durable_of : goal.returns-then-not-has_durable_of
returns-then-not-has_durable_of c = (
  λ t. absurd (false≢true t),
  λ all. let is = c.has_durable_of.ensures.1 (all c.loop-m.m) in absurd (cc (is, c.if-not-has_durable_of.true)),
)

pub loop-m-preserved : goal.loop-m-preserved
loop-m-preserved c =
    let w : World = its_world c.args.world.now in
    below_more (λ i. IsPresent (its_group c.args.world.now) i
    → IsPrefixOf (take (w.past.durable i) (w.past.history i)) c.args.entries.now) c.loop-m.m
    c.loop-m.invariant (c.has_durable_of.ensures.0 (cc c.if-not-has_durable_of.false))

pub returns : goal.returns
returns c = (
  λ _ i there. c.loop-m.invariant i (omega (
    arith,
    in_roster (its_group c.args.world.now) i c.members-m-end.ensures.group there,
    c.loop-m-test.false,
    c.members-m-end.ensures.members,
  )) there,
  λ _. refl,
)
