use Rattle.std.proofs.{Common.{refl, arith, below_more}, lemmas.Bool.{false≢true}}
use Rattle.dr_history.specs.History.{IsPrefixOf}
use Rattle.dr_machine.{specs.Group.IsPresent, proofs.Presence.in_roster}
use Rattle.dr_world.specs.Held.{its_group, its_world}
use Rattle.dr_agree.proofs.keeping.is_delivered.Goals as goal

pub returns-then-is_delivered_by : goal.returns-then-is_delivered_by
returns-then-is_delivered_by c =
    let by = c.is_delivered_by.ensures.0 c.if-is_delivered_by.true in (λ _. (c.loop-m.m, by.0, by.1), λ _. refl)

pub loop-m-preserved : goal.loop-m-preserved
loop-m-preserved c = below_more (λ i. IsPresent (its_group c.args.world.now) i
    → IsPrefixOf c.args.entries.now ((its_world c.args.world.now).past.history i) → ⊥) c.loop-m.m c.loop-m.invariant
    (λ there delivered. let is = c.is_delivered_by.ensures.1 (there, delivered) in
    absurd (cc (is, c.if-is_delivered_by.false)))

pub returns : goal.returns
returns c = (
  λ t. absurd (false≢true t),
  λ delivered. absurd (c.loop-m.invariant delivered.0 (omega (
    arith,
    in_roster (its_group c.args.world.now) delivered.0 c.members-m-end.ensures.group delivered.1,
    c.loop-m-test.false,
    c.members-m-end.ensures.members,
  )) delivered.1 delivered.2),
)
