use Rattle.std.proofs.Common.{◌≤◌, ◌∙◌, IsTrue, List, ap, subst, sym, ℕ}
use Rattle.dr_seat.specs.Cards.{IsCardOf, PlanOf, digest_on, group_on, member_on}
use Rattle.dr_seat.proofs.Cards.{card-of-form, card-of-plan, form-of-card}
use Rattle.dr_seat.proofs.card.read_card.Goals as goal

pub returns-then-not-is_card-clause-fault : goal.returns-then-not-is_card-clause-fault
returns-then-not-is_card-clause-fault c group digest me card =
    let yes : IsTrue c.is_card.result = c.is_card.ensures.1 (form-of-card c.args.card.now group digest me card) in
    absurd (cc (yes, c.if-not-is_card.true))

pub returns-then-not-is_of_plan-clause-fault : goal.returns-then-not-is_of_plan-clause-fault
returns-then-not-is_of_plan-clause-fault c = (
  group_on c.args.card.now,
  digest_on c.args.card.now,
  member_on c.args.card.now,
  card-of-form c.args.card.now (c.is_card.ensures.0 c.if-not-is_card.false),
  λ same. let yes : IsTrue c.is_of_plan.result = c.is_of_plan.ensures.1
      (same ∙ sym (ap (λ (p : PlanOf). p.digest) c.plan.view_is)) in
      absurd (cc (yes, c.if-not-is_of_plan.true)),
)

pub returns-then-plan-card-clause-fault : goal.returns-then-plan-card-clause-fault
returns-then-plan-card-clause-fault c = (
  group_on c.args.card.now,
  member_on c.args.card.now,
  card-of-plan c.args.card.now c.args.plan.now.digest (c.is_card.ensures.0 c.if-not-is_card.false)
      (c.is_of_plan.ensures.0 c.if-not-is_of_plan.false ∙ ap (λ (p : PlanOf). p.digest) c.plan.view_is),
  subst (λ (p : PlanOf). p.script.members ≤ member_on c.args.card.now) c.plan.view_is c.if-plan-card.true,
)

pub returns-clause-card : goal.returns-clause-card
returns-clause-card c = subst
    (λ (g : List ℕ). IsCardOf c.args.card.now g c.args.plan.now.digest (member_on c.args.card.now))
    (sym c.copy_from_slice.ensures.after)
    (card-of-plan c.args.card.now c.args.plan.now.digest (c.is_card.ensures.0 c.if-not-is_card.false)
    (c.is_of_plan.ensures.0 c.if-not-is_of_plan.false ∙ ap (λ (p : PlanOf). p.digest) c.plan.view_is))
