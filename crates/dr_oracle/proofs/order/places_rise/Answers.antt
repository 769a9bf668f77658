use Rattle.std.proofs.Common.{refl, arith}
use Rattle.dr_entry.proofs.BoolFacts.{refuted}
use Rattle.dr_history.{specs.History.sent_of, proofs.Histories.place_at-within}
use Rattle.dr_oracle.proofs.order.places_rise.Goals as goal

pub returns-then-not-rises : goal.returns-then-not-rises
returns-then-not-rises c = (
  λ t. absurd (cc),
  λ all. absurd (refuted c.rises.result c.rises.ensures c.if-not-rises.true
      (λ p q. all c.loop-i.i c.loop-j.j p q c.if-start-i.true c.loop-i-test.true)),
)

pub returns : goal.returns
returns c = (
  λ _ i j p q after less same at there. c.loop-j.invariant i j (omega
      (arith, place_at-within (sent_of c.args.ends.now) c.args.history.now j q there)) after less p q same at there,
  λ _. refl,
)
