use Rattle.std.proofs.{Common.{◌≡◌, slice_get, None, Some, sym, ap, ◌∙◌, arith}, lemmas.Bool.{eqb-true, eq-eqb}}
use Rattle.std.proofs.lemmas.{Bool.Decides.Decides-eqb, Grind.common_steps, Option.{gets, none-some, same_Some}}
use Rattle.std.proofs.lemmas.Slice.Eq.{slice_eq-Decides}
use Rattle.dr_entry.proofs.BoolFacts.{refuted}
use Rattle.dr_oracle.proofs.order.is_next.Goals as goal

pub returns-then-eq : goal.returns-then-eq
returns-then-eq c =
    let at : slice_get c.args.messages.now c.args.next
    ≡ Some c.in-Some.message.now = grind (arith, common_steps, gets) in
    let is = slice_eq-Decides Decides-eqb c.in-Some.message.now c.args.bytes.now c.eq.result c.eq.ensures in (
      λ t. (at ∙ ap Some (is.0 c.if-eq.true), eqb-true c.args.index c.args.next t),
      λ p. eq-eqb c.args.index c.args.next p.1,
    )

pub returns-else-eq : goal.returns-else-eq
returns-else-eq c =
    let at : slice_get c.args.messages.now c.args.next
    ≡ Some c.in-Some.message.now = grind (arith, common_steps, gets) in
    let is = slice_eq-Decides Decides-eqb c.in-Some.message.now c.args.bytes.now c.eq.result c.eq.ensures in (
      λ t. absurd (cc (t, c.if-eq.false)),
      λ p. absurd (refuted c.eq.result is c.if-eq.false (same_Some _ _ (sym at ∙ p.0))),
    )

pub returns-in-None : goal.returns-in-None
returns-in-None c =
    let past : slice_get c.args.messages.now c.args.next ≡ None = grind (arith, common_steps, gets) in
    (λ t. absurd (cc), λ p. absurd (none-some c.args.bytes.now (sym past ∙ p.0)))
