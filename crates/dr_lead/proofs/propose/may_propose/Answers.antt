use Rattle.std.proofs.{Common.{◌≡◌, ℕ, true, sym, subst, ◌∙◌, arith}, lemmas.Grind.common_steps}
use Rattle.dr_history.specs.Members.{has}
use Rattle.dr_pred.specs.Watches.{AllCountsFinal}
use Rattle.dr_lead.specs.Accepts.{AllPromise}
use Rattle.dr_lead.proofs.propose.may_propose.Goals.{then-is_majority_of, else-is_majority_of}
use Rattle.dr_lead.proofs.propose.may_propose.Goals as goal

pub returns-then-are_final : goal.returns-then-are_final
returns-then-are_final c = (
  λ all. (
    record {
      unproposed = grind (arith, common_steps);
      promised = grind (arith, common_steps);
      majority = grind (arith, common_steps);
      final = elim c.if-is_majority_of.branch [
        | then-is_majority_of w ↦ subst (λ (of : ℕ). AllCountsFinal of c.args.s.now.members c.args.rows.now)
            c.unsuspected-of.ensures.value (w.are_final.ensures.0 (sym w.value-is ∙ c.if-are_final.true))
        | else-is_majority_of w ↦ absurd (cc)
      ];
      promises = subst Promised c.unsuspected-of.ensures.value (c.all_promised.ensures.0 all);
    },
    grind (arith, common_steps),
  ),
  λ may. c.all_promised.ensures.1 (subst Promised (sym c.unsuspected-of.ensures.value) may.0.promises),
)
  where
    Promised : ℕ → Type 0
    Promised of = (i : ℕ) → has of i ≡ true → AllPromise c.args.rows.now c.args.s.now.members i c.args.s.now.me
