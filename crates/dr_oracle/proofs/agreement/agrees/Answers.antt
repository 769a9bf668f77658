use Rattle.std.proofs.Common.{List, subst, sym}
use Rattle.dr_entry.{specs.declared.entry.Entry.Entry, proofs.BoolFacts.refuted}
use Rattle.dr_history.specs.Agreement.{accounts_of}
use Rattle.dr_oracle.specs.Agreeing.{AreConsistent}
use Rattle.dr_oracle.proofs.agreement.agrees.Goals as goal

pub returns-else-is_consistent_with_all : goal.returns-else-is_consistent_with_all
returns-else-is_consistent_with_all c = (
  λ t. absurd (cc),
  λ f. absurd (refuted c.is_consistent_with_all.result c.is_consistent_with_all.ensures
      c.if-is_consistent_with_all.false
      (λ j there. subst (λ (h : List Entry). AreConsistent h (accounts_of c.args.ends.now j).history)
      (sym c.history_of-history.ensures) (f.consistent j there))),
)
