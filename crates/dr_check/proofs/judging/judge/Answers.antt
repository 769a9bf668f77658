use Rattle.std.{specs.Prelude.{IfNone, IfSome}, proofs.lemmas.Bool.cases_lt}
use Rattle.std.proofs.Common.{◌≡◌, ◌<◌, ◌≤◌, ◌⊎◌, inl, inr, ap, ◌∙◌, subst, arith, ℕ, Option, get_or}
use Rattle.dr_text.specs.declared.last.Clause.{Clause, TheVariants.Start}
use Rattle.dr_check.specs.Flaws.{KeepsClause, BreaksClause, rank}
use Rattle.dr_check.proofs.Order.{clauses, at_rank, rank_at, rank_small}
use Rattle.dr_check.proofs.judging.judge.Goals as goal

pub returns-in-Some-clause-some : goal.returns-in-Some-clause-some
returns-in-Some-clause-some c =
    let k = c.loop-clause.clause-index in
    record {
      before = λ d less. c.loop-clause.invariant d (omega (arith, less, rank_at k c.loop-clause-test.true));
      breaks = subst (λ (r : Option ℕ). IfSome r (BreaksClause (get_or clauses k Start) c.args.script.now
          c.args.report.now)) c.in-Some.is c.breach_of_report.ensures.some;
    }

pub loop-clause-preserved : goal.loop-clause-preserved
loop-clause-preserved c d less = by (cases_lt (rank d) c.loop-clause.clause-index)
  where
    here : KeepsClause (get_or clauses c.loop-clause.clause-index Start) c.args.script.now c.args.report.now
    here = subst (λ (r : Option ℕ). IfNone r (KeepsClause (get_or clauses c.loop-clause.clause-index Start)
        c.args.script.now c.args.report.now)) c.in_default.is c.breach_of_report.ensures.none

    by : (rank d < c.loop-clause.clause-index) ⊎ (c.loop-clause.clause-index ≤ rank d)
        → KeepsClause d c.args.script.now c.args.report.now
    by (inl below) = c.loop-clause.invariant d below
    by (inr above) =
        let e : c.loop-clause.clause-index ≡ rank d = omega (arith, above, less) in
        subst (λ (x : Clause). KeepsClause x c.args.script.now c.args.report.now)
        (ap (λ k. get_or clauses k Start) e ∙ at_rank d) here

pub returns-clause-none : goal.returns-clause-none
returns-clause-none c d = c.loop-clause.invariant d (omega (arith, rank_small d, c.loop-clause-test.false))
