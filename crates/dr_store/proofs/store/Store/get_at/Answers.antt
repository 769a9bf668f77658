use Rattle.std.{specs.{Prelude.{None, Some}, Result.result_err}, proofs.Common.{ap, sym, ◌∙◌}}
use Rattle.dr_store.{specs.Stock.{value_by, value_at}, proofs.{Standing.not_refused, Tables.changes_found}}
use Rattle.dr_store.proofs.store.Store.get_at.Goals as goal

pub returns-in-Some-clause-value : goal.returns-in-Some-clause-value
returns-in-Some-clause-value c =
    let key = c.args.key.now in let v = c.args.version in
    c.at.ensures.value ∙ ap (value_by v)
    (sym (changes_found c.self.inside.changes.entries key (Some c.in-Some.changes.now) c.self.invariant.0
    (sym c.in-Some.ensures.value))) ∙ ap (λ s. value_at s key v) c.self.view_is

pub returns-in-Some-clause-folded : goal.returns-in-Some-clause-folded
returns-in-Some-clause-folded c h stands =
    let there = not_refused c.args.self.now c.args.version (sym c.check.ensures ∙ ap result_err c.in_ok-check.was) in
    returns-in-Some-clause-value c ∙ stands.gives c.args.version c.args.key.now there.0 there.1

pub returns-in-None-clause-value : goal.returns-in-None-clause-value
returns-in-None-clause-value c =
    let key = c.args.key.now in let v = c.args.version in
    ap (value_by v)
    (sym (changes_found c.self.inside.changes.entries key None c.self.invariant.0 (sym c.in-None.ensures.value)))
    ∙ ap (λ s. value_at s key v) c.self.view_is

pub returns-in-None-clause-folded : goal.returns-in-None-clause-folded
returns-in-None-clause-folded c h stands =
    let there = not_refused c.args.self.now c.args.version (sym c.check.ensures ∙ ap result_err c.in_ok-check.was) in
    returns-in-None-clause-value c ∙ stands.gives c.args.version c.args.key.now there.0 there.1
