use Rattle.std.{specs.{Prelude.filter_map, Result.result_err}, proofs.Common.{ap, sym, ◌∙◌}}
use Rattle.std.specs.FinMap as maps
use Rattle.dr_entry.proofs.{BoolFacts.holds, ListFacts.by_bytes}
use Rattle.dr_store.{specs.{Commands.contents, Stock.{found_at, values_at}, Tables.listed}, proofs.Scanning.values_in}
use Rattle.dr_store.proofs.Standing.{not_refused}
use Rattle.dr_store.proofs.store.Store.scan_at.Goals as goal

pub returns-clause-values : goal.returns-clause-values
returns-clause-values c =
    let prefix = c.args.prefix.now in let v = c.args.version in
    c.in_ok-scan.ensures ∙ ap (filter_map (found_at prefix v))
    (sym (maps.entries-from_sorted by_bytes (listed c.self.inside.changes.entries) (holds c.self.invariant.0)))
    ∙ ap (λ s. values_at s prefix v) c.self.view_is

pub returns-clause-folded : goal.returns-clause-folded
returns-clause-folded c h stands =
    let v = c.args.version in
    let there = not_refused c.args.self.now v (sym c.check.ensures ∙ ap result_err c.in_ok-check.was) in
    returns-clause-values c ∙ values_in c.args.self.now c.args.prefix.now v (contents h v)
    (λ key. stands.gives v key there.0 there.1)
