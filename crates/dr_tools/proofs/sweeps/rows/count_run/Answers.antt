use Rattle.std.proofs.Common.{◌≡◌, ◌∙◌, ◌+◌, None, Some, ap, bytes_eq, position, rules, set, sym}
use Rattle.dr_tools.{specs.declared.sweeps.rows.Row.Row, proofs.Counting.{run_found, run_missing}}
use Rattle.dr_tools.proofs.sweeps.rows.count_run.Goals as goal

pub returns-in-Some : goal.returns-in-Some
returns-in-Some c =
    let rows = c.args.rows.now.items in
    let at : position (λ (r : Row). bytes_eq r.line c.args.line) rows ≡ Some c.in-Some.index = search rules in
    ap (λ (r : Row). set rows c.in-Some.index (record r { count = r.count + 1 })) c.index_mut.ensures.value
    ∙ sym (run_found c.args.number c.args.line rows c.in-Some.index c.index_mut.result.now at)

pub returns-in_ok-push-in-None : goal.returns-in_ok-push-in-None
returns-in_ok-push-in-None c =
    let rows = c.args.rows.now.items in
    let none : position (λ (r : Row). bytes_eq r.line c.args.line) rows ≡ None = search rules in
    c.in_ok-push-in-None.ensures.items ∙ sym (run_missing c.args.number c.args.line rows none)
