use Rattle.std.proofs.Common.{◌≤◌, ℕ, Decides, List, length, subst, arith}
use Rattle.dr_entry.specs.declared.entry.Entry.{Entry}
use Rattle.dr_history.specs.Agreement.{accounts_of}
use Rattle.dr_oracle.{specs.Agreeing.IsInLoggedView, proofs.Durable.prompt_decides}
use Rattle.dr_oracle.proofs.agreement.knows_durable.Goals as goal

pub returns-then-opening : goal.returns-then-opening
returns-then-opening c =
    let known = c.durable_of-durable.ensures in
    let own : (accounts_of c.args.ends.now c.args.member).durable
    ≤ length (accounts_of c.args.ends.now c.args.member).log =
    omega (arith, known, c.logged_by.ensures, c.if-logged_by-durable.false) in
    prompt_decides c.args.opening.now (accounts_of c.args.ends.now) c.args.member c.is_in_logged_view.result
    c.if-opening.true own (subst (λ (h : List Entry). Decides c.is_in_logged_view.result
    (IsInLoggedView (accounts_of c.args.ends.now) c.args.opening.now.age
    (accounts_of c.args.ends.now c.args.member).durable h c.args.member)) c.history_of-history.ensures
    (subst (λ (n : ℕ). Decides c.is_in_logged_view.result
    (IsInLoggedView (accounts_of c.args.ends.now) c.args.opening.now.age n c.history_of-history.result.now
    c.args.member)) known c.is_in_logged_view.ensures))
