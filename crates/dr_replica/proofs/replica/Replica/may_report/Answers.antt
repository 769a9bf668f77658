use Rattle.std.proofs.{Common.{◌≡◌, ◌+◌, ◌↔◌, true, subst, arith, sym, ap, ◌∙◌}, lemmas.Bool.Decides.nat_tests}
use Rattle.dr_pred.specs.Watches.{AllLogged}
use Rattle.dr_program.{specs.Replica.{Replica, may_report}, proofs.Least.none_above}
use Rattle.dr_replica.{specs.Inside.replica_inside, proofs.Received.logged_test}
use Rattle.dr_words.specs.declared.column.TheConstants.{LOGGED_COLUMN}
use Rattle.dr_replica.proofs.replica.Replica.may_report.Goals as goal

pub returns-then-self-lt18446744073709551615 : goal.returns-then-self-lt18446744073709551615
returns-then-self-lt18446744073709551615 c =
    let a = c.self.inside in
    let one : c.saturating_add.result ≡ a.durable + 1 =
    omega (arith, c.saturating_add.ensures, c.if-self-lt18446744073709551615.true) in
    subst (λ (r : Replica). c.holds.result ≡ may_report r) c.self.view_is
    (logged_test (replica_inside a) c.holds.result c.self.invariant.form c.if-self-lt18446744073709551615.true
    (subst (λ n. (c.holds.result ≡ true) ↔ AllLogged a.members n a.rows) one c.holds.ensures))

pub returns-else-self-lt18446744073709551615 : goal.returns-else-self-lt18446744073709551615
returns-else-self-lt18446744073709551615 c =
    let a = c.self.inside in
    let high = c.if-self-lt18446744073709551615.false in
    grind (arith, nat_tests, high) ∙ sym (none_above (replica_inside a) LOGGED_COLUMN a.durable high)
    ∙ ap may_report c.self.view_is
