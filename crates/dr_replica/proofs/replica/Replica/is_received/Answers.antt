use Rattle.std.proofs.{Common.{◌≡◌, ◌∙◌, subst, arith, nat_lt, sym, ap}, lemmas.Bool.Decides.nat_tests}
use Rattle.dr_program.{specs.Replica.{Replica, least_seen}, proofs.Least.none_above}
use Rattle.dr_replica.{specs.Inside.replica_inside, proofs.Received.{is_of_group, received_test}}
use Rattle.dr_words.specs.declared.column.TheConstants.{RECEIVED_COLUMN}
use Rattle.dr_replica.proofs.replica.Replica.is_received.Goals as goal

pub holds-requires : goal.holds-requires
holds-requires c = (
  is_of_group (replica_inside c.self.inside) c.self.invariant.form,
  λ i member. omega (arith, c.self.invariant.form.roster i member, c.self.invariant.form.members),
)

pub returns-then-self-lt18446744073709551615 : goal.returns-then-self-lt18446744073709551615
returns-then-self-lt18446744073709551615 c =
    subst (λ (r : Replica). c.holds.result ≡ nat_lt r.next (least_seen r RECEIVED_COLUMN)) c.self.view_is
    (received_test (replica_inside c.self.inside) c.holds.result c.self.invariant.form
    c.if-self-lt18446744073709551615.true c.holds.ensures)

pub returns-else-self-lt18446744073709551615 : goal.returns-else-self-lt18446744073709551615
returns-else-self-lt18446744073709551615 c =
    let a = c.self.inside in
    let high = c.if-self-lt18446744073709551615.false in
    grind (arith, nat_tests, high) ∙ sym (none_above (replica_inside a) RECEIVED_COLUMN a.next.place high)
    ∙ ap (λ (r : Replica). nat_lt r.next (least_seen r RECEIVED_COLUMN)) c.self.view_is
