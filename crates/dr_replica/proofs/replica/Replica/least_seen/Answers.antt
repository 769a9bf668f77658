use Rattle.std.{specs.Option.unwrap_or, proofs.Common.{◌≡◌, ℕ, Option, ap, ◌∙◌, subst, arith}}
use Rattle.dr_program.{specs.Replica.{Replica, least_seen}, proofs.Least.least_by}
use Rattle.dr_replica.specs.Inside.{replica_inside}
use Rattle.dr_replica.proofs.replica.Replica.least_seen.Goals as goal

pub returns : goal.returns
returns c = subst (λ (r : Replica). c.unwrap_or.result ≡ least_seen r c.args.column) c.self.view_is
    (least_by (replica_inside c.self.inside) c.args.column c.least_word.result c.unwrap_or.result
    c.self.invariant.form c.least_word.ensures.below c.least_word.ensures.among c.least_word.ensures.none
    (λ none. c.unwrap_or.ensures ∙ ap (λ (o : Option ℕ). unwrap_or o 18446744073709551615) none) (λ least is.
    let same : c.unwrap_or.result ≡ least =
    c.unwrap_or.ensures ∙ ap (λ (o : Option ℕ). unwrap_or o 18446744073709551615) is in
    (same, omega (arith, same, c.unwrap_or.type_inv))))
