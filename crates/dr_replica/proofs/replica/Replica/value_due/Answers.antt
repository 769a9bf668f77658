use Rattle.std.proofs.Common.{◌≡◌, false, is_some, sym, ap, ◌∙◌}
use Rattle.dr_program.{specs.Replica.{is_wedged, may_propose, value_due}, proofs.Voting.wedged_inside}
use Rattle.dr_replica.{specs.Inside.replica_inside, proofs.Choosing.{accepts, propose_told, proposes, stands}}
use Rattle.dr_replica.proofs.replica.Replica.value_due.Goals as goal

pub returns-in-Some : goal.returns-in-Some
returns-in-Some c =
    proposes (replica_inside c.self.inside) c.standing-standing.result c.try_propose.result c.in-Some.value
    c.self.invariant.form
    (wedged_inside (replica_inside c.self.inside) c.self.invariant.form
    (ap is_wedged c.self.view_is ∙ c.requires.wedged))
    (stands (replica_inside c.self.inside) c.args.self.now c.standing-standing.result c.self.view_is
    c.standing-standing.ensures.form c.standing-standing.ensures.members c.standing-standing.ensures.suspects
    c.standing-standing.ensures.logged)
    c.try_propose.ensures c.in-Some.is c.has_all_trims.ensures ∙ ap value_due c.self.view_is

pub returns : goal.returns
returns c =
    let none : is_some c.try_propose.result ≡ false = ap is_some c.in_default.is in
    let told : is_some c.try_propose.result ≡ may_propose (replica_inside c.self.inside) =
    propose_told (replica_inside c.self.inside) c.standing-standing.result c.try_propose.result c.self.invariant.form
    (stands (replica_inside c.self.inside) c.args.self.now c.standing-standing.result c.self.view_is
    c.standing-standing.ensures.form c.standing-standing.ensures.members c.standing-standing.ensures.suspects
    c.standing-standing.ensures.logged) c.try_propose.ensures in
    accepts (replica_inside c.self.inside) c.standing-standing.result c.promised_value-value.result
    c.self.invariant.form
    (stands (replica_inside c.self.inside) c.args.self.now c.standing-standing.result c.self.view_is
    c.standing-standing.ensures.form c.standing-standing.ensures.members c.standing-standing.ensures.suspects
    c.standing-standing.ensures.logged) (sym told ∙ none) c.promised_value-value.ensures c.has_all_trims-2.ensures
    ∙ ap value_due c.self.view_is
