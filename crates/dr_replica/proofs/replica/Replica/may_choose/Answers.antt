use Rattle.std.proofs.Common.{◌≡◌, ◌||◌, is_some, sym, ap, ◌∙◌}
use Rattle.dr_program.specs.Replica.{may_accept, may_propose}
use Rattle.dr_replica.{specs.Inside.replica_inside, proofs.Choosing.{accept_told, propose_told, stands}}
use Rattle.dr_replica.proofs.replica.Replica.may_choose.Goals as goal

pub returns-then-is_some : goal.returns-then-is_some
returns-then-is_some c =
    let told : is_some c.try_propose.result ≡ may_propose c.args.self.now =
    propose_told (replica_inside c.self.inside) c.standing-standing.result c.try_propose.result c.self.invariant.form
    (stands (replica_inside c.self.inside) c.args.self.now c.standing-standing.result c.self.view_is
    c.standing-standing.ensures.form c.standing-standing.ensures.members c.standing-standing.ensures.suspects
    c.standing-standing.ensures.logged) c.try_propose.ensures ∙ ap may_propose c.self.view_is in
    c.if-is_some.true
    ∙ sym (ap (λ b. b || may_accept c.args.self.now) (sym told ∙ sym c.is_some.ensures ∙ c.if-is_some.true))

pub returns-else-is_some : goal.returns-else-is_some
returns-else-is_some c =
    let form = c.self.invariant.form in
    let told : is_some c.try_propose.result ≡ may_propose c.args.self.now =
    propose_told (replica_inside c.self.inside) c.standing-standing.result c.try_propose.result form
    (stands (replica_inside c.self.inside) c.args.self.now c.standing-standing.result c.self.view_is
    c.standing-standing.ensures.form c.standing-standing.ensures.members c.standing-standing.ensures.suspects
    c.standing-standing.ensures.logged) c.try_propose.ensures ∙ ap may_propose c.self.view_is in
    let accepts : is_some c.try_accept.result ≡ may_accept c.args.self.now =
    accept_told (replica_inside c.self.inside) c.standing-standing.result c.try_accept.result form
    (stands (replica_inside c.self.inside) c.args.self.now c.standing-standing.result c.self.view_is
    c.standing-standing.ensures.form c.standing-standing.ensures.members c.standing-standing.ensures.suspects
    c.standing-standing.ensures.logged) c.try_accept.ensures ∙ ap may_accept c.self.view_is in
    c.is_some-else-is_some.ensures ∙ accepts
    ∙ sym (ap (λ b. b || may_accept c.args.self.now) (sym told ∙ sym c.is_some.ensures ∙ c.if-is_some.false))
