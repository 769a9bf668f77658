use Rattle.std.proofs.Common.{◌+◌, ◌<◌, ◌∙◌, ℕ, ap, subst, sym, length}
use Rattle.dr_machine.proofs.Sending.{only_messages}
use Rattle.dr_program.specs.Replica.{Replica, next_index}
use Rattle.dr_replica.specs.Inside.{replica_inside}
use Rattle.dr_replica.proofs.replica.Replica.next_index.Goals as goal

pub returns : goal.returns
returns c =
    let v : Replica = replica_inside c.self.inside in
    let left : next_index v < length v.messages =
    subst (λ (r : Replica). next_index r < length r.messages) (sym c.self.view_is) c.requires in
    ap (λ (n : ℕ). c.self.inside.base + n)
    (c.len.ensures ∙ c.self.inside.sent.ok.0 ∙ sym (only_messages v.base (length v.messages) v.sent c.self.invariant.form.order left))
    ∙ ap next_index c.self.view_is
