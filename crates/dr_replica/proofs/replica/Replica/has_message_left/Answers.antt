use Rattle.std.proofs.Common.{◌≡◌, ◌+◌, ◌∙◌, ap₂, subst, length, nat_lt}
use Rattle.dr_program.{specs.Replica.{Replica, next_index}, proofs.Keeps.message_left}
use Rattle.dr_replica.specs.Inside.{replica_inside}
use Rattle.dr_replica.proofs.replica.Replica.has_message_left.Goals as goal

pub returns : goal.returns
returns c = subst (λ (r : Replica). nat_lt (c.self.inside.base + c.len.result) c.len-2.result ≡ nat_lt (next_index r)
    (length r.messages)) c.self.view_is (ap₂ (λ put messages. nat_lt (c.self.inside.base + put) messages)
    (c.len.ensures ∙ c.self.inside.sent.ok.0) (c.len-2.ensures ∙ c.self.inside.messages.ok.0)
    ∙ message_left (replica_inside c.self.inside) c.self.invariant.form)
