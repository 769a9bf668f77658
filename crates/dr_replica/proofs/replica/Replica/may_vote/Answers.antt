use Rattle.std.{specs.Prelude.nat_eq, proofs.Common.{◌==◌, ◌&&◌, sym, ap, ◌∙◌}}
use lib.Pointwise.{pointwise}
use Rattle.dr_entry.specs.declared.record.Value.{Value}
use Rattle.dr_program.proofs.{Replicas.vote_told, Voting.{no_vote_told, value_compared}}
use Rattle.dr_replica.proofs.replica.Replica.may_vote.Goals as goal

pub returns-then-votes : goal.returns-then-votes
returns-then-votes c = value_compared c.args.self.now c.args.value.now c.eq.result
    (c.eq.ensures ∙ ap (λ (v : Value). (c.args.value.now.leavers == v.leavers)
    && pointwise nat_eq c.args.value.now.trim v.trim) c.value_due.ensures)
    ∙ sym (vote_told c.args.self.now c.args.value.now (sym c.votes.ensures ∙ c.if-votes.true))

pub returns-else-votes : goal.returns-else-votes
returns-else-votes c = c.if-votes.false
    ∙ sym (no_vote_told c.args.self.now c.args.value.now (sym c.votes.ensures ∙ c.if-votes.false))
