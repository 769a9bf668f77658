use Rattle.std.proofs.Common.{◌+◌, ◌≤◌, unwrap_or, ap, subst, ◌∙◌, arith}
use Rattle.dr_entry.specs.declared.record.Vote.{Vote}
use Rattle.dr_words.specs.Rewrites.{accepted_word}
use Rattle.dr_machine.specs.World.{no_vote}
use Rattle.dr_program.{specs.Replica.accepted, proofs.{Accepting.accepted_rises, Voting.promise_within}}
use Rattle.dr_rows.specs.Words.{own}
use Rattle.dr_replica.{specs.Inside.replica_inside, proofs.Insides.{accepted_after, accepted_kept}}
use Rattle.dr_replica.proofs.replica.Replica.accept.Goals as goal

pub overflow_add-acceptance : goal.overflow_add-acceptance
overflow_add-acceptance c =
    let f = c.self.invariant.form in
    let due = f.waits c.unwrap-vote.result c.unwrap-vote.ensures in
    omega (arith, due.ballot, promise_within (replica_inside c.self.inside) f, f.members, f.rows.few)

pub rewrite-requires-clause-rises : goal.rewrite-requires-clause-rises
rewrite-requires-clause-rises c = λ column.
    let a = c.self.inside in
    subst (λ (x : Vote). own a.rows column ≤ accepted_word a.shape.members a.members
    (x.ballot + 1) x.value column (own a.rows column)) (ap (λ o. unwrap_or o no_vote) c.unwrap-vote.ensures)
    (accepted_rises (replica_inside a) c.unwrap-vote.result column c.self.invariant.form c.unwrap-vote.ensures)

pub invariant_of-self : goal.invariant_of-self
invariant_of-self c = accepted_kept c.self.inside c.unwrap-vote.result c.rewrite.new.rows c.self.invariant
    c.unwrap-vote.ensures
    (accepted_after c.self.inside c.unwrap-vote.result c.rewrite.new.rows c.unwrap-vote.ensures c.rewrite.ensures)

pub returns : goal.returns
returns c = accepted_after c.self.inside c.unwrap-vote.result c.rewrite.new.rows c.unwrap-vote.ensures
    c.rewrite.ensures ∙ ap accepted c.self.view_is
