use Rattle.std.specs.Prelude.{vec_capacity}
use Rattle.std.proofs.Common.{◌≡◌, ◌<◌, None, Some, true, rules, length, sym, ap, subst, ◌∙◌, arith, le_trans}
use Rattle.dr_program.{specs.{Form.HasForm, Replica.{Replica, may_vote, voted}}, proofs.Accepting.voted_form}
use Rattle.dr_program.proofs.{Replicas.may_of, Voting.vote_room}
use Rattle.dr_replica.{specs.Inside.replica_inside, proofs.Insides.{voted_after, votes_kept}}
use Rattle.dr_replica.proofs.replica.Replica.vote.Goals as goal

may : (c : goal.After-push) → may_vote (replica_inside c.self.inside) c.args.value ≡ true
may c = may_of (λ (r : Replica). may_vote r c.args.value) (replica_inside c.self.inside) c.args.self.now
    c.self.view_is c.requires.may

free : (c : goal.After-push) → c.self.inside.pending ≡ None
free c = ap (λ (r : Replica). r.pending) c.self.view_is ∙ c.requires.free

room : (c : goal.After-push) → length c.self.inside.votes.items < vec_capacity c.self.inside.votes
room c = omega (
  arith,
  vote_room (replica_inside c.self.inside) c.args.value c.self.invariant.form (free c) (may c),
  c.self.invariant.votes,
)

pub unwrap-requires : goal.unwrap-requires
unwrap-requires c = c.push.ensures.succeeds (omega (arith, room c, c.self.inside.votes.ok.0))

there : (c : goal.After-self-1)
    → record (replica_inside c.self.inside) { pending = Some c.vote_of-vote.result; votes = c.push.new.self.items }
    ≡ voted (replica_inside c.self.inside) c.args.value
there c = voted_after c.self.inside c.args.self.now c.args.value c.vote_of-vote.result c.push.new.self.items
    c.self.view_is c.vote_of-vote.ensures (search rules)

form : (c : goal.After-self-1) → HasForm
    (record (replica_inside c.self.inside) { pending = Some c.vote_of-vote.result; votes = c.push.new.self.items })
form c = subst HasForm (sym (there c)) (voted_form (replica_inside c.self.inside) c.args.value c.self.invariant.form
    (ap (λ (r : Replica). r.pending) c.self.view_is ∙ c.requires.free)
    (may_of (λ (r : Replica). may_vote r c.args.value) (replica_inside c.self.inside) c.args.self.now
    c.self.view_is c.requires.may))

pub invariant_of-self : goal.invariant_of-self
invariant_of-self c = votes_kept c.self.inside (Some c.vote_of-vote.result) c.push.new.self c.self.invariant
    (le_trans c.self.invariant.votes c.push.ensures.capacity) (form c)

pub returns-clause-form : goal.returns-clause-form
returns-clause-form c = form c
