use Rattle.std.proofs.{Common.{ℕ, length, slice_index, sym, ap, subst, ◌∙◌}, lemmas.List.length-map}
use Rattle.dr_history.specs.Members.{members_of}
use Rattle.dr_program.proofs.Replicas.{greatest_most}
use Rattle.dr_replica.specs.Spots.{IsSpot}
use Rattle.dr_replica.proofs.rest.Rest.from.Goals as goal

pub invariant_of-result : goal.invariant_of-result
invariant_of-result c = record {
  most_is = λ i. let e = c.greatest-most.ensures in let f = c.as_slice.ensures.value in
      rw (e, f) (greatest_most c.trims_by_rank-trims.result.items i);
  most_fits = c.greatest-most.type_inv;
  spot = subst (λ (n : ℕ). IsSpot n c.args.next) (sym (ap length c.trims_by_rank-trims.ensures
      ∙ length-map (members_of c.args.members) (slice_index c.args.trim.now))) c.requires;
}
