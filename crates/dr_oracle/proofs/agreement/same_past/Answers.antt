use Rattle.std.proofs.{Common.{refl, arith, below_more}, lemmas.Option.slice_get_within}
use Rattle.dr_oracle.proofs.agreement.same_past.Goals as goal

pub loop-j-preserved : goal.loop-j-preserved
loop-j-preserved c = below_more _ _ c.loop-j.invariant (c.same_past_at.ensures.0 c.if-not-same_past_at.false)

pub loop-i-preserved : goal.loop-i-preserved
loop-i-preserved c = below_more _ _ c.loop-i.invariant (λ j age number m n at there. c.loop-j.invariant j
    (omega (arith, slice_get_within c.args.other.now j _ there)) age number m n at there)

pub returns : goal.returns
returns c = (
  λ _ i j age number m n at there. c.loop-i.invariant i
      (omega (arith, slice_get_within c.args.one.now i _ at)) j age number m n at there,
  λ _. refl,
)
