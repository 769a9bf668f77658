use Rattle.dr_oracle.proofs.Endings.{EndsAgreed-decides}
use Rattle.dr_oracle.proofs.agreement.agreed.Goals as goal

pub returns-then-all_told : goal.returns-then-all_told
returns-then-all_told c = EndsAgreed-decides c.args.opening.now c.args.ends.now c.all_agree.result (
  λ t. (c.all_told.ensures.0 c.if-all_told.true, c.all_agree.ensures.0 t),
  λ f. c.all_agree.ensures.1 f.1,
)
