-- What a member is behind a deed, and which deeds are left to it in the turn.
use Rattle.std.proofs.Common.{◌≡◌, ℕ, subst}
use Rattle.dr_program.specs.{Form.IsRunningMember, Running.{Running, after_step}, Turn.after}
use Rattle.dr_turn.specs.Work.{IsAfterDeed}

-- what a running member is after a deed, once it has settled
pub record IsAnswer (word : ℕ) (r x : Running) : Type 0 where
  pub after : x ≡ after_step word r
  pub form : IsRunningMember x
  pub done : IsAfterDeed r x

-- the same of what contracts see of the member before
pub answer_at : (word : ℕ) (r now x : Running) → r ≡ now → IsAnswer word r x → IsAnswer word now x
answer_at word r now x view a = subst (λ (y : Running). IsAnswer word y x) view a
