-- Values by their parts: a row shows one value, and rows give one to propose.
use Rattle.std.proofs.Common.{◌≡◌, ℕ, Bool, true, false, sym, ◌∙◌, inl, inr, refl, subst, arith, length, slice_index}
use Rattle.dr_entry.{specs.declared.record.Value.Value, proofs.Records.same_value}
use Rattle.dr_history.specs.Members.{has}
use Rattle.dr_words.specs.Accepts.{Shown, Shows, tag_of}
use Rattle.dr_words.specs.Changes.{IsFirstValue, IsHighest, IsLeastReceived, IsProposal}

-- a row shows one value
pub shows_once : (n : ℕ) (rows : Shown) (members i : ℕ) (u v : Value) → length u.trim ≡ length v.trim
    → Shows n rows members i u → Shows n rows members i v → u ≡ v
shows_once n rows members i u v long p q =
    same_value u v long (p.leavers ∙ sym q.leavers) (λ s. by s (has members s) refl)
  where
    by : (s : ℕ) (b : Bool) → has members s ≡ b → slice_index u.trim s ≡ slice_index v.trim s
    by s true h = p.trims s h ∙ sym (q.trims s h)
    by s false h = p.others s h ∙ sym (q.others s h)

-- members have one least count of a sender
least_once : (rows : Shown) (of sender a b : ℕ) → IsLeastReceived rows of sender a
    → IsLeastReceived rows of sender b → a ≡ b
least_once rows of sender a b p q = omega (
  arith,
  p.least q.found.0 q.found.1,
  q.found.2,
  q.least p.found.0 p.found.1,
  p.found.2,
)

-- there is one first value
first_once : (rows : Shown) (members suspects : ℕ) (u v : Value) → length u.trim ≡ length v.trim
    → IsFirstValue rows members suspects u → IsFirstValue rows members suspects v → u ≡ v
first_once rows members suspects u v long p q =
    same_value u v long (p.leavers ∙ sym q.leavers) (λ s. by s (has members s) refl)
  where
    by : (s : ℕ) (b : Bool) → has members s ≡ b → slice_index u.trim s ≡ slice_index v.trim s
    by s true h = least_once rows _ s _ _ (p.trims s h) (q.trims s h)
    by s false h = p.others s h ∙ sym (q.others s h)

-- and one row that is the least of those with the highest tag
highest_once : (n : ℕ) (rows : Shown) (of i j : ℕ) → IsHighest n rows of i → IsHighest n rows of j → i ≡ j
highest_once n rows of i j p q =
    let same : tag_of n rows j ≡ tag_of n rows i = omega (arith, p.highest j q.member, q.highest i p.member) in
    omega (arith, p.least j q.member same, q.least i p.member (sym same))

-- so there is one value to propose
pub proposal_once : (n : ℕ) (rows : Shown) (members suspects : ℕ) (u v : Value) → length u.trim ≡ length v.trim
    → IsProposal n rows members suspects u → IsProposal n rows members suspects v → u ≡ v
proposal_once n rows members suspects u v long (inl p) (inl q) = shows_once n rows members q.0 u v long
    (subst (λ i. Shows n rows members i u) (highest_once n rows _ p.0 q.0 p.1 q.1) p.2) q.2
proposal_once n rows members suspects u v long (inl p) (inr q) =
    absurd (omega (arith, p.1.tagged, q.0 p.0 p.1.member))
proposal_once n rows members suspects u v long (inr p) (inl q) =
    absurd (omega (arith, q.1.tagged, p.0 q.0 q.1.member))
proposal_once n rows members suspects u v long (inr p) (inr q) = first_once rows members suspects u v long p.1 q.1
