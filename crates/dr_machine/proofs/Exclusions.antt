-- Members are excluded only by the value that they have committed.
use Rattle.std.proofs.Common.{Some, ℕ, ◌≡◌, inl, inr, ap, sym, ◌+◌, ◌∙◌}
use Rattle.dr_entry.specs.declared.end.End.TheVariants.{Excluded}
use Rattle.dr_machine.specs.{Acts.{CanTake, effect_of}, Events.{member_of, step_of}, Group.Group, Guards.IsExcluded}
use Rattle.dr_machine.specs.{Run.{with_table, IsReached}, World.{World, Table}, declared.step.Step.Step}
use Rattle.dr_machine.proofs.{Ends.{EndsSo, IsStill, ended_so}, Events.standing, Runs.reached}

-- an end by exclusion is that of a member that its committed value names
abbrev AreExcludedSo : World → Type 0
AreExcludedSo w = (m next : ℕ) → w.end m ≡ Some (Excluded next) → IsExcluded w m next

ends_so : (w : World) (m next : ℕ) → AreExcludedSo w → EndsSo w m (Excluded next) → IsExcluded w m next
ends_so w m next old (inl before) = old m next before
ends_so w m next old (inr (inl due)) = due.1
ends_so w m next old (inr (inr fault)) = absurd fault

-- a member that stands as it did is excluded as it was
still_so : (w u : World) (m next : ℕ) → IsStill w (standing u) m → IsExcluded w m next → IsExcluded u m next
still_so w u m next still so = record {
  value = so.value;
  committed = still.committed ∙ so.committed;
  named = so.named;
  next = so.next ∙ ap (λ v. v + 1) (sym still.view);
}

step_excludes : (g : Group) (w : World) (m : ℕ) (s : Step) → CanTake g w m s → AreExcludedSo w
    → AreExcludedSo (effect_of g w m s)
step_excludes g w m s can old k next e =
    let t = ended_so g w m s k (Excluded next) can e in
    still_so w (effect_of g w m s) k next t.0 (ends_so w k next old t.1)

-- words that arrive end nobody
arrival_excludes : (w : World) (table : Table) → AreExcludedSo w → AreExcludedSo (with_table w table)
arrival_excludes w table old k next e =
    let so = old k next e in record { value = so.value; committed = so.committed; named = so.named; next = so.next }

-- so it is in every world that is reached
pub excluded_so : (g : Group) (w : World) (m next : ℕ) → IsReached g w → w.end m ≡ Some (Excluded next)
    → IsExcluded w m next
excluded_so g w m next r = reached g AreExcludedSo (λ u e run can y. step_excludes g u
    (member_of e) (step_of e) can y) (λ u table y. arrival_excludes u table y) (λ k n e. absurd (cc)) w r m next
