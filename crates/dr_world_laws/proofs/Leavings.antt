-- Members are ended by suspicion only where they are left out.
use Rattle.std.specs.Prelude.{⊤, Option, None, Some}
use Rattle.std.proofs.Common.{All, List, ◌⊎◌, inl, inr, ◌≡◌, refl, ap, sym, ◌∙◌, subst, ℕ, ◌<◌, ◌&&◌, not}
use Rattle.std.proofs.lemmas.{Bool.and_parts, List.Elements.{All-head, All-tail}}
use Rattle.dr_entry.specs.declared.end.End.{End, TheVariants.{Suspected, NoMajority}}
use Rattle.dr_history.specs.Members.{has}
use Rattle.dr_words.specs.{Masks.{IsMajorityOf, without}, declared.column.TheConstants.SUSPECTED_COLUMN}
use Rattle.dr_words.proofs.Masks.{has_without_mask}
use Rattle.dr_machine.specs.{Acts.{CanTake, effect_of}, Events.{member_of, step_of}, Group.{Group, IsGroup, roster}}
use Rattle.dr_machine.specs.Guards.{IsDue, IsFault, IsInView, IsMinority, IsSuspectedBy}
use Rattle.dr_machine.specs.{Run.{Way, WordsGrew, with_table}, World.{Table, World}, declared.step.Step.Step}
use Rattle.dr_machine.proofs.{Ends.{EndsSo, IsStill, ended_so}, Events.standing, Runs.by_way}
use Rattle.dr_faithful.specs.{Chosen.{AreChosen, Values, views_by}, Faithful.Faithful, Tells.Views}
use Rattle.dr_faithful.proofs.{Faithfulness.words_on, Suspicions.{members_small, suspicions_told}}
use Rattle.dr_world_laws.{specs.Ends.{IsLeftWith, IsSuspectedBack}, proofs.Reached.{all-go_on, known}}

-- an end by suspicion is that of a member that is left out of its view
abbrev pub IsLeftSo : World → ℕ → Option End → Type 0
IsLeftSo w m (Some (Suspected by)) = IsSuspectedBack w m by
IsLeftSo w m (Some (NoMajority mask)) = IsLeftWith w m mask
IsLeftSo w m end = ⊤

abbrev pub AreLeftSo : Group → World → Type 0
AreLeftSo g w = (m : ℕ) → m < roster g → IsLeftSo w m (w.end m)

-- ---- a member ends

-- who is seen to suspect a member does
named_so : (g : Group) (V : Views) (w : World) (m by : ℕ) → Faithful g V w → IsSuspectedBy w m by
    → IsSuspectedBack w m by
named_so g V w m by f due = record {
  member = due.row.member;
  other = due.row.other;
  unsuspected = due.unsuspected;
  suspects = ((suspicions_told g V w f).seen m by SUSPECTED_COLUMN due.row.other).suspected refl m due.named;
}

-- a member whose others that it trusts are few is among those, and they are of its view
few_left : (g : Group) (V : Views) (w : World) (m mask : ℕ) → IsGroup g → Faithful g V w → IsInView w m
    → IsMinority w m mask → IsLeftWith w m mask
few_left g V w m mask is f own due = record {
  unsuspected = due.unsuspected;
  own = who m ∙ rw (f.suspicions.trusted m, own) refl;
  members = λ i h. (and_parts _ _ (sym (who i) ∙ h)).0;
  minority = due.minority;
}
  where
    who : (i : ℕ) → has mask i ≡ (has (w.members m) i && not (has (w.suspects m) i))
    who i = ap (λ x. has x i) due.unsuspected
        ∙ has_without_mask (w.members m) (w.suspects m) i (members_small g V w m is f)

-- a member that ends by suspicion is left out: no suspicion comes over one as a fault
stops_so : (g : Group) (V : Views) (w : World) (m : ℕ) (end : End) → IsGroup g → Faithful g V w
    → (IsInView w m × IsDue w m end) ⊎ IsFault end → IsLeftSo w m (Some end)
stops_so g V w m (Suspected by) is f (inl due) = named_so g V w m by f due.1
stops_so g V w m (NoMajority mask) is f (inl due) = few_left g V w m mask is f due.0 due.1
stops_so g V w m (Suspected by) is f (inr fault) = absurd fault
stops_so g V w m (NoMajority mask) is f (inr fault) = absurd fault
stops_so g V w m end is f why = tt

-- ---- a member has ended

-- who was left out is so later, as it stands as it did, and no word falls
stays_so : (g : Group) (w u : World) (k : ℕ) (end : End) → WordsGrew g w u → IsStill w (standing u) k
    → IsLeftSo w k (Some end) → IsLeftSo u k (Some end)
stays_so g w u k (Suspected by) grew same old = record {
  member = ap (λ mask. has mask by) same.members ∙ old.member;
  other = old.other;
  unsuspected = ap (λ mask. has mask by) same.suspects ∙ old.unsuspected;
  suspects = ap (λ v. has (u.past.own by v SUSPECTED_COLUMN) k) same.view
      ∙ (grew.own by (w.past.view k) SUSPECTED_COLUMN).suspected refl k old.suspects;
}
stays_so g w u k (NoMajority mask) grew same old = record {
  unsuspected = old.unsuspected ∙ sym (ap (λ view. without view (u.suspects k)) same.members
      ∙ ap (λ other. without (w.members k) other) same.suspects);
  own = old.own;
  members = λ i h. ap (λ view. has view i) same.members ∙ old.members i h;
  minority = subst (λ view. ¬ IsMajorityOf mask view) (sym same.members) old.minority;
}
stays_so g w u k end grew same old = tt

-- ---- one step

-- who has ended after it was left out so before, or is so as it ends
step_leaves : (g : Group) (V : Views) (w : World) (m : ℕ) (s : Step) → IsGroup g → Faithful g V w
    → CanTake g w m s → WordsGrew g w (effect_of g w m s) → AreLeftSo g w → AreLeftSo g (effect_of g w m s)
step_leaves g V w m s is f can grew old k l = by ((effect_of g w m s).end k) refl
  where
    so : (end : End) → EndsSo w k end → IsLeftSo w k (Some end)
    so end (inl before) = subst (IsLeftSo w k) before (old k l)
    so end (inr why) = stops_so g V w k end is f why

    by : (o : Option End) → (effect_of g w m s).end k ≡ o → IsLeftSo (effect_of g w m s) k o
    by None e = tt
    by (Some end) e =
        let t = ended_so g w m s k end can e in stays_so g w (effect_of g w m s) k end grew t.0 (so end t.1)

-- words that arrive leave nobody out, and take nobody back
arrival_leaves : (w : World) (table : Table) (k : ℕ) (o : Option End) → IsLeftSo w k o
    → IsLeftSo (with_table w table) k o
arrival_leaves w table k None old = tt
arrival_leaves w table k (Some (Suspected by)) old = record {
  member = old.member;
  other = old.other;
  unsuspected = old.unsuspected;
  suspects = old.suspects;
}
arrival_leaves w table k (Some (NoMajority mask)) old = record {
  unsuspected = old.unsuspected;
  own = old.own;
  members = old.members;
  minority = old.minority;
}
arrival_leaves w table k (Some end) old = tt

-- ---- every run

-- so it is in every world that is reached
pub left_so : (g : Group) (values : Values) (us : List World) (w : World) → IsGroup g → Way g us w
    → All (AreChosen values) us → AreLeftSo g w
left_so g values us w is r chosen = by_way g (AreChosen values) (λ us u. AreLeftSo g u) (λ us u e run all can y.
    let k = known g values us u is run (All-tail (AreChosen values) u us all) in
    step_leaves g (views_by g values) u (member_of e) (step_of e) is k.faithful can (words_on g
    (views_by g values) u e is (all-go_on g values u is k (All-head (AreChosen values) u us all)) can k.faithful) y)
    (λ us u table run all come y m l. arrival_leaves u table m (u.end m) (y m l)) (λ m l. tt) us w r chosen
