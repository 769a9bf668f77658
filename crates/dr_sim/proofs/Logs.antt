-- The logs of a program, where one member and its log go on.
use Rattle.std.specs.Prelude.{Option, Some, None, slice_set}
use Rattle.std.proofs.Common.{◌≡◌, sym, ap, ◌∙◌, subst, inl, inr, ℕ, ◌<◌, List, length, length-set}
use Rattle.std.proofs.lemmas.{Bool.cases_eq, List.{get_or-set_same, get_or-set_other}, Option.same_Some}
use Rattle.dr_disk.specs.Disk.{Told}
use Rattle.dr_log.specs.State.{LogState}
use Rattle.dr_program.specs.{Presence.present_at, Program.Program}
use Rattle.dr_served.specs.Served.{AreReady, AtMember, HaveServed, IsReady}
use Rattle.dr_sim.specs.{Places.{HasServedAt, IsReadyAt}, Sound.AreOthers}

-- the member's log is ready again, and the others are as they were
pub ready_on : {D : Type 0} (logs : List (Option (LogState D))) (place : Option (LogState D)) (p q : Program)
    (m : ℕ) → AreReady logs p.members → length q.members ≡ length p.members → AreOthers p m q
    → AtMember q m (IsReadyAt place) → m < length logs → AreReady (slice_set logs m place) q.members
ready_on logs place p q m ready same others at within = record {
  all = length-set logs m place ∙ ready.all ∙ sym same;
  there = λ k r member. elim (cases_eq k m) [
    | inl here ↦
        let now = at r (ap (present_at q.members) (sym here) ∙ member) in
        (now.0, ap (present_at (slice_set logs m place)) here ∙ get_or-set_same logs m place None within ∙ now.1)
    | inr other ↦
        let old = ready.there k r (sym (others k other) ∙ member) in
        (old.0, get_or-set_other logs m k place None other ∙ old.1)
  ];
  each = λ k l r there member. elim (cases_eq k m) [
    | inl here ↦
        let now = at r (ap (present_at q.members) (sym here) ∙ member) in
        subst (λ x. IsReady x r) (same_Some now.0 l (sym now.1 ∙ sym (get_or-set_same logs m place None within)
        ∙ ap (present_at (slice_set logs m place)) (sym here) ∙ there)) now.2
    | inr other ↦ ready.each k l r (sym (get_or-set_other logs m k place None other) ∙ there)
        (sym (others k other) ∙ member)
  ];
}

-- and has served it
pub served_on : {D : Type 0} (told : D → Option Told) (count : D → ℕ) (bases logs : List (Option (LogState D)))
    (place : Option (LogState D)) (p q : Program) (m : ℕ) → AreOthers p m q → m < length logs
    → ((base : LogState D) → present_at bases m ≡ Some base → AtMember q m (HasServedAt told count base place))
    → HaveServed told count bases logs p.members → HaveServed told count bases (slice_set logs m place) q.members
served_on told count bases logs place p q m others within at served = λ k base l r from there member.
    elim (cases_eq k m) [
      | inl here ↦ at base (ap (present_at bases) (sym here) ∙ from) r
          (ap (present_at q.members) (sym here) ∙ member) l (sym (get_or-set_same logs m place None within)
          ∙ ap (present_at (slice_set logs m place)) (sym here) ∙ there)
      | inr other ↦ served k base l r from (sym (get_or-set_other logs m k place None other) ∙ there)
          (sym (others k other) ∙ member)
    ]

-- ---- the same places
