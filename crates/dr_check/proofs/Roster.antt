-- Entries that may stand on a log may stand in a start.
use Rattle.std.proofs.Common.{◌≡◌, ◌≢◌, refl, Bool, true, false, inl, inr, sym, ap, ◌∙◌, subst, ℕ, ◌+◌, ◌<◌, ◌≤◌, arith, List, [], length, take, All, Some, slice_get, slice_index_or}
use Rattle.dr_entry.{specs.declared.entry.Entry.{Entry, TheVariants.{View, Msg}}, proofs.OptionFacts.IsSomeAnd-more}
use Rattle.dr_history.{specs.{History.{GroupView, view_of}, Soundness.MayStand}, proofs.MemberLemmas.has-member}
use Rattle.dr_history.{specs.Members.{has, members_of}, proofs.{Bits.has_zero, Masks.same_masks, Stood.named_below}}
use Rattle.dr_history.specs.{Order.{AreOfRoster, ContinuesAge}, Restarting.AllStand, declared.opening.Opening.Opening}
use Rattle.dr_script.specs.declared.script.Script.{Script}
use Rattle.dr_check.specs.Clauses.{Continues, MayStart}

-- what may stand on a log may stand in a start
pub may_start : (script : Script) (o : Opening) (es : List Entry) → o.messages ≡ script.messages
    → length o.messages ≡ script.members → script.members ≤ 16 → AllStand o es → (i : ℕ) (e : Entry)
    → slice_get es i ≡ Some e → MayStart script (take i es) e
may_start script o es same many most stand i (View a k m) at = (
  λ none. by none (stand i (View a k m) at).0,
  subst (λ (n : ℕ). All (λ s. s < n) (members_of m)) many (named_below o es stand i a k m at),
  continues (stand i (View a k m) at),
)
  where
    by : members_of m ≡ [] → AreOfRoster (length o.messages) m → ⊥
    by none of = absurd (omega (arith, of.some, same_masks m 0 (λ j. out j (has m j) refl)))
      where
        out : (j : ℕ) (b : Bool) → has m j ≡ b → has m j ≡ has 0 j
        out j false e = e ∙ sym (has_zero j)
        out j true e =
            let c = has-member m j e (omega (arith, of.within j e, many, most)) in
            let within = c.1 in absurd (omega (arith, within, ap length none))

    apart : (v : GroupView) → ContinuesAge v a k m → (a ≡ v.age) × (k ≡ v.number + 1) × (members_of m ≢ v.members)
    apart v f = (f.same_age, f.next_number, f.other)

    continues : MayStand o (take i es) (View a k m) → Continues (view_of (take i es)) a k m
    continues (of, inl opens) = inl (opens.first, opens.later)
    continues (of, inr goes) = inr (IsSomeAnd-more (view_of (take i es))
        (λ v. ContinuesAge v a k m) (λ v. (a ≡ v.age) × (k ≡ v.number + 1) × (members_of m ≢ v.members)) apart goes)
may_start script o es same many most stand i (Msg s k b) at =
    let stands = stand i (Msg s k b) at in (
      stands.0,
      stands.1,
      subst (λ (ms : List (List (List ℕ))). slice_get (slice_index_or ms s []) k ≡ Some b) same stands.2,
    )
