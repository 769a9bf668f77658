-- An age whose members agree, by what its ends tell.
use Rattle.std.specs.{Int.trailing_zeros, Option.option_map_or, Prelude.{None, Option, find, option_and_then}}
use Rattle.std.proofs.Common.{◌≡◌, refl, sym, ap, ◌∙◌, subst, ℕ, ◌^◌, ◌<◌, ◌≤◌, nat_lt, not, w16, pow_mono, arith, true, false, List, [], length, take, All, Contains, Some, slice_get}
use Rattle.std.proofs.lemmas.{Bool.{and_from, and_parts, Decides.nat_tests}, List.length-take}
use Rattle.std.proofs.lemmas.Option.{slice_get_within}
use Rattle.dr_entry.specs.declared.{end.{AgeEnd.AgeEnd, MemberEnd.MemberEnd}, entry.Entry.{Entry, TheVariants.View}}
use Rattle.dr_entry.proofs.{BoolFacts.not_so, Ends.first_found}
use Rattle.dr_history.specs.{Agreement.{EndsAgreed, accounts_of, sent_by}, History.view_of, Members.{has, members_of}}
use Rattle.dr_history.specs.{Order.InOrder, Restarting.AllStand, Soundness.{IsNobodyLate, IsPresentIn, Sound}}
use Rattle.dr_history.{specs.declared.opening.Opening.Opening, proofs.{Histories.history_of, Lists.first_at}}
use Rattle.dr_history.proofs.Standing.{history-stands}
use Rattle.dr_script.specs.{Ranges.HasGroupRanges, declared.script.Script.Script}
use Rattle.dr_text.specs.Report.{is_absent}
use Rattle.dr_words.{specs.Masks.mask_of, proofs.{Masks.{has_mask_of, in_roster_small}, Ranks.least_member}}
use Rattle.dr_check.specs.Values.{IsAgreed, mask_named, told_members, told_opening, took_part}

-- whoever took part has an end, and not that of an absent member
pub end_there : (script : Script) (a : AgeEnd) (s : ℕ) → IsPresentIn (told_opening script a) s
    → (e : MemberEnd) × (slice_get a.members s ≡ Some e) × (is_absent e.end ≡ false)
end_there script a s here = by (slice_get a.members s) refl
    (and_parts (nat_lt s 16) (took_part a.members s) (sym (has_mask_of (took_part a.members) s) ∙ here)).1
  where
    by : (z : Option MemberEnd) → slice_get a.members s ≡ z → took_part a.members s ≡ true
        → (e : MemberEnd) × (z ≡ Some e) × (is_absent e.end ≡ false)
    by None none took =
        absurd (cc (took, ap (λ z. option_map_or (λ (e : MemberEnd). not (is_absent e.end)) z false) none))
    by (Some e) some took = (
      e,
      refl,
      not_so (is_absent e.end)
          (sym (ap (λ z. option_map_or (λ (e : MemberEnd). not (is_absent e.end)) z false) some) ∙ took),
    )

-- and whoever has such an end took part
took_here : (es : List MemberEnd) (i : ℕ) (e : MemberEnd) → length es ≤ 16 → slice_get es i ≡ Some e
    → is_absent e.end ≡ false → has (mask_of (took_part es)) i ≡ true
took_here es i e few at took = has_mask_of (took_part es) i
    ∙ and_from (nat_lt i 16) (took_part es i) (grind (arith, nat_tests, slice_get_within es i e at, few))
    (ap (λ z. option_map_or (λ (x : MemberEnd). not (is_absent x.end)) z false) at ∙ ap not took)

-- An age whose members agree by an opening opened as its ends tell: somebody took part, and View 0 stands
-- right behind the start in the history of each who did.
pub told_as_opened : (script : Script) (o : Opening) (a : AgeEnd) → HasGroupRanges script
    → length a.members ≡ script.members → record (told_opening script a) { members = o.members } ≡ o → Sound o
    → EndsAgreed o a.members → told_opening script a ≡ o
told_as_opened script o a ranges all same sound agreed =
    ap (λ m. record (told_opening script a) { members = m }) told ∙ same
  where
    present : mask_of (took_part a.members) ≡ o.present
    present = ap (λ (p : Opening). p.present) same

    few : length o.messages ≤ 16
    few = omega (arith, ap (λ (p : Opening). length p.messages) same, ranges.lists, ranges.most_members)

    small : o.members < 2 ^ 16
    small =
        let most : 2 ^ length o.messages ≤ 2 ^ 16 = pow_mono few in
        omega (arith, in_roster_small (length o.messages) o.members sound.members.within, most)

    n : ℕ
    n = trailing_zeros w16 o.members

    some : (e : MemberEnd) × (slice_get a.members n ≡ Some e) × (is_absent e.end ≡ false)
    some = end_there script a n
        (ap (λ m. has m n) present ∙ sound.part n (least_member o.members sound.members.some small).member)

    first : (i : ℕ) × (f : MemberEnd) × (slice_get a.members i ≡ Some f) × (not (is_absent f.end) ≡ true)
        × (find (λ (e : MemberEnd). not (is_absent e.end)) a.members ≡ Some f)
    first = first_found (λ (e : MemberEnd). not (is_absent e.end)) a.members n some.0 some.1 (ap not some.2)

    here : IsPresentIn o first.0
    here = sym (ap (λ m. has m first.0) present) ∙ took_here a.members first.0 first.1
        (omega (arith, all, ranges.most_members)) first.2 (not_so (is_absent first.1.end) first.3)

    order : InOrder o (sent_by (accounts_of a.members)) first.1.history
    order = subst (InOrder o (sent_by (accounts_of a.members))) (history_of a first.0 first.1 first.2)
        (agreed.agreed.ordered first.0 here)

    told : told_members a ≡ o.members
    told = ap (λ z. mask_named (option_and_then (λ (e : MemberEnd). slice_get e.history (length a.start)) z)) first.4
        ∙ ap mask_named (ap (λ (p : Opening). slice_get first.1.history (length p.start)) same
        ∙ first_at o (sent_by (accounts_of a.members)) first.1.history order)

module _ (script : Script) (a : AgeEnd) (few : script.members ≤ 16) (good : IsAgreed script a) where
  durable_of : (i : ℕ) (e : MemberEnd) → slice_get a.members i ≡ Some e
      → (accounts_of a.members i).durable ≡ e.durable
  durable_of i e at = ap (λ z. option_map_or (λ (e : MemberEnd). e.durable) z 0) at

  -- who took part is there
  pub is_here : (i : ℕ) (e : MemberEnd) → slice_get a.members i ≡ Some e → is_absent e.end ≡ false
      → IsPresentIn (told_opening script a) i
  is_here i e at took = took_here a.members i e (omega (arith, few, good.all)) at took

  pub order : (i : ℕ) (e : MemberEnd) → slice_get a.members i ≡ Some e → is_absent e.end ≡ false
      → InOrder (told_opening script a) (sent_by (accounts_of a.members)) e.history
  order i e at took = subst (InOrder (told_opening script a) (sent_by (accounts_of a.members))) (history_of a i e at)
      (good.agreed.agreed.ordered i (is_here i e at took))

  pub stand : (i : ℕ) (e : MemberEnd) → slice_get a.members i ≡ Some e → is_absent e.end ≡ false
      → AllStand (told_opening script a) e.history
  stand i e at took = history-stands (told_opening script a) (sent_by (accounts_of a.members)) e.history good.sound
      (order i e at took)

  -- what it knows to be durable is on the log of each member of some view of the age that its history holds, of
  -- the one that it is in where nobody is late
  pub knows : (i : ℕ) (e : MemberEnd) → slice_get a.members i ≡ Some e → is_absent e.end ≡ false
      → (number : ℕ) × (mask : ℕ) × Contains e.history (View a.age number mask)
      × All (λ j. e.durable ≤ length (accounts_of a.members j).log) (members_of mask)
      × (IsNobodyLate (told_opening script a) → view_of e.history
      ≡ Some (record { age = a.age; number = number; members = members_of mask }))
  knows i e at took =
      let k = good.agreed.agreed.durable i (is_here i e at took) in (
        k.number,
        k.members,
        subst (λ (h : List Entry). Contains h (View a.age k.number k.members)) (history_of a i e at) k.view,
        subst (λ (n : ℕ). All (λ j. n ≤ length (accounts_of a.members j).log) (members_of k.members))
            (durable_of i e at) k.logged,
        λ prompt. sym (ap view_of (history_of a i e at)) ∙ (k.last prompt).0,
      )

  -- and on its own log, so it knows no more to be durable than is on that
  pub durable_within : (i : ℕ) (e : MemberEnd) → slice_get a.members i ≡ Some e → is_absent e.end ≡ false
      → e.durable ≤ length e.history
  durable_within i e at took =
      let log : length (accounts_of a.members i).log ≡ length (take e.logged e.history) =
      ap (λ z. length (option_map_or (λ (e : MemberEnd). take e.logged e.history) z [])) at in
      omega (
        arith,
        (good.agreed.agreed.durable i (is_here i e at took)).own,
        durable_of i e at,
        log,
        length-take e.logged e.history,
      )
