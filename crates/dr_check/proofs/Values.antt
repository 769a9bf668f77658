-- Reports of runs whose status says that they are right.
use Rattle.std.specs.Option.{option_map_or}
use Rattle.std.proofs.Common.{◌≡◌, ◌↔◌, refl, sym, ap, ◌∙◌, inl, inr, ℕ, ◌-◌, ◌^◌, ◌&&◌, nat_lt, not, true, false, arith, List, [], Option, None, Some, length, slice_get}
use Rattle.std.proofs.lemmas.{Bool.Decides.nat_tests, Option.{slice_get_cases, slice_get_within}}
use Rattle.dr_entry.specs.declared.end.End.TheVariants as ends
use Rattle.dr_entry.specs.declared.end.MemberEnd.{MemberEnd}
use Rattle.dr_history.{specs.Members.has, proofs.Bits.has_ones}
use Rattle.dr_text.{specs.Report.is_absent, proofs.Reports.as_absent}
use Rattle.dr_check.specs.Values.{took_part}

-- the members that took part, by the ends of an age, are those that are not missing
pub took : (members missing i : ℕ) (es : List MemberEnd) → length es ≡ members
    → ((m : ℕ) (e : MemberEnd) → slice_get es m ≡ Some e → (e.end ≡ ends.Absent) ↔ (has missing m ≡ true))
    → took_part es i ≡ (has (2 ^ members - 1) i && not (has missing i))
took members missing i es all away = by (slice_get es i) refl
  where
    by : (z : Option MemberEnd) → slice_get es i ≡ z
        → took_part es i ≡ (has (2 ^ members - 1) i && not (has missing i))
    by None none =
        let past : nat_lt i members ≡ false = elim (slice_get_cases es i).1 [
          | inl found ↦ absurd (cc (found.2, none))
          | inr behind ↦ grind (arith, nat_tests, behind.0, all)
        ] in
        ap (λ z. option_map_or (λ (e : MemberEnd). not (is_absent e.end)) z false) none
        ∙ sym (ap (λ b. b && not (has missing i)) (has_ones members i ∙ past))
    by (Some e) some =
        let below : nat_lt i members ≡ true = grind (arith, nat_tests, slice_get_within es i e some, all) in
        ap (λ z. option_map_or (λ (e : MemberEnd). not (is_absent e.end)) z false) some ∙ ap not (as_absent e.end
        (has missing i) (away i e some)) ∙ sym (ap (λ b. b && not (has missing i)) (has_ones members i ∙ below))
