-- Which part of a run was played, and for which group.
use Rattle.std.proofs.Common.{ℕ, ◌+◌, ◌-◌, ◌≤◌, arith, List, [], ◌∷◌, length, All, ap, ◌≡◌, ◌⊎◌, ◌∙◌, inl, inr, ◌^◌, ◌<◌, ◌&&◌, nat_lt, not, sym, true≢false, Some, slice_get}
use Rattle.std.proofs.lemmas.{Bool.{cases_lt, cases_Bool, Decides.nat_tests}, List.Elements.{All-cons, All-nil}}
use Rattle.dr_entry.specs.declared.{end.{AgeEnd.AgeEnd, MemberEnd.MemberEnd}, limits.TheConstants.MAX_MEMBERS}
use Rattle.dr_history.{specs.{Members.has, Soundness.{IsNobodyLate, IsPresentIn}}, proofs.Bits.has_ones}
use Rattle.dr_history.proofs.Masks.{same_masks}
use Rattle.dr_script.specs.{Ranges.HasRanges, declared.script.Script.Script}
use Rattle.dr_yard.specs.Yards.{YardState}
use Rattle.dr_words.{specs.Masks.without, proofs.Masks.has_mask_of}
use Rattle.dr_machine.specs.Group.{IsGroup}
use Rattle.dr_program.specs.Program.{absent_end}
use Rattle.dr_restart.specs.Groups.{group_of}
use Rattle.dr_opening.proofs.Choosing.{chosen_group}
use Rattle.dr_ages.specs.Ages.{AreAges, NamesNobody, opening_of, taking_part, IsAgeOf, start_of}
use Rattle.dr_ages.specs.declared.{mode.Mode.Mode, part.Part.Part}

-- every age has as many members as the script
pub few_members : (script : Script) (part : Part) (mode : Mode) (nth : ℕ) (before after : YardState) (ages : List AgeEnd)
    → script.members ≤ MAX_MEMBERS → AreAges script part mode nth before ages after
    → All (λ (age : AgeEnd). length age.members ≤ MAX_MEMBERS) ages
few_members script part mode nth before after [] few are = All-nil (λ (age : AgeEnd). length age.members ≤ MAX_MEMBERS)
few_members script part mode nth before after (age ∷ ages) few (between, is, rest) =
    All-cons (λ (age : AgeEnd). length age.members ≤ MAX_MEMBERS) age ages (omega (arith, is.played.roster, few))
    (few_members script part mode (nth + 1) between after ages few rest)

-- no count of faults falls
pub later : (script : Script) (part : Part) (mode : Mode) (nth : ℕ) (before after : YardState) (ages : List AgeEnd)
    → AreAges script part mode nth before ages after → (m : ℕ) → before.faults m ≤ after.faults m
later script part mode nth before after [] are m = omega (arith, ap (λ (yard : YardState). yard.faults m) are)
later script part mode nth before after (age ∷ ages) (between, is, rest) m =
    omega (arith, (is.passes m).later, later script part mode (nth + 1) between after ages rest m)

-- where nobody of the roster is late nobody is in an age
pub nobody_late : (script : Script) (part : Part) (age : AgeEnd) → NamesNobody script.members part.late
    → IsNobodyLate (opening_of script part age)
nobody_late script part age none = same_masks (without there part.late) there
    (λ i. has_mask_of (λ k. has there k && not (has part.late k)) i ∙ by i (cases_lt i script.members))
  where
    there : ℕ
    there = taking_part script part.missing

    by : (i : ℕ) → (i < script.members) ⊎ (script.members ≤ i)
        → (nat_lt i 16 && (has there i && not (has part.late i))) ≡ has there i
    by i (inl low) = grind (
      arith,
      nat_tests,
      none i low,
      has_mask_of (λ k. has (2 ^ script.members - 1) k && not (has part.missing k)) i,
    )
    by i (inr high) = grind (
      arith,
      nat_tests,
      high,
      has_ones script.members i,
      has_mask_of (λ k. has (2 ^ script.members - 1) k && not (has part.missing k)) i,
    )

-- the group of an age
pub its_group : (script : Script) (part : Part) (mode : Mode) (nth : ℕ) (before after : YardState) (age : AgeEnd)
    → HasRanges script → IsAgeOf script part mode nth before after age
    → IsGroup (group_of script (start_of script part age))
its_group script part mode nth before after age ranges is =
    chosen_group script is.contents (start_of script part age) ranges.group is.starts

-- what holds of each age of a run holds of all
pub all_ages : (P : AgeEnd → Type 0) (script : Script) (part : Part) (mode : Mode) → ((nth : ℕ)
    (before after : YardState) (age : AgeEnd) → IsAgeOf script part mode nth before after age → P age) → (nth : ℕ)
    (before after : YardState) (ages : List AgeEnd) → AreAges script part mode nth before ages after → All P ages
all_ages P script part mode each nth before after [] are = All-nil P
all_ages P script part mode each nth before after (age ∷ ages) (between, is, rest) = All-cons P age ages
    (each nth before between age is) (all_ages P script part mode each (nth + 1) between after ages rest)

-- whoever is absent has no history
pub part_or_none : (script : Script) (part : Part) (mode : Mode) (nth : ℕ) (before after : YardState) (age : AgeEnd)
    (i : ℕ) (e : MemberEnd) → IsAgeOf script part mode nth before after age → slice_get age.members i ≡ Some e
    → IsPresentIn (opening_of script part age) i ⊎ (e.history ≡ [])
part_or_none script part mode nth before after age i e is at =
    elim (cases_Bool (has (opening_of script part age).present i)) [
      | inl here ↦ inl here
      | inr away ↦
          let none : e ≡ absent_end = is.played.ended.absent i e at (λ here. true≢false (sym here ∙ away)) in
          inr (ap (λ (x : MemberEnd). x.history) none)
    ]
