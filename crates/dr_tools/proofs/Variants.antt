-- The scripts of a sweep's runs.
use Rattle.std.proofs.Common.{◌≡◌, ◌∙◌, refl, sym, ap, subst, ℕ, zero, suc, ◌<◌, arith, inl, inr, Bool, true, List, [], ◌∷◌, ◌++◌, get_or, length}
use Rattle.std.proofs.lemmas.{Bool.cases_lt, List.{get_or_append_left, get_or_push, length_push}}
use Rattle.dr_ages.specs.{Ages.HaveSomebodyPrompt, declared.part.Part.Part}
use Rattle.dr_script.specs.{Ranges.{HasFaultRanges, HasRanges, HasWhatRanges}, declared.script.Fault.Fault}
use Rattle.dr_script.specs.declared.script.{Script.Script, What.{What, TheVariants.{Crash, Suspect}}}
use Rattle.dr_tools.specs.{Parts.{kept_parts, stays}, Variants.{by_seed, variant, with_each, with_fault}}
use Rattle.dr_tools.specs.declared.sweeps.variants.Variants.{Variants, TheVariants.{Crashes, Seeded}}
use Rattle.dr_tools.proofs.Whole.{all_parts_kept}

what_ranges : (s : Script) (seed member : ℕ) (what : What) → HasWhatRanges s member what
    → HasWhatRanges (by_seed s seed) member what
what_ranges s seed member (Crash turn push) ranges = ranges
what_ranges s seed member (Suspect turn other) ranges = ranges

fault_ranges : (s : Script) (seed : ℕ) (f : Fault) → HasFaultRanges s f → HasFaultRanges (by_seed s seed) f
fault_ranges s seed f ranges = record {
  age = ranges.age;
  member = ranges.member;
  what = what_ranges s seed f.member f.what ranges.what;
}

-- it has the ranges that the script has
pub seeded_ranges : (s : Script) (seed : ℕ) → HasRanges s → HasRanges (by_seed s seed)
seeded_ranges s seed ranges = record {
  group = record {
    some_member = ranges.group.some_member;
    most_members = ranges.group.most_members;
    some_slot = ranges.group.some_slot;
    most_slots = ranges.group.most_slots;
    lists = ranges.group.lists;
    few = ranges.group.few;
    short = ranges.group.short;
    bytes = ranges.group.bytes;
  };
  some_turn = ranges.some_turn;
  most_turns = ranges.most_turns;
  patience = ranges.patience;
  some_age = ranges.some_age;
  most_ages = ranges.most_ages;
  few_faults = ranges.few_faults;
  faults = λ k d within. fault_ranges s seed (get_or s.faults k d) (ranges.faults k d within);
}

-- of a script all stays where nothing is said of its parts
nothing_said : (n : ℕ) → stays [] n ≡ true
nothing_said zero = refl
nothing_said (suc n) = refl

pub whole_copy : (keeps : List Bool) (s copy : Script) → keeps ≡ [] → copy ≡ kept_parts keeps s → copy ≡ s
whole_copy keeps s copy none is = is ∙ ap (λ (k : List Bool). kept_parts k s) none ∙ all_parts_kept [] s nothing_said

what_with : (s : Script) (f : Fault) (member : ℕ) (what : What) → HasWhatRanges s member what
    → HasWhatRanges (with_fault s f) member what
what_with s f member (Crash turn push) ranges = ranges
what_with s f member (Suspect turn other) ranges = ranges

fault_with : (s : Script) (f g : Fault) → HasFaultRanges s g → HasFaultRanges (with_fault s f) g
fault_with s f g ranges = record {
  age = ranges.age;
  member = ranges.member;
  what = what_with s f g.member g.what ranges.what;
}

-- with a fault more it has them too, where it may have one more
pub faulty_ranges : (s : Script) (f : Fault) → HasRanges s → length s.faults < 256 → HasFaultRanges s f
    → HasRanges (with_fault s f)
faulty_ranges s f ranges few own = record {
  group = record {
    some_member = ranges.group.some_member;
    most_members = ranges.group.most_members;
    some_slot = ranges.group.some_slot;
    most_slots = ranges.group.most_slots;
    lists = ranges.group.lists;
    few = ranges.group.few;
    short = ranges.group.short;
    bytes = ranges.group.bytes;
  };
  some_turn = ranges.some_turn;
  most_turns = ranges.most_turns;
  patience = ranges.patience;
  some_age = ranges.some_age;
  most_ages = ranges.most_ages;
  few_faults = omega (arith, few, length_push s.faults f);
  faults = λ k d within. elim (cases_lt k (length s.faults)) [
    | inl old ↦ fault_with s f (get_or (s.faults ++ f ∷ []) k d)
        (subst (HasFaultRanges s) (sym (get_or_append_left s.faults (f ∷ []) d k old)) (ranges.faults k d old))
    | inr last ↦ fault_with s f (get_or (s.faults ++ f ∷ []) k d) (subst (HasFaultRanges s)
        (sym (get_or_push s.faults f d k (omega (arith, last, within, length_push s.faults f)))) own)
  ];
}

-- the script with the fault of this number
pub with_nth : (faults : List Fault) (s : Script) (n : ℕ) (f : Fault) → n < length faults → f ≡ get_or faults n f
    → with_fault s f ≡ with_each faults s n
with_nth [] s n f below is = absurd (omega (arith, below))
with_nth (g ∷ gs) s zero f below is = ap (with_fault s) is
with_nth (g ∷ gs) s (suc n) f below is = with_nth gs s n f (omega (arith, below)) is

-- in each of them the same members are prompt
each_prompt : (faults : List Fault) (s : Script) (n : ℕ) (part : Part) → HaveSomebodyPrompt s part
    → HaveSomebodyPrompt (with_each faults s n) part
each_prompt [] s n part some = some
each_prompt (f ∷ fs) s zero part some = some
each_prompt (f ∷ fs) s (suc n) part some = each_prompt fs s n part some

pub variant_prompt : (variants : Variants) (s : Script) (n : ℕ) (part : Part) → HaveSomebodyPrompt s part
    → HaveSomebodyPrompt (variant variants s n) part
variant_prompt (Seeded seeds) s n part some = some
variant_prompt (Crashes faults) s n part some = each_prompt faults s n part some
