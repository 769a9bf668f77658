-- Ages that came one after the other.
use Rattle.std.{specs.Prelude.{IsTrue, Some, slice_get}, proofs.lemmas.Option.same_Some}
use Rattle.std.proofs.Common.{◌≡◌, refl, sym, ap, ◌∙◌, subst, inl, ℕ, ◌≤◌, zero, suc, ◌+◌, le_refl, arith, List, [], ◌∷◌, ◌++◌, drop, length}
use Rattle.dr_entry.specs.declared.{end.AgeEnd.AgeEnd, entry.Entry.Entry}
use Rattle.dr_script.specs.declared.script.Script.{Script}
use Rattle.dr_yard.specs.Yards.{AllTell, YardState}
use Rattle.dr_ages.{specs.Ages.{AreAges, IsAgeOf, starts_of}, proofs.Staying.{alike_same, kept_on, on_same, on_then}}
use Rattle.dr_ages.specs.{Passing.{AreKeptSince, PassOn}, declared.{mode.Mode.Mode, part.Part.Part}}
use Rattle.dr_ages.specs.{Stops.{AreMountedBelow, HasKept}, declared.stop.Stop.TheVariants.OutOfMemory}

-- ---- how yards pass

pub passes_none : (yard : YardState) → PassOn [] yard yard
passes_none yard m =
    on_same [] (yard.told m) (yard.told m) (yard.faults m) (yard.faults m) refl (le_refl (yard.faults m))

pub passes_on : (xs ys : List (List Entry)) (before mid after : YardState) → PassOn xs before mid
    → PassOn ys mid after → PassOn (xs ++ ys) before after
passes_on xs ys before mid after first next m = on_then xs ys
    (before.told m) (mid.told m) (after.told m) (before.faults m) (mid.faults m) (after.faults m) (first m) (next m)

pub tell_on : (n : ℕ) (starts : List (List Entry)) (before after : YardState) → PassOn starts before after
    → AllTell n before → AllTell n after
tell_on n starts before after passes all m l = subst IsTrue (passes m).tells (all m l)

pub ages_pass : (script : Script) (part : Part) (mode : Mode) (nth : ℕ) (before : YardState) (ages : List AgeEnd)
    (after : YardState) → AreAges script part mode nth before ages after → PassOn (starts_of ages) before after
ages_pass script part mode nth before [] after are =
    subst (λ (y : YardState). PassOn [] before y) are (passes_none before)
ages_pass script part mode nth before (age ∷ ages) after are = passes_on (age.start ∷ [])
    (starts_of ages) before are.0 after are.1.passes (ages_pass script part mode (nth + 1) are.0 ages after are.2)

-- so disks tell behind them that told before
pub tell_behind : (script : Script) (part : Part) (mode : Mode) (nth : ℕ) (before : YardState) (ages : List AgeEnd)
    (after : YardState) → AreAges script part mode nth before ages after → AllTell script.members before
    → AllTell script.members after
tell_behind script part mode nth before ages after are =
    tell_on script.members (starts_of ages) before after (ages_pass script part mode nth before ages after are)

-- ---- what is kept

-- where nothing was mounted
pub unmounted : (members missing : ℕ) (starts : List (List Entry)) (yard : YardState)
    → AreKeptSince members missing 0 starts yard yard
unmounted members missing starts yard = record {
  kept = λ m l there. absurd (omega (arith, l));
  others = λ m past l.
      (alike_same (yard.told m) (yard.told m) (yard.faults m) (yard.faults m) refl (le_refl (yard.faults m))).moments;
}

pub none_below : (missing : ℕ) (yard : YardState) → AreMountedBelow 0 missing yard yard
none_below missing yard = record {
  contents = [];
  found = record { all = refl; there = λ m l. absurd (omega (arith, l)); each = λ m c at. absurd (cc (at)) };
  safe = λ m c at. absurd (cc (at));
  above = λ m past. refl;
}

pub none_kept : (script : Script) (missing : ℕ) (yard : YardState) → 1 ≤ script.members
    → HasKept script missing yard yard OutOfMemory
none_kept script missing yard some = record {
  mounted = 0;
  starts = [];
  chosen = inl refl;
  since = unmounted script.members missing [] yard;
  passes = passes_none yard;
  untouched = λ m gone. (refl, refl);
  count = inl (some, none_below missing yard);
}

-- what an age has kept is kept while its disks go on
pub kept_passes : (members missing : ℕ) (xs ys : List (List Entry)) (before mid after : YardState)
    → AreKeptSince members missing members xs before mid → PassOn ys mid after
    → AreKeptSince members missing members (xs ++ ys) before after
kept_passes members missing xs ys before mid after are passes = record {
  kept = λ m l there. kept_on xs ys
      (before.told m) (mid.told m) (after.told m) (mid.faults m) (after.faults m) (are.kept m l there) (passes m);
  others = λ m past l. absurd (omega (arith, past, l));
}

-- ---- one age more

pub ages_more : (script : Script) (part : Part) (mode : Mode) (nth n : ℕ) (before : YardState) (ages : List AgeEnd)
    (mid after : YardState) (age : AgeEnd) → n ≡ nth + length ages → AreAges script part mode nth before ages mid
    → IsAgeOf script part mode n mid after age → AreAges script part mode nth before (ages ++ age ∷ []) after
ages_more script part mode nth n before [] mid after age at are is = (
  after,
  subst (λ (y : YardState). IsAgeOf script part mode nth y after age) (sym are)
      (subst (λ (k : ℕ). IsAgeOf script part mode k mid after age) (omega (arith, at)) is),
  refl,
)
ages_more script part mode nth n before (one ∷ ages) mid after age at are is = (
  are.0,
  are.1,
  ages_more script part mode (nth + 1) n are.0 ages mid after age (omega (arith, at)) are.2 is,
)

-- ---- ages of a chain

-- two ages, the one right behind the other
pub record AreBeside (script : Script) (part : Part) (start : YardState) (one next : AgeEnd) : Type 0 where
  pub mode : Mode
  pub nth : ℕ
  pub before : YardState
  pub mid : YardState
  pub after : YardState
  pub first : IsAgeOf script part mode nth before mid one
  pub second : IsAgeOf script part mode (nth + 1) mid after next
  pub tell : AllTell script.members start → AllTell script.members mid

pub beside : (script : Script) (part : Part) (mode : Mode) (nth : ℕ) (before : YardState) (ages : List AgeEnd) (after : YardState) (i : ℕ)
    (a b : AgeEnd) → AreAges script part mode nth before ages after → slice_get ages i ≡ Some a
    → slice_get ages (i + 1) ≡ Some b → AreBeside script part before a b
beside script part mode nth before [] after i a b are at_a at_b = absurd (cc)
beside script part mode nth before (one ∷ []) after zero a b are at_a at_b = absurd (cc)
beside script part mode nth before (one ∷ next ∷ ages) after zero a b are at_a at_b = record {
  mode = mode;
  nth = nth;
  before = before;
  mid = are.0;
  after = are.2.0;
  first = subst (IsAgeOf script part mode nth before are.0) (same_Some one a at_a) are.1;
  second = subst (IsAgeOf script part mode (nth + 1) are.0 are.2.0) (same_Some next b at_b) are.2.1;
  tell = tell_on script.members (one.start ∷ []) before are.0 are.1.passes;
}
beside script part mode nth before (one ∷ ages) after (suc i) a b are at_a at_b =
    let e : suc (i + 1) ≡ suc i + 1 = omega arith in
    let r = beside script part mode (nth + 1) are.0 ages after i a b are.2 at_a
    (ap (λ (k : ℕ). slice_get (one ∷ ages) k) e ∙ at_b) in
    record {
      mode = r.mode;
      nth = r.nth;
      before = r.before;
      mid = r.mid;
      after = r.after;
      first = r.first;
      second = r.second;
      tell = λ all. r.tell (tell_on script.members (one.start ∷ []) before are.0 are.1.passes all);
    }

-- the one that ends them, by number
pub ends_with : (script : Script) (part : Part) (mode : Mode) (nth : ℕ) (before : YardState) (ages : List AgeEnd) (last : YardState)
    (earlier : List AgeEnd) (age : AgeEnd) → AreAges script part mode nth before ages last → ages ≡ earlier ++ age ∷ []
    → (n : ℕ) × (y : YardState) × IsAgeOf script part mode n y last age
ends_with script part mode nth before [] last [] age are is = absurd (cc)
ends_with script part mode nth before [] last (x ∷ earlier) age are is = absurd (cc)
ends_with script part mode nth before (one ∷ []) last [] age are is = (
  nth,
  before,
  subst (IsAgeOf script part mode nth before last) (same_Some one age (ap (λ (xs : List AgeEnd). slice_get xs 0) is))
      (subst (λ (y : YardState). IsAgeOf script part mode nth before y one) are.2 are.1),
)
ends_with script part mode nth before (one ∷ two ∷ ages) last [] age are is = absurd (cc)
ends_with script part mode nth before (one ∷ ages) last (x ∷ earlier) age are is =
    ends_with script part mode (nth + 1) are.0 ages last earlier age are.2 (ap (drop 1) is)

-- the last one
pub record EndsWith (script : Script) (part : Part) (start after : YardState) : Type 0 where
  pub age : AgeEnd
  pub mode : Mode
  pub nth : ℕ
  pub before : YardState
  pub is : IsAgeOf script part mode nth before after age
  pub tell : AllTell script.members start → AllTell script.members before

pub last_age : (script : Script) (part : Part) (mode : Mode) (nth : ℕ) (before : YardState) (one : AgeEnd) (ages : List AgeEnd)
    (after : YardState) → AreAges script part mode nth before (one ∷ ages) after → EndsWith script part before after
last_age script part mode nth before one [] after are = record {
  age = one;
  mode = mode;
  nth = nth;
  before = before;
  is = subst (λ (y : YardState). IsAgeOf script part mode nth before y one) are.2 are.1;
  tell = λ all. all;
}
last_age script part mode nth before one (next ∷ ages) after are =
    let r = last_age script part mode (nth + 1) are.0 next ages after are.2 in
    record {
      age = r.age;
      mode = r.mode;
      nth = r.nth;
      before = r.before;
      is = r.is;
      tell = λ all. r.tell (tell_on script.members (one.start ∷ []) before are.0 are.1.passes all);
    }
