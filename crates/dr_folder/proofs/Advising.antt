-- Which log may go, from what is found of each member.
use Rattle.std.{specs.Prelude.{None, Some}, proofs.lemmas.Bool.cases_lt}
use Rattle.std.proofs.Common.{◌≡◌, ◌≢◌, ◌⊎◌, inl, inr, refl, sym, subst, arith, ℕ, ◌+◌, ◌<◌, ◌≤◌, Bool, true, false, if◌then◌else◌, List}
use Rattle.dr_restart.specs.declared.start.Start.{Start}
use Rattle.dr_script.specs.declared.script.Script.{Script}
use Rattle.dr_folder.specs.{Advice.{CanNotGo, IsAdvice, IsNextAway, MayGo, are_shared}, declared.advice.Advice.Advice}
use Rattle.dr_folder.specs.declared.{file.LogFile.LogFile, survey.Survey.Survey}
use Rattle.dr_folder.specs.declared.advice.Advice.TheVariants as advised

-- the logs of these members can't go: those from one number on, below another
abbrev pub CanNotGoTo : Script → List LogFile → List Survey → ℕ → ℕ → Type 0
CanNotGoTo script files surveys from n = (m : ℕ) → from ≤ m → m < n → CanNotGo script files surveys m

-- one member more
pub can_not_more : (script : Script) (files : List LogFile) (surveys : List Survey) (from n : ℕ)
    → CanNotGoTo script files surveys from n → CanNotGo script files surveys n
    → CanNotGoTo script files surveys from (n + 1)
can_not_more script files surveys from n before here m behind below = by (cases_lt m n)
  where
    by : (m < n) ⊎ (n ≤ m) → CanNotGo script files surveys m
    by (inl less) = before m behind less
    by (inr more) =
        let same : n ≡ m = omega (arith, below, more) in subst (λ (k : ℕ). CanNotGo script files surveys k) same here

-- the only one without which the others make a start may go
pub only_one : (script : Script) (files : List LogFile) (surveys : List Survey) (member : ℕ) (start : Start)
    → IsNextAway script files surveys 0 (Some (member, start)) → IsNextAway script files surveys (member + 1) None
    → are_shared start.entries ≡ true → MayGo script files surveys member start
only_one script files surveys member start (from, below, makes, before) behind shared = record {
  makes = makes;
  shared = shared;
  only = λ m inside apart. by m inside apart (cases_lt m member);
}
  where
    by : (m : ℕ) → m < script.members → m ≢ member → (m < member) ⊎ (member ≤ m) → CanNotGo script files surveys m
    by m inside apart (inl less) = before m (omega arith) less
    by m inside apart (inr more) = behind m (omega (arith, apart, more)) inside

-- what is advised then
pub away_if : (script : Script) (files : List LogFile) (surveys : List Survey) (member : ℕ) (start : Start)
    (advice : Advice) → IsNextAway script files surveys 0 (Some (member, start))
    → IsNextAway script files surveys (member + 1) None
    → advice ≡ (if are_shared start.entries then advised.Away member start else advised.Alone member)
    → IsAdvice script files surveys advice
away_if script files surveys member start advice first behind is =
    subst (IsAdvice script files surveys) (sym is) (by (are_shared start.entries) refl)
  where
    by : (shared : Bool) → are_shared start.entries ≡ shared
        → IsAdvice script files surveys (if shared then advised.Away member start else advised.Alone member)
    by true shared = only_one script files surveys member start first behind shared
    by false alone = tt
