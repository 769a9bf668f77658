use Rattle.std.{specs.Prelude.{Some, slice_get}, proofs.Common.{◌≡◌, ◌≢◌, ◌<◌, ℕ}}
use Rattle.dr_folder.specs.{Advice.IsIntact, declared.survey.Survey.Survey}
use Rattle.dr_folder.proofs.advice.are_intact_but.Given as goal

-- those before are intact
abbrev pub invariant-loop-number : goal.invariant-loop-number
invariant-loop-number l = (m : ℕ) (survey : Survey) → m < l.number → m ≢ l.member
    → slice_get l.surveys m ≡ Some survey → IsIntact survey
