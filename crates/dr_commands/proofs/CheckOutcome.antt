-- What a check comes to.
use Rattle.std.specs.Prelude.{IfSome}
use Rattle.std.proofs.Common.{◌⊎◌, inl, inr, refl, sym, subst, ℕ, List, Contains, Option, None, Some}
use Rattle.dr_intake.specs.Status.{status_of}
use Rattle.dr_outcome.specs.{Outcome.{HasDone, SaysOnly, unrun, unrun_ends}, declared.outcome.Outcome.Outcome}
use Rattle.dr_outcome.proofs.{Due.same_tells, OutcomeKinds.is_unrun}
use Rattle.dr_text.specs.declared.last.Last.{Last}
use Rattle.dr_yard.specs.Yards.{YardState}
use Rattle.dr_commands.{specs.Check.{Checks, IsChecked, check_ends}, proofs.CheckStatuses.{checked_ends, is_known}}

-- memory was wanting, or what is said is due
pub check_done : (bytes : List ℕ) (yard : YardState) (o : Outcome) (line : Option Last)
    → IfSome line (IsChecked bytes) → SaysOnly line yard yard o
    → SaysOnly None yard yard o ⊎ HasDone (Checks bytes) check_ends yard yard o
check_done bytes yard o None is says = inl says
check_done bytes yard o (Some last) is says =
    let ends = checked_ends bytes last is in
    inr (record {
      does = (last, is, says);
      due = unrun says.none says.unstopped
          (subst (λ (l : Option Last). IfSome l (λ line. Contains unrun_ends (status_of line)))
          (sym says.line) (is_unrun (status_of last) ends));
      known = subst (λ (l : Option Last). IfSome l (λ line. Contains check_ends (status_of line)))
          (sym says.line) (is_known (status_of last) ends);
      told = same_tells yard yard o.last refl;
    })
