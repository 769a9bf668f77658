use Rattle.std.proofs.Common.{◌≡◌, ◌≤◌, ℕ, Some, All, Contains, Decides, List, length, sym, ◌∙◌, subst}
use Rattle.std.proofs.lemmas.Bool.{eqb-true}
use Rattle.dr_entry.proofs.ListParts.{contains_is}
use Rattle.dr_history.specs.{Agreement.accounts_of, History.view_of}
use Rattle.dr_oracle.proofs.{Durable.last_decides, agreement.is_in_logged_view.Goals.{then-age, else-age}}
use Rattle.dr_oracle.proofs.agreement.is_in_logged_view.Goals as goal

pub returns-then-contains : goal.returns-then-contains
returns-then-contains c =
    let is : view_of c.args.history.now ≡ Some c.in-Some.view = sym c.view_of.ensures ∙ c.in-Some.is in
    let both : (c.in-Some.view.age ≡ c.args.age) × Contains c.in-Some.view.members c.args.member =
    elim c.if-age.branch [
      | then-age w ↦ (
        sym c.age.ensures ∙ w.if-age.true,
        subst (λ (xs : List ℕ). Contains xs c.args.member) w.members.ensures.same
            ((contains_is w.members.result.now c.args.member w.contains.result w.contains.ensures.cases).0
            (sym w.value-is ∙ c.if-contains.true)),
      )
      | else-age w ↦ absurd (w.if-age.false (eqb-true _ _ (sym w.value-is ∙ c.if-contains.true)))
    ] in
    last_decides (accounts_of c.args.ends.now) c.args.age c.args.durable c.args.member c.args.history.now
    c.in-Some.view c.all_have_logged.result is both.0 both.1 (subst (λ (xs : List ℕ). Decides c.all_have_logged.result
    (All (λ j. c.args.durable ≤ length (accounts_of c.args.ends.now j).log) xs))
    c.members-then-contains.ensures.same c.all_have_logged.ensures)
