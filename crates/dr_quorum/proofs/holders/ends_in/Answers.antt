use Rattle.std.proofs.{Common.{◌≡◌, ◌==◌, ℕ, ap, ◌∙◌, subst, Decides}, lemmas.Bool.Decides.Decides-eqb}
use Rattle.dr_history.specs.History.{view_of}
use Rattle.dr_restart.proofs.Choosing.{ends_nowhere, ends_where}
use Rattle.dr_quorum.proofs.holders.ends_in.Goals as goal

pub returns-in-Some : goal.returns-in-Some
returns-in-Some c = ends_where c.args.log.now c.args.age c.in-Some.view (c.age.result == c.args.age)
    (c.in-Some.ensures ∙ ap view_of c.entries.ensures)
    (subst (λ (a : ℕ). Decides (c.age.result == c.args.age) (a ≡ c.args.age)) c.age.ensures
    (Decides-eqb c.age.result c.args.age))

pub returns-in-None : goal.returns-in-None
returns-in-None c = ends_nowhere c.args.log.now c.args.age (c.in-None.ensures ∙ ap view_of c.entries.ensures)
