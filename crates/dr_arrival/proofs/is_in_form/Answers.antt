use Rattle.std.{specs.Prelude.{◌↔◌, IsTrue}, proofs.Common.{sym, subst}}
use Rattle.dr_words.specs.Form.{IsInForm}
use Rattle.dr_arrival.proofs.Exact.{form_exact}
use Rattle.dr_arrival.proofs.is_in_form.Goals as goal

pub returns-clause-exact : goal.returns-clause-exact
returns-clause-exact c = subst (λ b. IsTrue b ↔ IsInForm c.args.members c.args.column c.args.word)
    (sym c.form_test.ensures) (form_exact c.args.members c.args.column c.args.word)
