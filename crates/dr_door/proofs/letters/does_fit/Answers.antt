use Rattle.std.{specs.Prelude.{◌↔◌, IsTrue}, proofs.Common.{sym, subst}}
use Rattle.dr_form.specs.Letters.{IsFitting}
use Rattle.dr_door.proofs.Fitting.{fits_exact}
use Rattle.dr_door.proofs.letters.does_fit.Goals as goal

pub returns : goal.returns
returns c = subst (λ b. IsTrue b ↔ IsFitting c.args.replica.now c.args.letter.now) (sym c.fit_test.ensures)
    (fits_exact c.args.replica.now c.args.letter.now c.requires)
