use Rattle.std.proofs.Common.{subst, ℕ}
use Rattle.dr_script.specs.declared.script.Script.{Script}
use Rattle.dr_seat.specs.Starting.{IsFitStart}
use Rattle.dr_seat.proofs.choosing.choose_of.Goals as goal

pub returns-in-Ok : goal.returns-in-Ok
returns-in-Ok c =
    subst (λ (s : Script). IsFitStart s c.args.role.now.me c.in-Ok.start) c.script-script.ensures.value
    (subst (λ (m : ℕ). IsFitStart c.script-script.result.now m c.in-Ok.start) c.me-me.ensures.value c.in-Ok.ensures)
