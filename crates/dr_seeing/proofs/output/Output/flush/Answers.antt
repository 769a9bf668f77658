use Rattle.std.proofs.Common.{◌≡◌, ◌∙◌, ℕ, List, [], Option, Some, ap, refl, subst}
use Rattle.dr_io.specs.Faults.{Rose}
use Rattle.dr_text.specs.Writing.{WroteFront}
use Rattle.dr_seeing.{specs.{Output.Written, declared.output.Trouble.TheVariants.Sink}, proofs.Outputs.tells_failed}
use Rattle.dr_seeing.proofs.output.Output.flush.Goals as goal

pub returns-in-Err-clause-tells : goal.returns-in-Err-clause-tells
returns-in-Err-clause-tells g c =
    let old = c.args.self.now in
    let holds = g.K.Sink.held c.write_all.new.sink in
    let falls = g.K.Sink.faults c.write_all.new.sink in
    let waits : c.as_bytes.result.now ≡ old.waiting =
    c.as_bytes.ensures.value ∙ c.as_str.ensures.value ∙ ap (λ (w : Written). w.waiting) c.self.view_is in
    tells_failed old (record { held = holds; faults = falls; waiting = []; trouble = Some Sink }) c.requires refl
    (subst (λ (h : Option (List ℕ)). WroteFront h holds old.waiting) (ap (λ (w : Written). w.held) c.self.view_is)
    (subst (λ (l : List ℕ). WroteFront (g.K.Sink.held c.self.inside.sink) holds l) waits c.in-Err.ensures.err))
    (subst (λ (n : ℕ). Rose n falls) (ap (λ (w : Written). w.faults) c.self.view_is) c.in-Err.ensures.cause.failed)
