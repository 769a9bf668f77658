use Rattle.std.proofs.Common.{◌≡◌, ◌∙◌, ◌++◌, ◌∷◌, [], List, ap, refl, rules}
use Rattle.dr_script.specs.declared.script.{Fault.Fault, Script.Script}
use Rattle.dr_tools.proofs.Variants.{whole_copy}
use Rattle.dr_tools.proofs.sweeps.variants.with_fault.Goals as goal

pub returns : goal.returns
returns c =
    let pushed : c.push.new.self.items ≡ c.args.script.now.faults ++ c.args.fault ∷ [] = search rules in
    ap (λ (s : Script). record s { faults = c.of.result })
    (whole_copy _ c.args.script.now c.in_ok-copy.copy refl c.in_ok-copy.ensures)
    ∙ ap (λ (faults : List Fault). record c.args.script.now { faults = faults }) (c.of.ensures ∙ pushed)
