use Rattle.std.proofs.Common.{◌≡◌, [], ◌∷◌, ◌++◌, List, take, ap, ◌∙◌, refl, rules}
use Rattle.dr_disk.specs.{Calls.written, Memory.KeptState, declared.kept.Step.TheVariants.Cut}
use Rattle.dr_disk.proofs.Steps.{whole_still, calls_still}
use Rattle.dr_disk.specs.Calls as calls
use Rattle.dr_disk.proofs.kept.Kept.cut.Goals as goal

pub invariant_of-self : goal.invariant_of-self
invariant_of-self c =
    let old = c.self.inside in
    let pushed : c.push.new.self.items ≡ old.steps.items ++ Cut c.args.to ∷ [] = search rules in
    whole_still old.steps.items _ old.text.items old.bytes.items _ (Cut c.args.to) c.self.invariant refl pushed
    (c.truncate.ensures.items ∙ ap (take c.args.to) c.self.invariant.same)

pub returns-clause-told : goal.returns-clause-told
returns-clause-told c =
    let old = c.self.inside in
    let pushed : c.push.new.self.items ≡ old.steps.items ++ Cut c.args.to ∷ [] = search rules in
    calls_still old.steps.items _ old.text.items old.bytes.items (Cut c.args.to) c.self.invariant pushed
    ∙ ap (λ (l : List calls.Call). l ++ calls.Cut c.args.to ∷ []) (ap (λ (v : KeptState). v.calls) c.self.view_is)
