use Rattle.std.proofs.Common.{◌≡◌, [], ◌∷◌, ◌++◌, List, ap, ◌∙◌, refl, rules}
use Rattle.dr_disk.specs.{Calls.written, Memory.KeptState, declared.kept.Step.TheVariants.Sync}
use Rattle.dr_disk.proofs.Steps.{whole_still, calls_still}
use Rattle.dr_disk.specs.Calls as calls
use Rattle.dr_disk.proofs.kept.Kept.sync.Goals as goal

pub invariant_of-self : goal.invariant_of-self
invariant_of-self c =
    let old = c.self.inside in
    let pushed : c.push.new.self.items ≡ old.steps.items ++ Sync ∷ [] = search rules in
    whole_still old.steps.items _ old.text.items old.bytes.items _
    (Sync) c.self.invariant refl pushed c.self.invariant.same

pub returns-clause-told : goal.returns-clause-told
returns-clause-told c =
    let old = c.self.inside in
    let pushed : c.push.new.self.items ≡ old.steps.items ++ Sync ∷ [] = search rules in
    calls_still old.steps.items _ old.text.items old.bytes.items (Sync) c.self.invariant pushed
    ∙ ap (λ (l : List calls.Call). l ++ calls.Sync ∷ []) (ap (λ (v : KeptState). v.calls) c.self.view_is)
