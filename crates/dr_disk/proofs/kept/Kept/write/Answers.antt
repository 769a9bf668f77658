use Rattle.std.proofs.Common.{◌≡◌, [], ◌∷◌, ◌++◌, List, ℕ, length, ap, sym, ◌∙◌, refl, arith, rules}
use Rattle.std.proofs.lemmas.List.{take_all}
use Rattle.dr_disk.specs.{Calls.{written, content_after}, Memory.KeptState, Steps.calls_of}
use Rattle.dr_disk.{specs.declared.kept.Step.TheVariants.Write, proofs.Steps.{whole_after, calls_after}}
use Rattle.dr_disk.specs.Calls as calls
use Rattle.dr_disk.proofs.kept.Kept.write.Goals as goal

pub invariant_of-self : goal.invariant_of-self
invariant_of-self c =
    let old = c.self.inside in
    let from = c.args.from.now in
    let s = Write c.args.at (length from) in
    let pushed : c.push.new.self.items ≡ old.steps.items ++ s ∷ [] = search rules in
    let extended : c.extend_from_slice.new.self.items ≡ old.text.items ++ from = search rules in
    whole_after old.steps.items _ old.text.items _ old.bytes.items _ s from c.self.invariant refl pushed extended
    (c.put.ensures.written ∙ ap (λ (bytes : List ℕ). written bytes c.args.at from) c.self.invariant.same
    ∙ ap (λ (bytes : List ℕ). written (content_after (calls_of old.steps.items old.text.items)) c.args.at bytes)
    (sym (take_all (length from) from (omega arith))))

pub returns-clause-told : goal.returns-clause-told
returns-clause-told c =
    let old = c.self.inside in
    let from = c.args.from.now in
    let s = Write c.args.at (length from) in
    let pushed : c.push.new.self.items ≡ old.steps.items ++ s ∷ [] = search rules in
    let extended : c.extend_from_slice.new.self.items ≡ old.text.items ++ from = search rules in
    calls_after old.steps.items _ old.text.items _ old.bytes.items s from c.self.invariant pushed extended
    ∙ ap (λ (bytes : List ℕ). calls_of old.steps.items old.text.items ++ calls.Write c.args.at bytes ∷ [])
    (take_all (length from) from (omega arith)) ∙ ap (λ (l : List calls.Call). l ++ calls.Write c.args.at from ∷ [])
    (ap (λ (v : KeptState). v.calls) c.self.view_is)
