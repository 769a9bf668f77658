use Rattle.std.proofs.{Common.{◌≡◌, ◌∙◌, ◌<◌, ap, get_or, length, subst, sym}, lemmas.Result.IfOk-weaker}
use Rattle.dr_script.specs.Ranges.{HasFaultRanges, HasRanges}
use Rattle.dr_tools.specs.{Variants.{AreSound, variant, variants_in}, declared.sweeps.variants.Variants.Variants}
use Rattle.dr_tools.proofs.Variants.{faulty_ranges, seeded_ranges, with_nth}
use Rattle.dr_tools.proofs.sweeps.variants.Variants.script.Goals as goal

pub returns-in-Seeded-clause-script : goal.returns-in-Seeded-clause-script
returns-in-Seeded-clause-script c = IfOk-weaker c.seeded.result _ _ (λ s is. subst
    (λ (v : Variants). s ≡ variant v c.args.script.now c.args.number) (sym c.in-Seeded.is) is) c.seeded.ensures

pub returns-in-Seeded-clause-ranges : goal.returns-in-Seeded-clause-ranges
returns-in-Seeded-clause-ranges c = IfOk-weaker c.seeded.result _ _
    (λ s is. subst HasRanges (sym is) (seeded_ranges c.args.script.now _ c.requires.ranges)) c.seeded.ensures

pub returns-in-Crashes-clause-script : goal.returns-in-Crashes-clause-script
returns-in-Crashes-clause-script c =
    let n = c.args.number in
    let faults = c.in-Crashes.faults in
    let fault = c.fault_at.result in
    let below : n < length faults = subst (λ (v : Variants). n < variants_in v) c.in-Crashes.is c.requires.below in
    let at : fault ≡ get_or faults n fault = c.fault_at.ensures ∙ ap (λ fs. get_or fs n fault) c.as_slice.ensures in
    IfOk-weaker c.with_fault.result _ _ (λ s is. subst (λ (v : Variants). s ≡ variant v c.args.script.now n)
    (sym c.in-Crashes.is) (is ∙ with_nth faults c.args.script.now n fault below at)) c.with_fault.ensures

pub returns-in-Crashes-clause-ranges : goal.returns-in-Crashes-clause-ranges
returns-in-Crashes-clause-ranges c =
    let script = c.args.script.now in
    let n = c.args.number in
    let faults = c.in-Crashes.faults in
    let fault = c.fault_at.result in
    let below : n < length faults = subst (λ (v : Variants). n < variants_in v) c.in-Crashes.is c.requires.below in
    let at : fault ≡ get_or faults n fault = c.fault_at.ensures ∙ ap (λ fs. get_or fs n fault) c.as_slice.ensures in
    let sound = subst (λ (v : Variants). AreSound script v) c.in-Crashes.is c.requires.sound in
    let own : HasFaultRanges script fault = subst (HasFaultRanges script) (sym at) (sound.1 n fault below) in
    IfOk-weaker c.with_fault.result _ _
    (λ s is. subst HasRanges (sym is) (faulty_ranges script fault c.requires.ranges sound.0 own)) c.with_fault.ensures
