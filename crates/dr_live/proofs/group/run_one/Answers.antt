use Rattle.std.proofs.Common.{◌≡◌, Option, None, refl, subst, sym}
use Rattle.dr_ages.specs.{Ages.{HaveSomebodyPrompt, all_but}, Runs.IsRunOf, declared.mode.Mode.TheVariants.Run}
use Rattle.dr_ages.specs.declared.{part.Part.Part, stop.Stop.{Stop, TheVariants.OutOfMemory}}
use Rattle.dr_ages.proofs.{Prompt.all_prompt, Runs.one_age}
use Rattle.dr_live.specs.Live.{calm_yard}
use Rattle.dr_live.proofs.group.run_one.Goals as goal

pub run_ages-ages-requires-clause-some : goal.run_ages-ages-requires-clause-some
run_ages-ages-requires-clause-some g c κs within =
    subst (HaveSomebodyPrompt c.args.script.now) (sym c.everybody-part.ensures) (all_prompt c.args.script.now 0)

pub unreachable-requires : goal.unreachable-requires
unreachable-requires g c =
    let before = calm_yard c.args.yard.now in
    let after = calm_yard c.run_ages-ages.new.yard in
    let ages = c.run_ages-ages.result.ages in
    let all = subst (λ (part : Part). IsRunOf c.args.script.now part Run before after ages c.run_ages-ages.result.stop)
    c.everybody-part.ensures c.run_ages-ages.ensures.run in
    let run = subst (λ (stop : Option Stop). IsRunOf c.args.script.now (all_but 0) Run before after ages stop)
    c.in-Some.is all in
    let is : c.in-Some.stop ≡ OutOfMemory = c.requires.opens after ages c.in-Some.stop (λ m. refl) run in
    absurd (c.in_default.not-OutOfMemory is)

pub returns-in-None-clause-age : goal.returns-in-None-clause-age
returns-in-None-clause-age g c =
    let before = calm_yard c.args.yard.now in
    let after = calm_yard c.run_ages-ages.new.yard in
    let ages = c.run_ages-ages.result.ages in
    let all = subst (λ (part : Part). IsRunOf c.args.script.now part Run before after ages c.run_ages-ages.result.stop)
    c.everybody-part.ensures c.run_ages-ages.ensures.run in
    let run : IsRunOf c.args.script.now (all_but 0) Run before after ages None =
    subst (λ (stop : Option Stop). IsRunOf c.args.script.now (all_but 0) Run before after ages stop) c.in-None.is all in
    one_age c.args.script.now before after ages c.only.result run c.only.ensures
