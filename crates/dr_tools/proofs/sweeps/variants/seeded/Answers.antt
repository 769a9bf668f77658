use Rattle.std.proofs.Common.{ap, refl}
use Rattle.dr_script.specs.declared.script.Script.{Script}
use Rattle.dr_tools.{specs.Variants.by_seed, proofs.Variants.whole_copy}
use Rattle.dr_tools.proofs.sweeps.variants.seeded.Goals as goal

pub returns : goal.returns
returns c = ap (λ (s : Script). by_seed s c.args.seed)
    (whole_copy _ c.args.script.now c.in_ok-copy.copy refl c.in_ok-copy.ensures)
