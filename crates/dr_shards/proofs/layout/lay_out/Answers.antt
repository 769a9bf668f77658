use Rattle.std.{specs.Prelude.All, proofs.Common.{◌≡◌, sym, subst, ◌∙◌, arith}}
use Rattle.dr_script.specs.{Ranges.HasRanges, declared.script.Script.Script}
use Rattle.dr_shards.proofs.Laying.{layout_ranges, lays_out}
use Rattle.dr_shards.proofs.layout.lay_out.Goals as goal

pub returns-clause-ranges : goal.returns-clause-ranges
returns-clause-ranges c =
    let script = c.args.script.now in let shards = c.args.shards in
    subst (All (λ (s : Script). HasRanges s × (s.ages ≡ 1))) (sym c.in_ok-shards_of.ensures)
    (layout_ranges script shards c.requires.ranges (omega (arith, c.requires.some))
    (lays_out script shards (sym c.lay_refusal.ensures ∙ c.in_default.is)))
