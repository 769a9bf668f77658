use Rattle.std.proofs.{Common.{◌++◌, ◌∷◌, [], sym, subst, take, ◌∙◌, ap}, lemmas.List.take_more}
use Rattle.dr_shards.{specs.Shards.AreShardAges, proofs.Owning.ages_more}
use Rattle.dr_shards.proofs.run.run_shards.Goals as goal

pub loop-script-preserved : goal.loop-script-preserved
loop-script-preserved g c =
    let scripts = c.args.scripts.now in let i = c.loop-script.script-index in let script = c.script-item.result in
    let front = take_more scripts i script c.loop-script-test.true
    ∙ ap (λ s. take i scripts ++ s ∷ []) (sym c.script-item.is) in
    subst (λ xs. AreShardAges c.args.mode xs c.push.new.self.items) (sym front)
    (subst (λ ages. AreShardAges c.args.mode (take i scripts ++ script ∷ []) ages) (sym c.in_ok-push.ensures.items)
    (ages_more c.args.mode (take i scripts) c.loop-script.ages.items script c.in_ok-run_shard.field-0
    c.loop-script.invariant c.in_ok-run_shard.ensures))
