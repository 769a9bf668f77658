use Rattle.std.{specs.Prelude.IfOk, proofs.{Common.{refl, sym, subst}, lemmas.Result.IfOk-weaker}}
use Rattle.dr_play.specs.Logged.{AreAmple, AreOpened}
use Rattle.dr_restart.specs.Groups.{group_of}
use Rattle.dr_shards.specs.{Shards.IsShardAge, declared.run.ShardMode.TheVariants.{Sim, Run}}
use Rattle.dr_shards.proofs.Owning.{shard_age}
use Rattle.dr_shards.proofs.run.run_shard.Goals as goal

pub returns-in-Sim : goal.returns-in-Sim
returns-in-Sim g c =
    let script = c.args.script.now in let first = c.first_start-start.ensures in let made = c.in_ok-logs.ensures in
    let group = group_of script c.first_start-start.result in
    subst (λ m. IfOk c.sim_age.result (IsShardAge m script)) (sym c.in-Sim.is) (IfOk-weaker c.sim_age.result _ _
    (shard_age _ _ (λ disk. refl) Sim script c.first_start-start.result first.start first.group
    c.requires.ranges.group.lists _ _ (subst (AreOpened group) (sym c.deref_mut.ensures.value) made.opened)
    (subst (AreAmple group) (sym c.deref_mut.ensures.value) made.ample)) c.sim_age.ensures.age)

pub returns-in-Ok : goal.returns-in-Ok
returns-in-Ok g c =
    let script = c.args.script.now in let first = c.first_start-start.ensures in
    let age = c.in-Ok.age in let made = c.in_ok-logs.ensures in
    subst (λ m. IsShardAge m script age) (sym c.in-Run.is)
    (shard_age _ _ (λ disk. refl) Run script c.first_start-start.result first.start first.group
    c.requires.ranges.group.lists _ _ made.opened made.ample age c.in-Ok.ensures.age)
