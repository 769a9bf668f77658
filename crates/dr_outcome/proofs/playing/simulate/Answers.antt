use Rattle.std.proofs.Common.{◌≡◌, ◌⊎◌, [], None, refl, subst, sym}
use Rattle.dr_ages.specs.{Ages.HaveSomebodyPrompt, declared.{mode.Mode.TheVariants.Sim, part.Part.Part}}
use Rattle.dr_ages.proofs.Prompt.{all_prompt}
use Rattle.dr_outcome.{specs.{Last.last_of, Outcome.IsMemoryRun, Playing.simulated}, proofs.Due.memory_played}
use Rattle.dr_outcome.proofs.playing.simulate.Goals as goal

pub run_in_memory-requires-clause-some : goal.run_in_memory-requires-clause-some
run_in_memory-requires-clause-some g c κs h =
    subst (HaveSomebodyPrompt c.args.script.now) (sym c.everybody.ensures) (all_prompt c.args.script.now 0)

pub returns-clause-played : goal.returns-clause-played
returns-clause-played g c = λ yard.
    let o = c.run_in_memory.result in
    memory_played simulated c.args.script.now yard o refl refl c.requires (all_prompt c.args.script.now 0)
    c.run_in_memory.ensures.body (subst (λ (part : Part). ((o.ages ≡ []) × (o.stop ≡ None) × (o.last ≡ None))
    ⊎ (IsMemoryRun c.args.script.now part Sim o.ages o.stop × (o.last ≡ last_of o.ages o.stop)))
    c.everybody.ensures c.run_in_memory.ensures.ran)
