-- What comes of the shards of a script, and of its last line.
use Rattle.std.proofs.Common.{◌≡◌, refl, sym, ap, ◌∙◌, subst, ℕ, arith, List, [], ◌∷◌, Contains, Option, None, Some, IfSome}
use Rattle.dr_entry.proofs.ListParts.{contains_more}
use Rattle.dr_intake.{specs.Status.status_of, proofs.Intakes.among}
use Rattle.dr_outcome.specs.{Last.last_of, Outcome.{HasDone, SaysOnly, by_run, unrun, unrun_ends}, Playing.ends_over}
use Rattle.dr_outcome.{specs.declared.outcome.Outcome.Outcome, proofs.Due.{EndsIn, same_tells, script_ends}}
use Rattle.dr_script.specs.{Reading.reading_of, declared.script.Script.Script}
use Rattle.dr_shards.specs.{Layout.{lay_refusal, layout}, declared.fault.LayFault.LayFault}
use Rattle.dr_shards.specs.declared.fault.LayFault.TheVariants.{Crosses, ManyAges, NoShard, OutOfMemory}
use Rattle.dr_text.specs.declared.last.Last.{Last}
use Rattle.dr_yard.specs.Yards.{YardState}
use Rattle.dr_commands.specs.Shards.{HasRunShards, OfLayout, RunsShards, refused_layout, shards_ends}
use Rattle.dr_commands.{specs.declared.shards.sharding.Sharding.Sharding, proofs.ShardsLasts.shard_lasts}

-- the refusals of a layout have status 12
twelve : (fault : LayFault) → IfSome (refused_layout fault) (λ line. status_of line ≡ 12)
twelve OutOfMemory = tt
twelve (NoShard shards members) = refl
twelve (ManyAges ages) = refl
twelve (Crosses fault) = refl

refused_ends : (yard : YardState) (o : Outcome) (fault : LayFault)
    → SaysOnly (refused_layout fault) yard yard o → EndsIn (12 ∷ ends_over None) o
refused_ends yard o fault says = (
  unrun says.none says.unstopped (subst (λ l. IfSome l (λ line. Contains unrun_ends (status_of line))) (sym says.line)
      (among unrun_ends (refused_layout fault) (λ status is. (3, omega arith, sym is)) (twelve fault))),
  subst (λ l. IfSome l (λ line. Contains (12 ∷ ends_over None) (status_of line))) (sym says.line)
      (among (12 ∷ ends_over None) (refused_layout fault) (λ status is. (0, omega arith, sym is)) (twelve fault)),
)

run_ends : (s : Sharding) (script : Script) (yard : YardState) (o : Outcome)
    → HasRunShards s script yard yard o → EndsIn (12 ∷ ends_over None) o
run_ends s script yard o has = (
  by_run (has.line ∙ ap (last_of o.ages) (sym has.unstopped)),
  by_last o.last (sym has.line),
)
  where
    by_last : (last : Option Last) → last_of o.ages None ≡ last
        → IfSome last (λ line. Contains (12 ∷ ends_over None) (status_of line))
    by_last None is = tt
    by_last (Some line) is = contains_more 12 (ends_over None) (status_of line)
        (shard_lasts s.mode (layout script s.count) o.ages line has.ages is)

layout_ends : (s : Sharding) (script : Script) (yard : YardState) (o : Outcome) (r : Option LayFault)
    → OfLayout r s script yard yard o → EndsIn (12 ∷ ends_over None) o
layout_ends s script yard o None has = run_ends s script yard o has
layout_ends s script yard o (Some fault) says = refused_ends yard o fault says

pub shards_done : (s : Sharding) (bytes : List ℕ) (yard : YardState) (o : Outcome)
    → RunsShards s bytes yard yard o → HasDone (RunsShards s bytes) shards_ends yard yard o
shards_done s bytes yard o comes =
    let has = script_ends (λ script result. OfLayout (lay_refusal script s.count) s script yard yard result)
    (12 ∷ ends_over None) yard yard o
    (λ script is. layout_ends s script yard o (lay_refusal script s.count) is) (reading_of bytes) comes in
    record { does = comes; due = has.0; known = has.1; told = same_tells yard yard o.last refl }
