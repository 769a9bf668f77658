use Rattle.std.proofs.Common.{◌≡◌, ◌⊎◌, inl, inr, subst, Bool, [], MatchBool, None}
use Rattle.dr_ages.specs.{Ages.HaveSomebodyPrompt, Runs.IsRunOf, declared.part.Part.Part}
use Rattle.dr_script.specs.declared.script.Script.{Script}
use Rattle.dr_yard.specs.Yards.{state_by}
use Rattle.dr_outcome.specs.{Last.last_of, Outcome.{AreAllLate, IsMemoryRun}}
use Rattle.dr_outcome.proofs.Due.{has_played, memory_played, run_played}
use Rattle.dr_outcome.proofs.playing.play_script.Goals as goal

-- what a test for late members has told
told : (script : Script) (part : Part) (one other : Bool) → one ≡ other
    → MatchBool one (AreAllLate script part) (HaveSomebodyPrompt script part)
    → MatchBool other (AreAllLate script part) (HaveSomebodyPrompt script part)
told script part one other is =
    subst (λ (b : Bool). MatchBool b (AreAllLate script part) (HaveSomebodyPrompt script part)) is

pub returns-then-are_all_late-clause-played : goal.returns-then-are_all_late-clause-played
returns-then-are_all_late-clause-played g c = inr (inr (
  subst (AreAllLate c.args.script.now) c.part-part.ensures
      (told c.args.script.now c.part-part.result _ _ c.if-are_all_late.true c.are_all_late.ensures),
  c.without_ages.ensures.alone (state_by g.Y.Yard.told g.Y.Yard.faults c.args.yard.now),
))

pub run_over-requires-clause-some : goal.run_over-requires-clause-some
run_over-requires-clause-some g c κs h =
    told c.args.script.now c.part-part.result _ _ c.if-are_all_late.false c.are_all_late.ensures

pub run_in_memory-requires-clause-some : goal.run_in_memory-requires-clause-some
run_in_memory-requires-clause-some g c κs h =
    told c.args.script.now c.part-part.result _ _ c.if-are_all_late.false c.are_all_late.ensures

pub returns-in-Some-clause-played : goal.returns-in-Some-clause-played
returns-in-Some-clause-played g c =
    let script = c.args.script.now in
    let p = c.args.play.now in
    let before = state_by g.Y.Yard.told g.Y.Yard.faults c.args.yard.now in
    let after = state_by g.Y.Yard.told g.Y.Yard.faults c.run_over.new.yard in
    let o = c.run_over.result in
    let run = subst (λ (part : Part). IsRunOf script part c.play.inside.mode before after o.ages o.stop)
    c.part-part.ensures c.run_over.ensures.run in
    inr (inl (
      has_played p script before after o c.requires.ranges (subst (HaveSomebodyPrompt script) c.part-part.ensures
          (told script c.part-part.result _ _ c.if-are_all_late.false c.are_all_late.ensures))
          (run_played p script before after o c.play.view_is c.in-Some.is run) c.run_over.ensures.last,
      c.run_over.ensures.body,
    ))

pub returns-in-None-clause-played : goal.returns-in-None-clause-played
returns-in-None-clause-played g c =
    let script = c.args.script.now in
    let yard = state_by g.Y.Yard.told g.Y.Yard.faults c.args.yard.now in
    let o = c.run_in_memory.result in
    elim (memory_played c.args.play.now script yard o c.play.view_is c.in-None.is c.requires.ranges
    (subst (HaveSomebodyPrompt script) c.part-part.ensures
    (told script c.part-part.result _ _ c.if-are_all_late.false c.are_all_late.ensures)) c.run_in_memory.ensures.body
    (subst (λ (part : Part). ((o.ages ≡ []) × (o.stop ≡ None) × (o.last ≡ None))
    ⊎ (IsMemoryRun script part c.play.inside.mode o.ages o.stop × (o.last ≡ last_of o.ages o.stop)))
    c.part-part.ensures c.run_in_memory.ensures.ran)) [
      | inl wanting ↦ inl wanting
      | inr played ↦ inr (inl (played, c.run_in_memory.ensures.body))
    ]
