use Rattle.std.proofs.Common.{List, ℕ, inl, inr, rules, subst, sym, IsTrue}
use Rattle.dr_intake.specs.Answer.{done, no_memory, no_source}
use Rattle.dr_io.specs.Faults.{Rose}
use Rattle.dr_outcome.specs.Outcome.{HasDone}
use Rattle.dr_yard.specs.Yards.{state_by}
use Rattle.dr_commands.specs.{Outcome.Does, Words.{ends_of, reads}}
use Rattle.dr_commands.proofs.outcome.outcome_of.Goals as goal

pub returns-in-Ok-clause-course : goal.returns-in-Ok-clause-course
returns-in-Ok-clause-course g c = elim c.do_command.ensures.done [
  | inl wanting ↦ no_memory c.in-Some.command (sym c.in-Some.ensures) wanting
  | inr has ↦ done c.in-Some.command (sym c.in-Some.ensures) c.in-Ok.bytes.items c.in-Ok.ensures.bytes
      (subst (λ (bytes : List ℕ). HasDone (Does c.in-Some.command bytes) (ends_of c.in-Some.command)
      (state_by g.Y.Yard.told g.Y.Yard.faults c.args.yard.now)
      (state_by g.Y.Yard.told g.Y.Yard.faults c.do_command.new.yard) c.do_command.result) c.deref.ensures.value has)
]

pub returns-in-Err-Failed-clause-course : goal.returns-in-Err-Failed-clause-course
returns-in-Err-Failed-clause-course g c =
    let yard = state_by g.Y.Yard.told g.Y.Yard.faults c.args.yard.now in
    let failed : IsTrue (reads c.in-Some.command)
    × Rose (g.S.Source.faults c.args.source.now) (g.S.Source.faults c.read_for.new.source) = search rules in
    no_source c.in-Some.command (sym c.in-Some.ensures) failed.0 failed.1
    (c.without_ages-in-Err-Failed.ensures.alone yard)

pub returns-in-Err-OutOfMemory-clause-course : goal.returns-in-Err-OutOfMemory-clause-course
returns-in-Err-OutOfMemory-clause-course g c =
    let yard = state_by g.Y.Yard.told g.Y.Yard.faults c.args.yard.now in
    no_memory c.in-Some.command (sym c.in-Some.ensures) (c.without_ages-in-Err-OutOfMemory.ensures.alone yard)
