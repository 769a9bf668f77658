-- What a simulated drill comes to, with its lines in place of its report.
use Rattle.std.proofs.Common.{◌≡◌, ◌⊎◌, ap, inl, inr, ℕ, List, None}
use Rattle.dr_drill.specs.Drill.{drill}
use Rattle.dr_outcome.specs.declared.outcome.Body.TheVariants as bodies
use Rattle.dr_outcome.specs.{Outcome.{HasDone, HasPlayed, SaysOnly}, Playing.simulated}
use Rattle.dr_outcome.{specs.declared.outcome.Outcome.Outcome, proofs.{Due.played_ends, OutcomeKinds.saying}}
use Rattle.dr_yard.specs.Yards.{YardState}
use Rattle.dr_commands.specs.{Drill.{Drills, drill_ends}, DrillLines.drill_text}

played_so : (number : ℕ) (yard : YardState) (o : Outcome) (text : List ℕ)
    → HasPlayed simulated (drill number) yard yard o → HasPlayed simulated (drill number) yard yard (saying o text)
played_so number yard o text played = record {
  ranges = played.ranges;
  prompt = played.prompt;
  run = played.run;
  line = played.line;
  accepted = played.accepted;
  untimely = played.untimely;
  untrusting = played.untrusting;
  told = played.told;
  fit = played.fit;
  in_step = played.in_step;
  complete = played.complete;
}

pub drill_said : (number : ℕ) (bytes : List ℕ) (yard : YardState) (o : Outcome) (text : List ℕ)
    → text ≡ drill_text number o.ages → SaysOnly None yard yard o ⊎ HasPlayed simulated (drill number) yard yard o
    → SaysOnly None yard yard (saying o text) ⊎ HasDone (Drills number bytes) drill_ends yard yard (saying o text)
drill_said number bytes yard o text is (inl wanting) = inl (record {
  none = wanting.none;
  unstopped = wanting.unstopped;
  untouched = wanting.untouched;
  bare = tt;
  line = wanting.line;
})
drill_said number bytes yard o text is (inr played) =
    let said = played_so number yard o text played in
    let ends = played_ends simulated (drill number) yard yard (saying o text) said in
    inr (record { does = (said, ap bodies.Text is); due = ends.0; known = ends.1; told = said.told })
