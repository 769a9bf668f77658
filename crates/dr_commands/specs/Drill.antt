-- What comes of a drill.
use Rattle.std.specs.Prelude.{◌≡◌, ℕ, List}
use Rattle.dr_drill.specs.Drill.{drill}
use Rattle.dr_outcome.specs.declared.outcome.Body.TheVariants as bodies
use Rattle.dr_outcome.specs.{Outcome.HasPlayed, Playing.{ends_over, simulated}, declared.outcome.Outcome.Outcome}
use Rattle.dr_yard.specs.Yards.{YardState}
use Rattle.dr_commands.specs.DrillLines.{drill_text}

-- whatever was read, the script that the number makes was simulated in memory, and this is said of its ages
abbrev pub Drills : ℕ → List ℕ → YardState → YardState → Outcome → Type 0
Drills number bytes before after o =
    HasPlayed simulated (drill number) before after o × (o.body ≡ bodies.Text (drill_text number o.ages))

-- the statuses of its last lines
abbrev pub drill_ends : List ℕ
drill_ends = ends_over simulated.folder
