-- What comes of the question what the members store.
use Rattle.std.specs.Prelude.{◌≡◌, ℕ, List}
use Rattle.dr_outcome.specs.declared.outcome.Body.TheVariants as bodies
use Rattle.dr_outcome.specs.{Outcome.{HasPlayed, OfScript}, Playing.{play_ends, simulated}}
use Rattle.dr_outcome.specs.declared.outcome.Outcome.{Outcome}
use Rattle.dr_script.specs.Reading.{reading_of}
use Rattle.dr_yard.specs.Yards.{YardState}
use Rattle.dr_commands.specs.StoreLines.{last_values_text}

-- the text is a script, which was simulated in memory, and what is said is the value of a key at a version in
-- the store of each member; or it is refused
abbrev pub Stores : List ℕ → ℕ → List ℕ → YardState → YardState → Outcome → Type 0
Stores key version bytes before after o =
    OfScript (λ script result. HasPlayed simulated script before after result
    × (result.body ≡ bodies.Text (last_values_text key version result.ages))) (reading_of bytes) before after o

-- the statuses of its last lines
abbrev pub store_ends : List ℕ
store_ends = play_ends simulated
