-- The members of each age of a run agree.
use Rattle.std.proofs.{Common.{ℕ, ◌+◌, List, [], ◌∷◌, Option}, lemmas.List.Elements.{All-cons, All-nil}}
use Rattle.dr_ages.specs.{Ages.{AreAges, opening_of}, declared.{mode.Mode.Mode, part.Part.Part, stop.Stop.Stop}}
use Rattle.dr_ages.proofs.Parts.{part_or_none}
use Rattle.dr_entry.specs.declared.end.AgeEnd.{AgeEnd}
use Rattle.dr_history.specs.declared.opening.Opening.{Opening}
use Rattle.dr_outcome.specs.Outcome.{IsMemoryRun}
use Rattle.dr_script.specs.declared.script.Script.{Script}
use Rattle.dr_summary.specs.Summary.{HaveAgreed}
use Rattle.dr_yard.specs.Yards.{YardState, empty_yard}
use Rattle.dr_tools.specs.Summary.{AreAgreed}

-- those of an age do, whatever it opened with
abbrev IsAgreed : AgeEnd → Type 0
IsAgreed age = (o : Opening) × HaveAgreed o age.members

agreed_ages : (script : Script) (part : Part) (mode : Mode) (nth : ℕ) (before after : YardState)
    (ages : List AgeEnd) → AreAges script part mode nth before ages after → AreAgreed ages
agreed_ages script part mode nth before after [] are = All-nil IsAgreed
agreed_ages script part mode nth before after (age ∷ ages) (between, is, rest) = All-cons IsAgreed age ages (
  opening_of script part age,
  record {
    present = λ i e at. part_or_none script part mode nth before between age i e is at;
    agreed = is.played.agreed;
  },
) (agreed_ages script part mode (nth + 1) between after ages rest)

pub agreed_run : (script : Script) (part : Part) (mode : Mode) (ages : List AgeEnd) (stop : Option Stop)
    → IsMemoryRun script part mode ages stop → AreAgreed ages
agreed_run script part mode ages stop run = agreed_ages script part mode 0 empty_yard run.run.last ages run.run.course
