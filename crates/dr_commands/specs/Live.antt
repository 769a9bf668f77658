-- What comes of a script whose messages are pushed while its group runs.
use Rattle.std.specs.Prelude.{◌≡◌, ◌⊎◌, ℕ, List, [], ◌∷◌, codes, None, Some}
use Rattle.dr_live.specs.Live.{HasLived, IsLivePlan}
use Rattle.dr_outcome.specs.declared.outcome.Body.TheVariants as bodies
use Rattle.dr_outcome.specs.{Last.last_of, Outcome.{OfScript, SaysOnly}, declared.outcome.Outcome.Outcome}
use Rattle.dr_script.specs.{Reading.reading_of, declared.script.Script.Script}
use Rattle.dr_text.specs.declared.last.Last.{Last}
use Rattle.dr_text.specs.declared.last.Last.TheVariants as lasts
use Rattle.dr_yard.specs.Yards.{YardState}
use Rattle.dr_commands.specs.LiveLines.{live_text}

-- a live group has run by the script, whose messages its senders have pushed; this is said of them, and the
-- last line tells how the members ended
pub record HasRunLive (rounds : ℕ) (script : Script) (before after : YardState) (o : Outcome) : Type 0 where
  pub lived : HasLived script rounds script.messages o.ages
  pub unstopped : o.stop ≡ None
  pub untouched : after ≡ before
  pub body : o.body ≡ bodies.Text (live_text script.messages o.ages)
  pub line : o.last ≡ last_of o.ages None

-- the last line by which a script is refused that is no plan of a live group: it breaks one rule more
abbrev pub refused_plan : Last
refused_plan = lasts.Rule 15 (codes "/")

-- what comes of a script: it runs live, or is refused where it is no plan for that
abbrev pub OfPlan : ℕ → Script → YardState → YardState → Outcome → Type 0
OfPlan rounds script before after o =
    (IsLivePlan script × HasRunLive rounds script before after o)
    ⊎ ((¬ IsLivePlan script) × SaysOnly (Some refused_plan) before after o)

-- the text is a script, of which that comes; or it is refused
abbrev pub RunsLive : ℕ → List ℕ → YardState → YardState → Outcome → Type 0
RunsLive rounds bytes before after o =
    OfScript (λ script result. OfPlan rounds script before after result) (reading_of bytes) before after o

-- the statuses of its last lines
abbrev pub live_ends : List ℕ
live_ends = 3 ∷ 0 ∷ 8 ∷ []
