-- What a simulated run comes to, with the values in place of its report.
use Rattle.std.proofs.Common.{◌≡◌, ◌⊎◌, ap, inl, inr, refl, ℕ, List, ◌∙◌, Option, None}
use Rattle.dr_outcome.specs.declared.outcome.Body.TheVariants as bodies
use Rattle.dr_outcome.specs.Outcome.{HasDone, HasPlayed, OfScript, Plays, SaysOnly, WasPlayedOrNot}
use Rattle.dr_outcome.specs.{Playing.{part_in, play_ends, simulated}, declared.outcome.Outcome.Outcome}
use Rattle.dr_outcome.proofs.{Due.none_late, OutcomeKinds.{saying, due}}
use Rattle.dr_script.specs.Reading.{NotJson, Reading, Reads, TooLong, Wrong, reading_of}
use Rattle.dr_text.{specs.declared.last.Last.Last, proofs.Reports.whenever}
use Rattle.dr_yard.specs.Yards.{YardState}
use Rattle.dr_commands.specs.{Store.{Stores, store_ends}, StoreLines.last_values_text}

-- without ages there are no values
alone : (key : List ℕ) (version : ℕ) (yard : YardState) (o : Outcome) (text : List ℕ) (last : Option Last)
    → text ≡ last_values_text key version o.ages → SaysOnly last yard yard o → SaysOnly last yard yard (saying o text)
alone key version yard o text last is says = record {
  none = says.none;
  unstopped = says.unstopped;
  untouched = says.untouched;
  bare = whenever last (is ∙ ap (last_values_text key version) says.none);
  line = says.line;
}

stores : (key : List ℕ) (version : ℕ) (yard : YardState) (o : Outcome) (text : List ℕ) (r : Reading)
    → text ≡ last_values_text key version o.ages
    → OfScript (λ script result. WasPlayedOrNot simulated script yard yard result) r yard yard o
    → OfScript (λ script result. HasPlayed simulated script yard yard result
    × (result.body ≡ bodies.Text (last_values_text key version result.ages))) r yard yard (saying o text)
stores key version yard o text TooLong is says = alone key version yard o text _ is says
stores key version yard o text NotJson is says = alone key version yard o text _ is says
stores key version yard o text (Wrong rule path) is says = alone key version yard o text _ is says
stores key version yard o text (Reads script) is (inr unplayed) =
    absurd (none_late script (part_in simulated) refl unplayed.0)
stores key version yard o text (Reads script) is (inl (played, report)) = (
  record {
    ranges = played.ranges;
    prompt = played.prompt;
    run = played.run;
    line = played.line;
    accepted = played.accepted;
    untimely = played.untimely;
    untrusting = played.untrusting;
    told = played.told;
    fit = played.fit;
    in_step = played.in_step;
    complete = played.complete;
  },
  ap bodies.Text is,
)

pub values_said : (key : List ℕ) (version : ℕ) (bytes : List ℕ) (yard : YardState) (o : Outcome) (text : List ℕ)
    → text ≡ last_values_text key version o.ages → SaysOnly None yard yard o
    ⊎ HasDone (Plays simulated bytes) (play_ends simulated) yard yard o → SaysOnly None yard yard (saying o text)
    ⊎ HasDone (Stores key version bytes) store_ends yard yard (saying o text)
values_said key version bytes yard o text is (inl wanting) = inl (alone key version yard o text None is wanting)
values_said key version bytes yard o text is (inr has) = inr (record {
  does = stores key version yard o text (reading_of bytes) is has.does;
  due = due o text has.due;
  known = has.known;
  told = has.told;
})
