-- What comes of a log that is read and printed.
use Rattle.std.specs.Prelude.{◌≡◌, ℕ, List, [], Option}
use Rattle.dr_intake.specs.{Reading.WasReadTo, Status.WroteText}
use Rattle.dr_io.specs.{Faults.Rose, Sink.Gains}
use Rattle.dr_tools.specs.LogText.{IsSaid}

-- these bytes were read, at most one more than a log has, and what is said of them was written
pub record PrintedLog (old new held holds : Option (List ℕ)) (fell falls status : ℕ) : Type 0 where
  pub bytes : List ℕ
  pub was_read : WasReadTo 2147483649 old new bytes
  pub text : List ℕ
  pub due : ℕ
  pub told : IsSaid bytes text due
  pub wrote : WroteText held holds fell falls status due text

-- What comes of a call, by what its source had left and then has, what its sink held and then holds, and how
-- many calls of each had failed and then have.
pub data Printed (old new : Option (List ℕ)) (failed fails : ℕ) (held holds : Option (List ℕ))
    (fell falls status : ℕ) : Type 0 where
  -- memory was wanting
  no_memory : status ≡ 10 → Gains held holds [] → Printed old new failed fails held holds fell falls status
  -- the source failed
  no_source : status ≡ 4 → Rose failed fails → Gains held holds []
      → Printed old new failed fails held holds fell falls status
  -- the log was printed
  printed : PrintedLog old new held holds fell falls status
      → Printed old new failed fails held holds fell falls status
