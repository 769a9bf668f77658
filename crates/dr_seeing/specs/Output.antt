-- What is written as a run goes on.
use Rattle.std.specs.Prelude.{◌≡◌, ℕ, List, ◌++◌, Option, None, Some}
use Rattle.dr_io.specs.{Faults.Rose, Sink.Gains}
use Rattle.dr_seeing.specs.declared.output.Trouble.{Trouble}
use Rattle.dr_seeing.specs.declared.output.Trouble.TheVariants as troubles
use Rattle.dr_text.specs.Writing.{WroteFront}

-- what the sink holds, how many of its calls have failed, the text that waits to be written, and what is in
-- the way of writing it
pub record Written : Type 0 where
  pub held : Option (List ℕ)
  pub faults : ℕ
  pub waiting : List ℕ
  pub trouble : Option Trouble

-- the text was written, but for its end, which waits
pub record IsUnderway (held : Option (List ℕ)) (fell : ℕ) (text : List ℕ) (now : Written) : Type 0 where
  pub front : List ℕ
  pub gained : Gains held now.held front
  pub whole : text ≡ front ++ now.waiting
  pub calm : now.faults ≡ fell

-- a front part of the text was written; where memory was wanting, no call has failed
abbrev pub WasBrokenOff : Trouble → Option (List ℕ) → ℕ → List ℕ → Written → Type 0
WasBrokenOff troubles.Sink held fell text now = Rose fell now.faults × WroteFront held now.held text
WasBrokenOff troubles.Memory held fell text now = (now.faults ≡ fell) × WroteFront held now.held text

-- what has become of a text since the sink held that much and so many of its calls had failed, by what is
-- in the way
abbrev pub WasWrittenSoFar : Option Trouble → Option (List ℕ) → ℕ → List ℕ → Written → Type 0
WasWrittenSoFar None held fell text now = IsUnderway held fell text now
WasWrittenSoFar (Some trouble) held fell text now = WasBrokenOff trouble held fell text now

abbrev pub HasTold : Option (List ℕ) → ℕ → List ℕ → Written → Type 0
HasTold held fell text now = WasWrittenSoFar now.trouble held fell text now

-- this text was told behind all that was told before
abbrev pub Tells : List ℕ → Written → Written → Type 0
Tells text old new = (held : Option (List ℕ)) (fell : ℕ) (before : List ℕ) → HasTold held fell before old
    → HasTold held fell (before ++ text) new

-- so it was of one of these texts
abbrev pub TellsSome : Written → Written → Type 0
TellsSome old new = (text : List ℕ) × Tells text old new

-- the whole text was written, where nothing was in the way, and else a front part of it; where the sink was
-- in the way, a call of it has failed, and else none has
abbrev pub IsFinished : Option Trouble → Option (List ℕ) → ℕ → List ℕ → Option (List ℕ) → ℕ → Type 0
IsFinished None held fell text holds falls = Gains held holds text × (falls ≡ fell)
IsFinished (Some troubles.Sink) held fell text holds falls = Rose fell falls × WroteFront held holds text
IsFinished (Some troubles.Memory) held fell text holds falls = (falls ≡ fell) × WroteFront held holds text
