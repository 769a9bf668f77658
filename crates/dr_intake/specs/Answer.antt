-- What comes of a call of a program that looks at its words, reads its source and says something.
-- Such a program is given by the command that its words ask for, by which commands read, and by what each
-- makes of what was read for it.
use Rattle.std.specs.Prelude.{◌≡◌, ◌⊎◌, ⊤, ℕ, Bool, true, false, IsTrue, List, [], ◌∷◌, Option, None, Some, IsSomeAnd, String}
use Rattle.std.specs.declared.alloc.Global.{Global}
use Rattle.dr_io.specs.{Faults.Rose, Sink.Gains, Source.Loses}
use Rattle.dr_script.specs.{Reading.{Reading, Reads}, declared.script.Script.Script}
use Rattle.dr_text.specs.{Report.last_text, declared.last.Last.Last}
use Rattle.dr_text.specs.declared.last.Last.TheVariants as lasts
use Rattle.dr_intake.specs.{Reading.{WasRead, refusal_in}, Status.{WroteText, status_of}, declared.call.Unread.Unread}
use Rattle.dr_intake.specs.declared.call.Unread.TheVariants as reasons

-- what was read for a command: what was left, as far as a script goes, or nothing, where it does not read
abbrev pub WasReadFor : Bool → Option (List ℕ) → Option (List ℕ) → List ℕ → Type 0
WasReadFor true old new bytes = WasRead old new bytes
WasReadFor false old new bytes = Loses old new [] × (bytes ≡ [])

-- What a call comes to, by the command that its words ask for, and by what its source had left and then has.
-- `Alone` says of an answer that it is this last line and nothing more.
pub data IsAnswer {C A : Type 0} (reads : C → Bool) (Alone : Option Last → A → Type 0)
    (Does : C → List ℕ → A → Type 0) (asked : Option C) (old new : Option (List ℕ)) (failed fails : ℕ)
    (answer : A) : Type 0 where
  -- the words are no command
  usage : asked ≡ None → Loses old new [] → Alone (Some lasts.Usage) answer
      → IsAnswer reads Alone Does asked old new failed fails answer
  -- the source failed
  no_source : (command : C) → asked ≡ Some command → IsTrue (reads command) → Rose failed fails
      → Alone (Some lasts.SourceFault) answer
      → IsAnswer reads Alone Does asked old new failed fails answer
  -- memory was wanting before the command could do anything
  no_memory : (command : C) → asked ≡ Some command → Alone None answer
      → IsAnswer reads Alone Does asked old new failed fails answer
  -- it did what it does
  done : (command : C) → asked ≡ Some command → (bytes : List ℕ)
      → WasReadFor (reads command) old new bytes → Does command bytes answer
      → IsAnswer reads Alone Does asked old new failed fails answer

-- a text, and the status that is due
abbrev pub Said : Type 0
Said = List ℕ × ℕ

-- this last line is said, with its status: of words that are no command, how the program is called
abbrev pub IsLine : List ℕ → Last → Said → Type 0
IsLine usage_text lasts.Usage said = (said.0 ≡ usage_text) × (said.1 ≡ 2)
IsLine usage_text line said = (said.0 ≡ last_text line) × (said.1 ≡ status_of line)

-- an answer was written
pub record WroteAnswer (Is : Said → Type 0) (held holds : Option (List ℕ)) (fell falls status : ℕ) :
    Type 0 where
  pub text : List ℕ
  pub due : ℕ
  pub answer : Is (text, due)
  pub wrote : WroteText held holds fell falls status due text

-- memory was wanting and nothing was written, or an answer was
abbrev pub ToldBy : (Said → Type 0) → Option (List ℕ) → Option (List ℕ) → ℕ → ℕ → ℕ → Type 0
ToldBy Is held holds fell falls status =
    ((status ≡ 10) × Gains held holds []) ⊎ WroteAnswer Is held holds fell falls status

-- ---- calls that say something of what their source has

-- what such a call has to say, by what its words ask for and by what it says of what was read
abbrev pub IsCallAnswer : {C : Type 0} → List ℕ → (C → List ℕ → Said → Type 0) → Option C → Option (List ℕ)
    → Option (List ℕ) → ℕ → ℕ → Said → Type 0
IsCallAnswer usage_text Says asked =
    IsAnswer (λ command. true) (λ line said. IsSomeAnd line (λ l. IsLine usage_text l said)) Says asked

-- the last line of such a call that reads nothing: none where memory was wanting
abbrev pub unread_line : Unread → Option Last
unread_line reasons.Usage = Some lasts.Usage
unread_line reasons.SourceFault = Some lasts.SourceFault
unread_line reasons.OutOfMemory = None

-- why it does
abbrev pub IsUnread : {C : Type 0} → Option C → Option (List ℕ) → Option (List ℕ) → ℕ → ℕ → Unread → Type 0
IsUnread asked = IsAnswer (λ command. true) (λ line why. line ≡ unread_line why) (λ command bytes why. ⊥) asked

-- what is said of what was read: this of a script, and of a text that is none the line by which it is refused
abbrev pub SaysOf : (Script → Said → Type 0) → Reading → Said → Type 0
SaysOf Says (Reads script) said = Says script said
SaysOf Says refused said =
    IsSomeAnd (refusal_in refused) (λ line. (said.0 ≡ last_text line) × (said.1 ≡ status_of line))

-- the one command that no words ask for
abbrev pub wordless : List (String Global) → Option ⊤
wordless [] = Some tt
wordless (word ∷ words) = None
