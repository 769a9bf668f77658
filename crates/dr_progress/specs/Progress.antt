-- How far a run is said to be, and when.
use Rattle.std.specs.Fmt.{decimal}
use Rattle.std.specs.Prelude.{◌≡◌, ◌⊎◌, ◌≤◌, ℕ, ◌+◌, ◌-◌, ◌^◌, ◌==◌, min, if◌then◌else◌, Bool, true, false, List, ◌++◌, codes, Option, None, Some, IfSome}
use Rattle.dr_io.specs.Sink.{Gains}
use Rattle.dr_text.specs.Writing.{WroteFront}
use Rattle.dr_progress.specs.declared.line.TheConstants.{BLANK}

-- what has become of a progress
pub record Standing : Type 0 where
  -- what the sink holds, and whether it is a terminal
  pub held : Option (List ℕ)
  pub is_terminal : Bool
  -- what the timer has told last
  pub now : ℕ
  -- when the next line is due, if one is
  pub due : Option ℕ
  -- whether a line stands on the terminal
  pub stands : Bool
  -- of several runs the number of the one that runs, from 1, and how many there are, if that is known
  pub run : ℕ
  pub runs : ℕ
  -- the age that runs, and how many turns a member takes in it at most
  pub age : ℕ
  pub turns : ℕ

-- before any run
abbrev pub unbegun : Option (List ℕ) → ℕ → Bool → Standing
unbegun held now is_terminal = record {
  held = held;
  is_terminal = is_terminal;
  now = now;
  due = None;
  stands = false;
  run = 0;
  runs = 0;
  age = 0;
  turns = 0;
}

-- the line by which a run is in this turn of this age, behind what blanks the line that may stand there
abbrev pub line_text : ℕ → ℕ → ℕ → List ℕ
line_text age turn turns =
    BLANK.now ++ (codes "age " ++ (decimal age ++ (codes ", turn " ++ (decimal turn
    ++ (codes " of at most " ++ decimal turns)))))

-- the number of a run, and of how many it is, where that is known
abbrev pub run_text : ℕ → ℕ → List ℕ
run_text run runs =
    if runs == 0 then codes "run " ++ decimal run else codes "run " ++ (decimal run ++ (codes " of " ++ decimal runs))

-- the line by which this one of several runs is in this turn of this age
abbrev pub run_line_text : ℕ → ℕ → ℕ → ℕ → List ℕ
run_line_text run runs age turn =
    BLANK.now ++ (run_text run runs ++ (codes ", age " ++ (decimal age ++ (codes ", turn " ++ decimal turn))))

-- the line by which a member is in this turn
abbrev pub said_text : Standing → ℕ → List ℕ
said_text s turn =
    if s.run == 0 then line_text s.age turn s.turns else run_line_text s.run s.runs s.age turn

-- a run begins, or several do: nothing is said, and a line is due in two seconds, if at all, and only on a terminal
pub record Begins (old new : Standing) : Type 0 where
  pub held : new.held ≡ old.held
  pub later : old.now ≤ new.now
  pub due : (new.due ≡ None) ⊎ ((old.is_terminal ≡ true) × (new.due ≡ Some (new.now + 2000)))
  pub stands : new.stands ≡ false
  -- none of several has come
  pub run : new.run ≡ 0
  pub runs : new.runs ≡ 0

-- the next of several runs comes
abbrev pub next_run : Standing → Standing
next_run s = record s { run = min (s.run + 1) (2 ^ 64 - 1) }

-- nothing is said; from a reading on that fails nothing more is due
pub record SaysNothing (old new : Standing) : Type 0 where
  pub held : new.held ≡ old.held
  pub later : old.now ≤ new.now
  pub due : (new.due ≡ old.due) ⊎ (new.due ≡ None)
  pub stands : new.stands ≡ old.stands
  pub run : new.run ≡ old.run
  pub runs : new.runs ≡ old.runs
  pub age : new.age ≡ old.age
  pub turns : new.turns ≡ old.turns

-- a line was due and was said, or a front part of it; where it was said as a whole the next one is due a
-- second later, if at all, and else nothing more is due
pub record SaysLine (line : List ℕ) (old new : Standing) : Type 0 where
  pub at : ℕ
  pub was_due : old.due ≡ Some at
  pub late : at ≤ new.now
  pub later : old.now ≤ new.now
  pub wrote : WroteFront old.held new.held line
  pub next : IfSome new.due (λ due. (due ≡ new.now + 1000) × Gains old.held new.held line)
  pub run : new.run ≡ old.run
  pub runs : new.runs ≡ old.runs
  pub age : new.age ≡ old.age
  pub turns : new.turns ≡ old.turns

-- it says nothing, or that a member is in this turn
abbrev pub MaySay : ℕ → Standing → Standing → Type 0
MaySay turn old new = SaysNothing old new ⊎ SaysLine (said_text old turn) old new

-- the line that stands is blanked, as far as the sink takes it; where none does, nothing is written
pub record Ends (old new : Standing) : Type 0 where
  pub now : new.now ≡ old.now
  pub blanks : (new.held ≡ old.held) ⊎ ((old.stands ≡ true) × WroteFront old.held new.held BLANK.now)

-- where a line is due then, or none is, nothing is said before
abbrev pub WaitsFor : Option ℕ → Standing → Standing → Type 0
WaitsFor None old new = (new.held ≡ old.held) × (new.stands ≡ old.stands) × (new.due ≡ None)
WaitsFor (Some at) old new = (at ≤ new.now)
    ⊎ ((new.held ≡ old.held) × (new.stands ≡ old.stands) × ((new.due ≡ Some at) ⊎ (new.due ≡ None)))

-- nothing is said before a line is due
abbrev pub Waits : Standing → Standing → Type 0
Waits old new = (old.now ≤ new.now) × WaitsFor old.due old new

-- nothing was said, or it was said to a terminal, and no sooner than two seconds later
abbrev pub IsQuiet : Standing → Standing → Type 0
IsQuiet old new = (new.held ≡ old.held) ⊎ ((old.is_terminal ≡ true) × (old.now + 2000 ≤ new.now))
