-- Members that are led over one list of words.
use Rattle.std.specs.Prelude.{ℕ, List, Option}
use Rattle.dr_entry.specs.declared.entry.Entry.{Entry}
use Rattle.dr_program.specs.{Program.Program, Running.Running}

-- the letters for late members, by number
abbrev pub LettersByNumber : Type 0
LettersByNumber = List (Option (List Entry))

-- these members, over these words and letters
abbrev pub over : List (Option Running) → List ℕ → LettersByNumber → Program
over members words letters = record { members = members; table = words; letters = letters }
