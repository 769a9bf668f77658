-- What a call comes to.
use Rattle.std.specs.Prelude.{◌≡◌, ℕ, List, [], ◌∷◌, length, codes, Option, None, String, string_bytes}
use Rattle.std.specs.declared.alloc.Global.{Global}
use Rattle.dr_folder.specs.{Checked.IsFolderCheck, Told.{TellsNext, status_due}}
use Rattle.dr_folder.specs.declared.{checking.FolderCheck.FolderCheck, file.LogFile.LogFile}
use Rattle.dr_intake.specs.Answer.{IsCallAnswer, Said, SaysOf, ToldBy}
use Rattle.dr_literals.specs.Options.{value_word}
use Rattle.dr_script.specs.{Reading.{Reading, reading_of}, declared.script.Script.Script}

-- the folder that the words name: it is the only one, is not empty and begins with no dash
abbrev pub folder_named : List (String Global) → Option (List ℕ)
folder_named (word ∷ []) = value_word (string_bytes word)
folder_named words = None

-- the text tells what the next run of the script over some files, one for each member, starts with or is refused
-- by, and the status is the one for that
pub record IsFolderAnswer (script : Script) (said : Said) : Type 0 where
  pub files : List LogFile
  pub all : length files ≡ script.members
  pub check : FolderCheck
  pub is : IsFolderCheck script files check
  pub told : TellsNext check.next said.0
  pub due : said.1 ≡ status_due check.surveys.items check.next

-- what is said of what was read, and the status: of what is no script, the last line by which it is refused
abbrev pub IsSaidOf : Reading → Said → Type 0
IsSaidOf = SaysOf IsFolderAnswer

-- how it is called
abbrev pub folder_usage : List ℕ
folder_usage = codes "usage: derecho_tools folder FOLDER < SCRIPT\n"

-- what a call has to say, and the status that is due, by its words and by what its source had left and then has
abbrev pub IsCheckAnswer : List (String Global) → Option (List ℕ) → Option (List ℕ) → ℕ → ℕ → Said → Type 0
IsCheckAnswer words =
    IsCallAnswer folder_usage (λ folder bytes said. IsSaidOf (reading_of bytes) said) (folder_named words)

-- memory was wanting and nothing was written, or an answer was
abbrev pub CheckTold : List (String Global) → Option (List ℕ) → Option (List ℕ) → ℕ → ℕ → Option (List ℕ)
    → Option (List ℕ) → ℕ → ℕ → ℕ → Type 0
CheckTold words old new failed fails = ToldBy (IsCheckAnswer words old new failed fails)
