-- What is found of a folder of logs.
use Rattle.std.specs.Prelude.{List, Result, Ok, Err}
use Rattle.dr_restart.specs.declared.start.Start.{Start}
use Rattle.dr_script.specs.declared.script.Script.{Script}
use Rattle.dr_text.specs.declared.last.Last.{Last}
use Rattle.dr_folder.specs.{Advice.IsAdvice, Foretold.{IsBarred, IsForetold}, Surveys.AreSurveys}
use Rattle.dr_folder.specs.declared.{checking.FolderCheck.FolderCheck, file.LogFile.LogFile}

-- the next run over these files starts so, or is refused by this last line
abbrev pub IsNextRun : Script → List LogFile → Result Start Last → Type 0
IsNextRun script files (Ok start) = IsForetold script files start
IsNextRun script files (Err last) = IsBarred script files last

-- what each of a script's files has, what the next run over them does, and which of them may be moved away
pub record IsFolderCheck (script : Script) (files : List LogFile) (check : FolderCheck) : Type 0 where
  pub surveyed : AreSurveys files check.surveys.items
  pub next : IsNextRun script files check.next
  pub advised : IsAdvice script files check.surveys.items check.advice
