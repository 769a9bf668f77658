-- What is said of a folder, where it was looked at.
use Rattle.std.proofs.Common.{◌≡◌, List, Result, Ok, Err, IfOk, length, string_bytes}
use Rattle.dr_folder.specs.{Checked.IsFolderCheck, Told.{TellsNext, status_due}}
use Rattle.dr_folder.specs.declared.{checking.FolderCheck.FolderCheck, file.LogFile.LogFile}
use Rattle.dr_intake.specs.declared.answer.Answer.{Answer}
use Rattle.dr_script.specs.declared.script.Script.{Script}
use Rattle.dr_tools.specs.Folder.{IsFolderAnswer}

pub folder_if : {E : Type 0} (answer : Result Answer E) (script : Script) (files : List LogFile) (check : FolderCheck)
    → length files ≡ script.members → IsFolderCheck script files check → IfOk answer (λ a. TellsNext check.next
    (string_bytes a.text)) → IfOk answer (λ a. a.status ≡ status_due check.surveys.items check.next)
    → IfOk answer (λ a. IsFolderAnswer script (string_bytes a.text, a.status))
folder_if (Ok a) script files check all is told due = record {
  files = files;
  all = all;
  check = check;
  is = is;
  told = told;
  due = due;
}
folder_if (Err e) script files check all is told due = tt
