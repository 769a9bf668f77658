use Rattle.dr_tools.proofs.FolderAnswers.{folder_if}
use Rattle.dr_tools.proofs.folder.top.answer_to_script.Goals as goal

pub returns : goal.returns
returns g c = folder_if c.folder_report.result c.args.script.now c.in_ok-files.files.items c.in_ok-check.check
    c.in_ok-files.ensures c.in_ok-check.ensures c.folder_report.ensures.told c.folder_report.ensures.due
