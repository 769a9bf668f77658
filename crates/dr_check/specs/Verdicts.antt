-- What the text of a report comes to.
use Rattle.std.specs.Prelude.{List, ℕ}
use Rattle.dr_check.specs.{Flaws.{IsFirstFlaw, IsRight}, Grammar.{IsNoReportAt, IsReport}}
use Rattle.dr_check.specs.declared.verdict.Verdict.{Verdict, TheVariants.{NoReport, Right, Wrong}}
use Rattle.dr_script.specs.declared.script.Script.{Script}
use Rattle.dr_text.specs.declared.last.Last.{Last}
use Rattle.dr_text.specs.declared.last.Last.TheVariants as lasts

-- what a text is beside a script: a report that keeps every clause, one with its first flaw, or none, first at a line
abbrev pub IsVerdict : Script → List ℕ → Verdict → Type 0
IsVerdict script text (Right r) = IsReport script.members text r × IsRight script r
IsVerdict script text (Wrong r flaw) = IsReport script.members text r × IsFirstFlaw script r flaw
IsVerdict script text (NoReport line) = IsNoReportAt script.members text line

-- what the last line says of it
abbrev pub verdict_line : Verdict → Last
verdict_line (Right r) = lasts.Right
verdict_line (Wrong r flaw) = lasts.Wrong flaw.clause flaw.line
verdict_line (NoReport line) = lasts.NoReport line
