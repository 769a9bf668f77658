use Rattle.dr_folder.proofs.Taking.{AreFirstSurveys}
use Rattle.dr_folder.proofs.survey.surveys_of.Given as goal

abbrev pub invariant-loop-member : goal.invariant-loop-member
invariant-loop-member l = AreFirstSurveys l.member l.files l.surveys.items
