use Rattle.dr_tools.proofs.JudgeAnswers.{few_if}
use Rattle.dr_tools.proofs.judging.verdict.answer_to_bytes.Goals as goal

pub returns : goal.returns
returns c = few_if c.args.script.now c.args.text.now c.answer_to_text.result c.if-text-gt-LONGEST_REPORT.false
    c.answer_to_text.ensures
