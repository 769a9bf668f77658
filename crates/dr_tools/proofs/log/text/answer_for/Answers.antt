use Rattle.dr_tools.proofs.LogLines.{few_enough}
use Rattle.dr_tools.proofs.log.text.answer_for.Goals as goal

pub returns : goal.returns
returns c = few_enough c.log_text.result c.args.bytes.now c.if-bytes-gt-LONGEST_LOG.false c.log_text.ensures
