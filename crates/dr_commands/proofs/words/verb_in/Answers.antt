use Rattle.std.proofs.Common.{◌∙◌}
use Rattle.dr_commands.proofs.Verbs.{verb_found}
use Rattle.dr_commands.proofs.words.verb_in.Goals as goal

pub returns : goal.returns
returns c = c.verb_beside.ensures ∙ verb_found c.args.table.now c.args.word.now
