use Rattle.std.proofs.Common.{◌∙◌, rules}
use Rattle.dr_opening.{specs.Lists.contents_of, proofs.Lists.chosen_told}
use Rattle.dr_folder.proofs.Refusing.{fault_told}
use Rattle.dr_folder.proofs.foretelling.choose_of.Goals as goal

pub returns-in-Ok-choose-clause-start : goal.returns-in-Ok-choose-clause-start
returns-in-Ok-choose-clause-start g c =
    chosen_told c.args.script.now c.args.logs.now c.as_slice.result.now c.in-Ok-choose.start c.requires.ranges
    c.requires.all (c.as_slice.ensures.value ∙ c.in-Ok.ensures) c.in-Ok-choose.ensures.start

pub returns-clause-refused : goal.returns-clause-refused
returns-clause-refused g c last is =
    fault_told c.args.script.now (contents_of c.args.logs.now) c.as_slice.result.now c.in-Err.fault c.last_of.result
    last (search rules) c.last_of.ensures c.in-Err.ensures.refused (cc is)
