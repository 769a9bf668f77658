use Rattle.dr_form.proofs.Keeps.{filling}
use Rattle.dr_replica.proofs.replica.Replica.fill.Goals as goal

pub put-requires-clause-may : goal.put-requires-clause-may
put-requires-clause-may c = λ form. filling c.args.self.now form c.requires.may
