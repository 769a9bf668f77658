use Rattle.dr_entry.specs.declared.record.Record.TheVariants as records
use Rattle.dr_log.proofs.Ordinary.{ordinary_keeps}
use Rattle.dr_log.proofs.log.Log.append_entry.Goals as goal

pub returns-clause-lasting : goal.returns-clause-lasting
returns-clause-lasting g c = λ first. c.append_spelled.ensures.lasting first
    (ordinary_keeps (records.Entry c.copy.result) first c.args.self.now.content tt)
