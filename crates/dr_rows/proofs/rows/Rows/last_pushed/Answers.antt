use Rattle.dr_rows.proofs.Vectors.{last_pushed_read}
use Rattle.dr_rows.proofs.rows.Rows.last_pushed.Goals as goal

pub returns : goal.returns
returns c = last_pushed_read c.self.inside c.args.self.now c.args.to c.args.column c.place.result _
    c.self.view_is c.self.invariant c.requires.to c.requires.column c.place.ensures.place c.index.ensures
