use Rattle.dr_rows.proofs.Vectors.{seen_read}
use Rattle.dr_rows.proofs.rows.Rows.seen.Goals as goal

pub returns : goal.returns
returns c = seen_read c.self.inside c.args.self.now c.args.row c.args.column c.cell.result _
    c.self.view_is c.self.invariant c.requires.row c.requires.column c.cell.ensures.place c.index.ensures
