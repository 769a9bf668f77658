use Rattle.dr_rows.proofs.Vectors.{own_read}
use Rattle.dr_rows.proofs.rows.Rows.own.Goals as goal

pub returns : goal.returns
returns c = own_read c.self.inside c.args.self.now c.args.column _ c.self.view_is c.self.invariant
    c.requires c.index.ensures
