use Rattle.dr_rows.proofs.Vectors.{own_row}
use Rattle.dr_rows.proofs.rows.Rows.own_words.Goals as goal

pub returns : goal.returns
returns c = own_row c.self.inside c.args.self.now _ c.self.view_is c.self.invariant c.as_slice.ensures.value
