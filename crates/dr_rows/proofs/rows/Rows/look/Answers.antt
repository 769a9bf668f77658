use Rattle.std.proofs.Common.{rules, sym, subst}
use Rattle.dr_rows.{specs.Growth.RowsGrew, proofs.Vectors.{looked_written, IsInside-looked}}
use Rattle.dr_rows.proofs.rows.Rows.look.Goals as goal

pub invariant_of-self : goal.invariant_of-self
invariant_of-self c = IsInside-looked c.self.inside c.args.self.now c.args.row c.args.column
    c.cell-cell.result c.args.word c.self.view_is c.self.invariant c.requires.row c.requires.column c.requires.other
    c.cell-cell.ensures.place

pub returns-clause-after : goal.returns-clause-after
returns-clause-after c = looked_written c.self.inside c.args.self.now c.args.row c.args.column
    c.cell-cell.result c.args.word
    c.self.view_is c.self.invariant c.requires.row c.requires.column c.cell-cell.ensures.place

pub returns-clause-form : goal.returns-clause-form
returns-clause-form c = (invariant_of-self c).form

pub returns-clause-grown : goal.returns-clause-grown
returns-clause-grown c = subst (RowsGrew c.args.self.now) (sym (returns-clause-after c)) (search rules)
