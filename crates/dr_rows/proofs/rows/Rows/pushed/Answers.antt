use Rattle.dr_rows.proofs.Vectors.{pushed_written, IsInside-pushed}
use Rattle.dr_rows.proofs.rows.Rows.pushed.Goals as goal

pub invariant_of-self : goal.invariant_of-self
invariant_of-self c = IsInside-pushed c.self.inside c.args.self.now c.args.to c.args.column
    c.place-place.result c.own-word.result
    c.self.view_is c.self.invariant c.requires.to c.requires.column c.place-place.ensures.place c.own-word.ensures

pub returns-clause-after : goal.returns-clause-after
returns-clause-after c = pushed_written c.self.inside c.args.self.now c.args.to c.args.column
    c.place-place.result c.own-word.result
    c.self.view_is c.self.invariant c.requires.to c.requires.column c.place-place.ensures.place c.own-word.ensures

pub returns-clause-form : goal.returns-clause-form
returns-clause-form c = (invariant_of-self c).form
