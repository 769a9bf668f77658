use Rattle.std.proofs.{Common.{◌∙◌, sym}, lemmas.Option.same_Some}
use Rattle.dr_program.specs.declared.deed.Deed.TheVariants.{Append}
use Rattle.dr_door.proofs.Kept.{due_valid}
use Rattle.dr_door.proofs.door.Door.due.Goals as goal

pub returns-clause-valid : goal.returns-clause-valid
returns-clause-valid c = λ what is. due_valid c.self.inside.member c.self.inside.words.items what c.self.invariant.form
    c.self.invariant.kept (sym c.next.ensures.deed ∙ same_Some c.next.result (Append what) is)
