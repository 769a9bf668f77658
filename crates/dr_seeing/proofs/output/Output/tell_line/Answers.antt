use Rattle.std.proofs.Common.{◌∙◌, ap, is_some, not, sym}
use Rattle.dr_seeing.{specs.{Lines.line_of, Output.Written}, proofs.Outputs.tells_stuck}
use Rattle.dr_seeing.proofs.output.Output.tell_line.Goals as goal

pub returns-else-is_none : goal.returns-else-is_none
returns-else-is_none g c = tells_stuck (line_of c.args.member.now c.args.table.now) c.args.self.now
    (sym (ap (λ (w : Written). is_some w.trouble) c.self.view_is) ∙ c.is_none.ensures ∙ ap not c.if-is_none.false)
