use Rattle.std.proofs.Common.{◌++◌, List, ℕ, inr, subst}
use Rattle.dr_intake.specs.Status.{WroteText}
use Rattle.dr_text.specs.Report.{last_text}
use Rattle.dr_commands.proofs.top.tell_text.Goals as goal

pub returns-clause-wrote : goal.returns-clause-wrote
returns-clause-wrote g c =
    let wrote = WroteText (g.K.Sink.held c.args.sink.now) (g.K.Sink.held c.write_both.new.sink)
    (g.K.Sink.faults c.args.sink.now) (g.K.Sink.faults c.write_both.new.sink) c.write_both.result in
    inr (subst (λ (due : ℕ). wrote due (c.args.text.now ++ last_text c.args.last.now)) c.in-Ok.ensures.due
    (subst (λ (line : List ℕ). wrote c.in-Ok.line.status (c.args.text.now ++ line)) c.in-Ok.ensures.text
    c.write_both.ensures.wrote))
