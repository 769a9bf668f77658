use Rattle.std.proofs.Common.{ap, string_bytes, ◌++◌, ◌∙◌}
use Rattle.dr_summary.{specs.Table.marks_text, proofs.Stretch.marks_made}
use Rattle.dr_summary.proofs.marks.marks_of.Goals as goal

pub returns-clause-marks : goal.returns-clause-marks
returns-clause-marks c = marks_made c.args.members.now c.args.number c.last_alike.result
    (string_bytes c.push_marks.new.out) (c.in_ok-push_marks.ensures
    ∙ ap (λ t. t ++ marks_text c.args.members.now c.args.number) c.new-text.ensures.bytes) c.last_alike.ensures.same
