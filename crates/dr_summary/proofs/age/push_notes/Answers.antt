use Rattle.std.proofs.Common.{string_bytes}
use Rattle.dr_summary.proofs.Texts.{notes_pushed}
use Rattle.dr_summary.proofs.age.push_notes.Goals as goal

pub returns : goal.returns
returns c = notes_pushed c.push_ends.result c.args.script.now c.args.nth c.args.age.now c.args.history.now _ _
    (string_bytes c.args.out.now) (string_bytes c.push_undelivered.new.out) (string_bytes c.push_faults.new.out)
    (string_bytes c.push_ends.new.out) c.requires c.as_slice.ensures c.as_slice-members.ensures
    c.in_ok-push_undelivered.ensures c.in_ok-push_faults.ensures c.push_ends.ensures
