use Rattle.std.proofs.Common.{codes, string_bytes}
use Rattle.dr_entry.proofs.ListFacts.{three_pushed}
use Rattle.dr_summary.specs.Notes.{named_text}
use Rattle.dr_summary.proofs.undelivered.push_names_line.Goals as goal

pub returns : goal.returns
returns c = three_pushed c.push_str-2.result (string_bytes c.args.out.now) (string_bytes c.push_str.new.self)
    (string_bytes c.push_named.new.out) (string_bytes c.push_str-2.new.self) (codes "delivered by nobody:")
    (named_text c.args.names.now) (codes "\n") c.in_ok-push_str.ensures.bytes c.in_ok-push_named.ensures
    c.push_str-2.ensures.bytes
