use Rattle.std.proofs.Common.{codes, string_bytes}
use Rattle.dr_entry.proofs.ListFacts.{pushed_on}
use Rattle.dr_text.specs.Report.{last_text}
use Rattle.dr_folder.proofs.report.push_refusal.Goals as goal

pub returns : goal.returns
returns c = pushed_on c.push_last.result (string_bytes c.args.out.now) (string_bytes c.push_str.new.self)
    (string_bytes c.push_last.new.out) (codes "the next run: ") (last_text c.args.last.now)
    c.in_ok-push_str.ensures.bytes c.push_last.ensures
