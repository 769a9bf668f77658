use Rattle.std.proofs.Common.{codes, string_bytes}
use Rattle.dr_entry.proofs.ListFacts.{pushed_thrice}
use Rattle.dr_text.specs.Report.{mask_text}
use Rattle.dr_summary.specs.Objects.{view_tail}
use Rattle.dr_summary.proofs.objects.push_view.Goals as goal

pub returns : goal.returns
returns c = pushed_thrice c.push_view_tail.result (string_bytes c.args.out.now) (string_bytes c.push_str.new.self)
    (string_bytes c.push_mask.new.out) (string_bytes c.push_view_tail.new.out) (codes "   {\"members\": [")
    (mask_text c.args.members) (view_tail c.args.number c.args.view) c.in_ok-push_str.ensures.bytes
    c.in_ok-push_mask.ensures c.push_view_tail.ensures
