use Rattle.std.proofs.Common.{string_bytes}
use Rattle.dr_entry.proofs.ListFacts.{pushed_thrice}
use Rattle.dr_summary.specs.Objects.{age_entries, age_members, line_before}
use Rattle.dr_summary.proofs.objects.push_age_front.Goals as goal

pub returns : goal.returns
returns c = pushed_thrice c.push_age_members.result (string_bytes c.args.out.now) (string_bytes c.begin_line.new.out)
    (string_bytes c.push_age_entries.new.out) (string_bytes c.push_age_members.new.out) (line_before c.args.nth)
    (age_entries c.args.age.now c.args.history.now) (age_members c.args.age.now) c.in_ok-begin_line.ensures
    c.in_ok-push_age_entries.ensures c.push_age_members.ensures
