use Rattle.std.proofs.Common.{codes, string_bytes}
use Rattle.dr_entry.proofs.ListFacts.{pushed_on}
use Rattle.dr_json.specs.Json.{size_json}
use Rattle.dr_json.proofs.script.push_group_sizes.Goals as goal

pub returns : goal.returns
returns c =
    let script = c.args.script.now in
    pushed_on c.push_small-2.result (string_bytes c.args.out.now) (string_bytes c.push_small.new.out)
    (string_bytes c.push_small-2.new.out) (size_json (codes "members") script.members)
    (size_json (codes "window") script.window) c.in_ok-push_small.ensures c.push_small-2.ensures
