use Rattle.std.proofs.Common.{codes, string_bytes}
use Rattle.dr_entry.proofs.ListFacts.{pushed_thrice}
use Rattle.dr_json.specs.Json.{size_json}
use Rattle.dr_json.proofs.script.push_run_sizes.Goals as goal

pub returns : goal.returns
returns c =
    let script = c.args.script.now in
    pushed_thrice c.push_small.result (string_bytes c.args.out.now) (string_bytes c.push_size.new.out)
    (string_bytes c.push_size-2.new.out) (string_bytes c.push_small.new.out)
    (size_json (codes "turns") script.turns) (size_json (codes "patience") script.patience)
    (size_json (codes "ages") script.ages) c.in_ok-push_size.ensures c.in_ok-push_size-2.ensures c.push_small.ensures
