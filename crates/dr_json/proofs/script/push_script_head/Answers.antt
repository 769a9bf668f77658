use Rattle.std.proofs.Common.{codes, string_bytes}
use Rattle.dr_entry.proofs.ListFacts.{pushed_thrice}
use Rattle.dr_json.specs.Json.{group_sizes, run_sizes}
use Rattle.dr_json.proofs.script.push_script_head.Goals as goal

pub returns : goal.returns
returns c = pushed_thrice c.push_run_sizes.result (string_bytes c.args.out.now) (string_bytes c.push_str.new.self)
    (string_bytes c.push_group_sizes.new.out) (string_bytes c.push_run_sizes.new.out) (codes "{\n")
    (group_sizes c.args.script.now) (run_sizes c.args.script.now) c.in_ok-push_str.ensures.bytes
    c.in_ok-push_group_sizes.ensures c.push_run_sizes.ensures
