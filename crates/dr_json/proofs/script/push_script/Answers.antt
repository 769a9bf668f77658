use Rattle.std.proofs.Common.{string_bytes}
use Rattle.dr_entry.proofs.ListFacts.{pushed_thrice}
use Rattle.dr_json.specs.Json.{schedule_line, script_head, script_lists}
use Rattle.dr_json.proofs.script.push_script.Goals as goal

pub returns : goal.returns
returns c =
    let script = c.args.script.now in
    pushed_thrice c.push_schedule_line.result (string_bytes c.args.out.now) (string_bytes c.push_script_head.new.out)
    (string_bytes c.push_script_lists.new.out) (string_bytes c.push_schedule_line.new.out) (script_head script)
    (script_lists script) (schedule_line script.schedule) c.in_ok-push_script_head.ensures
    c.in_ok-push_script_lists.ensures c.push_schedule_line.ensures
