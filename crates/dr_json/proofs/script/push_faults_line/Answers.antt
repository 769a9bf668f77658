use Rattle.std.proofs.Common.{codes, string_bytes}
use Rattle.dr_entry.proofs.ListFacts.{if_pushed, pushed_thrice}
use Rattle.dr_json.specs.Json.{faults_json}
use Rattle.dr_json.proofs.script.push_faults_line.Goals as goal

pub returns : goal.returns
returns c =
    let begun = string_bytes c.push_faults.new.out in
    let ended = string_bytes c.push_str-2.new.self in
    pushed_thrice c.push_str-2.result (string_bytes c.args.out.now) (string_bytes c.push_str.new.self) begun ended
    (codes "  \"faults\": [") (faults_json c.args.faults.now) (codes "],\n") c.in_ok-push_str.ensures.bytes
    c.in_ok-push_faults.ensures (if_pushed c.push_str-2.result begun ended (codes "],\n") c.push_str-2.ensures.bytes)
