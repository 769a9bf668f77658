use Rattle.std.proofs.Common.{codes, string_bytes}
use Rattle.dr_entry.proofs.ListFacts.{three_pushed}
use Rattle.dr_json.specs.Json.{json_text}
use Rattle.dr_summary.specs.Objects.{message_head}
use Rattle.dr_summary.proofs.objects.push_msg.Goals as goal

pub returns : goal.returns
returns c = three_pushed c.push_str.result (string_bytes c.args.out.now) (string_bytes c.push_head.new.out)
    (string_bytes c.push_text.new.out) (string_bytes c.push_str.new.self)
    (message_head c.args.number c.args.sender c.args.index) (json_text c.args.bytes.now) (codes "}")
    c.in_ok-push_head.ensures c.in_ok-push_text.ensures c.push_str.ensures.bytes
