use Rattle.std.proofs.Common.{string_bytes, arith}
use Rattle.dr_entry.proofs.ListFacts.{numbered_texts_more}
use Rattle.dr_json.specs.Json.{member_json}
use Rattle.dr_json.proofs.script.push_lists.Goals as goal

pub loop-member-preserved : goal.loop-member-preserved
loop-member-preserved c = numbered_texts_more (λ t. member_json t.0 t.1) c.args.lists.now c.loop-member.member
    c.index-lists-member.result (string_bytes c.args.out.now) (string_bytes c.loop-member.out)
    (string_bytes c.push_list.new.out) (omega arith) c.index-lists-member.is c.loop-member.invariant c.in_ok-push_list.ensures
