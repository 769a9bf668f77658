use Rattle.std.proofs.Common.{string_bytes, arith}
use Rattle.dr_entry.proofs.ListFacts.{numbered_texts_more}
use Rattle.dr_summary.specs.Objects.{member_object}
use Rattle.dr_summary.proofs.objects.push_members.Goals as goal

pub loop-number-preserved : goal.loop-number-preserved
loop-number-preserved c = numbered_texts_more (λ t. member_object t.0 t.1) c.args.members.now c.loop-number.number
    c.index-members-number.result (string_bytes c.args.out.now) (string_bytes c.loop-number.out)
    (string_bytes c.push_member.new.out) (omega arith) c.index-members-number.is c.loop-number.invariant
    c.in_ok-push_member.ensures
