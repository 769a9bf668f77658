use Rattle.std.proofs.Common.{◌∙◌, string_bytes, sym}
use Rattle.dr_shards.proofs.Counting.{passed_over, taken}
use Rattle.dr_commands.proofs.shards.lines.push_members.Goals.{else-is_of_shard, then-is_of_shard+in_ok-push_number}
use Rattle.dr_commands.proofs.shards.lines.push_members.Goals as goal

pub loop-member-preserved : goal.loop-member-preserved
loop-member-preserved c = elim c.if-is_of_shard.branch [
  | then-is_of_shard+in_ok-push_number w ↦ rw (w.first-is, w.out-is)
      (taken c.args.shards c.args.k c.loop-member.member c.loop-member.first (string_bytes c.args.out.now)
      (string_bytes c.loop-member.out) (string_bytes w.push_number.new.out)
      (sym c.is_of_shard.ensures ∙ w.if-is_of_shard.true) c.loop-member.invariant w.in_ok-push_number.ensures)
  | else-is_of_shard w ↦ rw (w.first-is, w.out-is)
      (passed_over c.args.shards c.args.k c.loop-member.member c.loop-member.first (string_bytes c.args.out.now)
      (string_bytes c.loop-member.out) (sym c.is_of_shard.ensures ∙ w.if-is_of_shard.false) c.loop-member.invariant)
]
