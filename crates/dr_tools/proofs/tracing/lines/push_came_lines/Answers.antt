use Rattle.std.proofs.Common.{◌+◌, string_bytes, arith}
use Rattle.dr_entry.proofs.ListFacts.{numbered_texts_more}
use Rattle.dr_tools.specs.Following.{came_line}
use Rattle.dr_tools.proofs.tracing.lines.push_came_lines.Goals as goal

pub loop-index-preserved : goal.loop-index-preserved
loop-index-preserved c = numbered_texts_more (λ t. came_line c.args.me
    (c.args.first + t.0) t.1) c.args.entries.now c.loop-index.index c.index-entries-index.result
    (string_bytes c.args.out.now) (string_bytes c.loop-index.out) (string_bytes c.push_came_line.new.out)
    (omega arith) c.index-entries-index.is c.loop-index.invariant c.in_ok-push_came_line.ensures
