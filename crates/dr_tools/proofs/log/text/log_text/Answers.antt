use Rattle.std.proofs.Common.{◌<◌, length, string_bytes, rules}
use Rattle.dr_tools.proofs.LogLines.{broken_if, closed_if, misplaced_if}
use Rattle.dr_log_bytes.specs.Content.{MayFollow}
use Rattle.dr_tools.proofs.log.text.log_text.Goals as goal

pub returns-in-Closed : goal.returns-in-Closed
returns-in-Closed c =
    let long : 9 < length c.args.bytes.now = search rules in
    closed_if c.closed.result c.args.bytes.now (string_bytes c.loop-record.text) c.loop-record.at
    c.loop-record.number c.loop-record.newer long c.loop-record.invariant c.in-Closed.ensures c.closed.ensures.text
    c.closed.ensures.status

pub returns-in-Broken : goal.returns-in-Broken
returns-in-Broken c =
    let long : 9 < length c.args.bytes.now = search rules in
    broken_if c.damaged-in-Broken.result c.args.bytes.now (string_bytes c.loop-record.text) c.loop-record.at
    c.loop-record.number c.loop-record.newer long c.loop-record.invariant c.in-Broken.ensures c.damaged-in-Broken.ensures.text
    c.damaged-in-Broken.ensures.status

pub returns-then-not-may_follow : goal.returns-then-not-may_follow
returns-then-not-may_follow c =
    let long : 9 < length c.args.bytes.now = search rules in
    let misplaced : ¬ MayFollow c.loop-record.newer c.loop-record.number c.in-Record.record = search rules in
    misplaced_if c.damaged-then-not-may_follow.result c.args.bytes.now (string_bytes c.loop-record.text)
    c.loop-record.at c.in-Record.len c.loop-record.number c.loop-record.newer c.in-Record.record long
    c.loop-record.invariant c.in-Record.ensures misplaced c.damaged-then-not-may_follow.ensures.text
    c.damaged-then-not-may_follow.ensures.status
