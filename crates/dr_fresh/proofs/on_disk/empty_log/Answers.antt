use Rattle.std.proofs.Common.{◌≡◌, ◌≢◌, rules}
use Rattle.dr_log_bytes.specs.Content.{empty_of}
use Rattle.dr_log.proofs.Standing.{damaged_used, record_used}
use Rattle.dr_fresh.proofs.Fresh.{empty_log, without_record}
use Rattle.dr_fresh.proofs.on_disk.empty_log.Goals.{in-OutOfMemory, in-DiskFault, in-Damaged}
use Rattle.dr_fresh.proofs.on_disk.empty_log.Goals as goal

pub returns-after-fault-clause-used : goal.returns-after-fault-clause-used
returns-after-fault-clause-used g c = λ used. elim c.match-fault.branch [
  | in-OutOfMemory w ↦ absurd (cc (used, w.result-is))
  | in-DiskFault w ↦ absurd (cc (used, w.result-is))
  | in-Damaged w ↦ damaged_used (g.D.Disk.told c.args.disk) w.in-Damaged.at
      (c.in-Err.ensures.damaged w.in-Damaged.at w.in-Damaged.is)
]

pub returns-then-is_empty-clause-empty : goal.returns-then-is_empty-clause-empty
returns-then-is_empty-clause-empty g c =
    let log = c.in-Ok.log in
    let same : log.content ≡ empty_of log.content.newer = search rules in
    empty_log c.args.limit log same c.in-Ok.ensures.limit c.in-Ok.ensures.whole

pub returns-then-is_empty-clause-unused : goal.returns-then-is_empty-clause-unused
returns-then-is_empty-clause-unused g c =
    let log = c.in-Ok.log in
    let same : log.content ≡ empty_of log.content.newer = search rules in
    without_record (g.D.Disk.told c.args.disk) log.content same c.in-Ok.ensures.records

pub returns-else-is_empty-clause-used : goal.returns-else-is_empty-clause-used
returns-else-is_empty-clause-used g c = λ why.
    let log = c.in-Ok.log in
    let other : log.content ≢ empty_of log.content.newer = search rules in
    record_used (g.D.Disk.told c.args.disk) log.content other c.in-Ok.ensures.records
