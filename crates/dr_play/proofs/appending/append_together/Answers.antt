use Rattle.std.specs.Prelude.{Err}
use Rattle.std.proofs.Common.{◌≡◌, ap, ◌+◌, ◌-◌, ◌++◌, [], ◌∷◌, length, take, arith}
use Rattle.dr_served.{specs.Served.entries_due, proofs.Grouped.{did_append_all, did_break_all, parts_due}}
use Rattle.dr_play.proofs.appending.append_together.Goals as goal
use Rattle.dr_play.proofs.Persisting.{all_logged, are_persisting, goes_on, persisted_more, stored_more, to_go_on}
use Rattle.dr_play.proofs.Sound.{entries_valid}

pub returns-in-Ok-clause-appended : goal.returns-in-Ok-clause-appended
returns-in-Ok-clause-appended g c = λ is.
    let due = c.entries_due-due.result.now in
    let did = c.in-Ok.ensures in
    did_append_all g.D.Disk.told g.D.Disk.faults c.args.log.now c.append_entries.new.self c.args.member.now _
    (parts_due c.args.member.now due (length due - 1) c.index-due-last.result c.entries_due-due.ensures
    (omega (arith, c.if-due-lt2.false)) c.index-due-last.is)
    did.ok did.limit did.any_moment did.lasting did.durable did.calm

pub returns-in-Err-DiskFault-clause-failed : goal.returns-in-Err-DiskFault-clause-failed
returns-in-Err-DiskFault-clause-failed g c = λ is.
    let due = c.entries_due-due.result.now in
    let did = c.in-Err-DiskFault.ensures in
    let fault = ap Err c.in-Err-DiskFault.field-0-is in
    did_break_all g.D.Disk.told g.D.Disk.faults c.args.log.now c.append_entries.new.self c.args.member.now
    (take (length due - 1) due) c.index-due-last.result
    (parts_due c.args.member.now due (length due - 1) c.index-due-last.result c.entries_due-due.ensures
    (omega (arith, c.if-due-lt2.false)) c.index-due-last.is)
    (did.fault fault) did.any_moment did.lasting (did.cause fault) did.faults

pub returns-in-Err-LogFull-clause-apart : goal.returns-in-Err-LogFull-clause-apart
returns-in-Err-LogFull-clause-apart g c = λ is.
    c.in-Err-LogFull.ensures.full c.in-Err-LogFull.field-0-0 (ap Err c.in-Err-LogFull.field-0-is)
