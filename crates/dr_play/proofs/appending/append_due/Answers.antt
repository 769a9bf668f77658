use Rattle.std.proofs.Common.{sym}
use Rattle.dr_entry.specs.declared.record.Record.TheVariants as records
use Rattle.dr_served.proofs.{Appends.{appended_due, broken_due, has_place, has_spares, over_due}, Serving.unfailed}
use Rattle.dr_program.specs.Running.{next_deed}
use Rattle.dr_member.proofs.Deeds.{an_entry}
use Rattle.dr_play.proofs.Deeds.{at_append}
use Rattle.dr_play.proofs.appending.append_due.Goals as goal

-- ---- an entry

pub append_entry-requires-clause-valid : goal.append_entry-requires-clause-valid
append_entry-requires-clause-valid g c = λ κs within.
    let entry = c.in-Some.entry.now in
    c.requires.appends (records.Entry entry) (an_entry (next_deed c.args.member.now) entry c.in-Some.ensures)

pub append_entry-requires-clause-spare : goal.append_entry-requires-clause-spare
append_entry-requires-clause-spare g c = λ κs within.
    let r = c.args.member.now in
    let due = records.Entry c.in-Some.entry.now in
    let at = at_append r due c.requires.form (an_entry (next_deed r) c.in-Some.entry.now c.in-Some.ensures) in
    (has_spares c.args.log.now r due at.0 at.1 c.requires.ready).0

pub append_entry-requires-clause-whole : goal.append_entry-requires-clause-whole
append_entry-requires-clause-whole g c = λ κs within.
    let r = c.args.member.now in
    let due = records.Entry c.in-Some.entry.now in
    let at = at_append r due c.requires.form (an_entry (next_deed r) c.in-Some.entry.now c.in-Some.ensures) in
    c.requires.ready.whole (unfailed r at.0.due)

pub returns-in-Some-clause-ok : goal.returns-in-Some-clause-ok
returns-in-Some-clause-ok g c =
    let r = c.args.member.now in
    let due = records.Entry c.in-Some.entry.now in
    let at = at_append r due c.requires.form (an_entry (next_deed r) c.in-Some.entry.now c.in-Some.ensures) in
    let did = c.append_entry.ensures in
    appended_due _ g.D.Disk.told g.D.Disk.faults c.args.log.now c.append_entry.new.self r due c.append_entry.result
    at.1 did.ok did.limit did.any_moment (λ first all. did.lasting first) did.durable did.calm

pub returns-in-Some-clause-fault : goal.returns-in-Some-clause-fault
returns-in-Some-clause-fault g c = λ is.
    let r = c.args.member.now in
    let due = records.Entry c.in-Some.entry.now in
    let at = at_append r due c.requires.form (an_entry (next_deed r) c.in-Some.entry.now c.in-Some.ensures) in
    let did = c.append_entry.ensures in
    broken_due g.D.Disk.told g.D.Disk.faults c.args.log.now c.append_entry.new.self r due at.1 (did.fault is)
    did.any_moment (λ first all. did.lasting first) (did.cause is) did.faults

pub returns-in-Some-clause-full : goal.returns-in-Some-clause-full
returns-in-Some-clause-full g c = λ len is.
    let r = c.args.member.now in
    let due = records.Entry c.in-Some.entry.now in
    let at = at_append r due c.requires.form (an_entry (next_deed r) c.in-Some.entry.now c.in-Some.ensures) in
    let did = c.append_entry.ensures in
    (did.full len is, over_due _ c.args.log.now r due len c.append_entry.result at.1 did.limit is)

-- ---- a vote

pub append-requires-clause-spare_entry : goal.append-requires-clause-spare_entry
append-requires-clause-spare_entry g c = λ κs within.
    let r = c.args.member.now in
    let at = at_append r c.in-Append.record c.requires.form (sym c.in-Append.ensures.deed) in
    (has_spares c.args.log.now r c.in-Append.record at.0 at.1 c.requires.ready).0

pub append-requires-clause-spare_vote : goal.append-requires-clause-spare_vote
append-requires-clause-spare_vote g c = λ κs within.
    let r = c.args.member.now in
    let at = at_append r c.in-Append.record c.requires.form (sym c.in-Append.ensures.deed) in
    (has_spares c.args.log.now r c.in-Append.record at.0 at.1 c.requires.ready).1

pub append-requires-clause-spare_other : goal.append-requires-clause-spare_other
append-requires-clause-spare_other g c = λ κs within.
    let r = c.args.member.now in
    let at = at_append r c.in-Append.record c.requires.form (sym c.in-Append.ensures.deed) in
    (has_place c.args.log.now r c.in-Append.record at.1).0

pub append-requires-clause-placed : goal.append-requires-clause-placed
append-requires-clause-placed g c = λ κs within.
    let r = c.args.member.now in
    let at = at_append r c.in-Append.record c.requires.form (sym c.in-Append.ensures.deed) in
    (has_place c.args.log.now r c.in-Append.record at.1).1

pub append-requires-clause-whole : goal.append-requires-clause-whole
append-requires-clause-whole g c = λ κs within.
    let r = c.args.member.now in
    let at = at_append r c.in-Append.record c.requires.form (sym c.in-Append.ensures.deed) in
    c.requires.ready.whole (unfailed r at.0.due)

pub returns-clause-ok : goal.returns-clause-ok
returns-clause-ok g c =
    let r = c.args.member.now in
    let at = at_append r c.in-Append.record c.requires.form (sym c.in-Append.ensures.deed) in
    let did = c.append.ensures in
    appended_due _ g.D.Disk.told g.D.Disk.faults c.args.log.now c.append.new.self r c.in-Append.record
    c.append.result at.1 did.ok did.limit did.any_moment did.lasting did.durable did.calm

pub returns-clause-fault : goal.returns-clause-fault
returns-clause-fault g c = λ is.
    let r = c.args.member.now in
    let at = at_append r c.in-Append.record c.requires.form (sym c.in-Append.ensures.deed) in
    let did = c.append.ensures in
    broken_due g.D.Disk.told g.D.Disk.faults c.args.log.now c.append.new.self r c.in-Append.record at.1
    (did.fault is) did.any_moment did.lasting (did.cause is) did.faults

pub returns-clause-full : goal.returns-clause-full
returns-clause-full g c = λ len is.
    let r = c.args.member.now in
    let at = at_append r c.in-Append.record c.requires.form (sym c.in-Append.ensures.deed) in (
      c.append.ensures.full len is,
      over_due _ c.args.log.now r c.in-Append.record len c.append.result at.1 c.append.ensures.limit is,
    )
