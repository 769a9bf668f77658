-- The acts of a replica: whether it may do each, and what each makes of it.
use Rattle.std.specs.Prelude.{◌&&◌, nat_lt, Bool, true, false}
use Rattle.dr_machine.specs.declared.event.Act.{Act}
use Rattle.dr_machine.specs.declared.event.Act.TheVariants as acts
use Rattle.dr_program.specs.Replica.{Replica, me, is_due, is_fault, is_own, is_others, may_commit, may_finish, may_receive, may_send, may_null, may_deliver, may_publish, may_report, may_mark, may_suspect, acted, beaten, received, sent, nulled, delivered, published, reported, marked, suspected, accepted, decided, finished, ended}

-- whether it may do the act, where it has no end
abbrev pub may : Replica → Act → Bool
may r acts.Beat = true
may r (acts.Receive s) = nat_lt s r.roster && may_receive r s
may r acts.Send = may_send r
may r acts.Null = may_null r
may r acts.Deliver = may_deliver r
may r acts.Publish = may_publish r
may r acts.Report = may_report r
may r acts.Mark = may_mark r
may r (acts.Suspect j) = may_suspect r j
may r acts.Finish = may_finish r r.committed
may r acts.Propose = is_own (me r) r.pending
may r acts.Accept = is_others (me r) r.pending
may r acts.Commit = may_commit r
may r (acts.Halt end) = is_due r end
may r (acts.Crash end) = is_fault end

-- whether a member whose vote waits may do it: it acts on the vote, or crashes
abbrev pub may_waiting : Act → Bool
may_waiting acts.Propose = true
may_waiting acts.Accept = true
may_waiting (acts.Crash end) = true
may_waiting a = false

-- whether a member that is none of its view may do it
abbrev pub is_outside_act : Act → Bool
is_outside_act acts.Beat = true
is_outside_act (acts.Crash end) = true
is_outside_act a = false

-- whether a member leaves its view with it
abbrev pub leaves_view : Act → Bool
leaves_view acts.Finish = true
leaves_view a = false

-- the replica after the act, but for its stamp, and with it
abbrev pub done : Replica → Act → Replica
done r acts.Beat = beaten r
done r (acts.Receive s) = received r s
done r acts.Send = sent r
done r acts.Null = nulled r
done r acts.Deliver = delivered r
done r acts.Publish = published r
done r acts.Report = reported r
done r acts.Mark = marked r
done r (acts.Suspect j) = suspected r j
done r acts.Finish = finished r
done r acts.Propose = accepted r
done r acts.Accept = accepted r
done r acts.Commit = decided r
done r (acts.Halt end) = ended r end
done r (acts.Crash end) = ended r end

-- the stamp of a member that ends its view stands in this view
abbrev pub taken : Replica → Act → Replica
taken r acts.Finish = finished (acted r)
taken r a = acted (done r a)
