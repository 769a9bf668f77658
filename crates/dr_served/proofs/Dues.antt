-- The record that a member has due stays due as the member ends.
use Rattle.std.proofs.Common.{sym, ap, ◌∙◌, inl, inr}
use Rattle.dr_entry.specs.{declared.end.End.End, declared.record.Record.Record}
use Rattle.dr_entry.specs.declared.record.Record.TheVariants as records
use Rattle.dr_log_bytes.specs.Content.{OnLog}
use Rattle.dr_machine.specs.declared.event.Act.TheVariants as acts
use Rattle.dr_program.{specs.{Acts.taken, Replica.{Replica, vote_of}}, proofs.Replicas.{value_still, votes_still}}
use Rattle.dr_served.specs.Served.{HasDueBehind, IsRecordDue}

-- ---- votes go by some columns alone

-- ---- a member that ends

-- what it has due it has due then too
pub due_still : (r : Replica) (end : End) (next : Record) → IsRecordDue r next
    → IsRecordDue (taken r (acts.Crash end)) next
due_still r end (records.Entry e) due = due
due_still r end (records.Vote vote) due = record {
  may = votes_still r end ∙ due.may;
  is = due.is ∙ ap (vote_of r) (sym (value_still r end));
  valid = due.valid;
  few = due.few;
}
due_still r end (records.AgeVote vote) due = absurd due
due_still r end (records.Cut keep) due = absurd due
due_still r end records.Upgrade due = absurd due

pub due_behind : (r : Replica) (end : End) (before after : OnLog) → HasDueBehind r before after
    → HasDueBehind (taken r (acts.Crash end)) before after
due_behind r end before after (inl (next, due, is)) = inl (next, due_still r end next due, is)
due_behind r end before after (inr is) = inr is
