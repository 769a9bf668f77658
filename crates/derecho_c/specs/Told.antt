-- What C is told, as structs of numbers.
use Rattle.std.specs.Prelude.{ℕ, ◌+◌, List, [], Option, None, Some, length}
use Rattle.dr_entry.specs.declared.{end.End.End, entry.Entry.Entry}
use Rattle.dr_entry.specs.declared.end.End.TheVariants as ends
use Rattle.dr_entry.specs.declared.entry.Entry.TheVariants.{Msg, View}
use Rattle.dr_quorum.specs.declared.faults.ChooseFault.{ChooseFault}
use Rattle.dr_quorum.specs.declared.faults.ChooseFault.TheVariants as faults
use Rattle.dr_seat.specs.declared.due.{Due.Due, Stage.Stage, Standing.Standing}
use Rattle.dr_seat.specs.declared.due.Due.TheVariants as dues
use Rattle.dr_seat.specs.declared.due.Stage.TheVariants as stages
use Rattle.derecho_c.specs.declared.told.{CDue.CDue, CItem.CItem, CWhere.CWhere}
use Rattle.derecho_c.specs.declared.told.TheConstants as kinds

-- how a member ended, and the number that its end tells
abbrev pub end_numbers : End → ℕ × ℕ
end_numbers ends.Done = (0, 0)
end_numbers ends.Crashed = (1, 0)
end_numbers (ends.Suspected by) = (2, by)
end_numbers (ends.Excluded view) = (3, view)
end_numbers (ends.NoMajority mask) = (4, mask)
end_numbers ends.DiskFault = (5, 0)
end_numbers (ends.LogFull len) = (6, len)
end_numbers (ends.Spent turns) = (7, turns)
end_numbers ends.Absent = (8, 0)

-- something with this kind and number, of which nothing else is told
abbrev pub plain_due : ℕ → ℕ → CDue
plain_due kind number =
    record { kind = kind; to = 0; number = number; at = 0; length = 0; end = 0; spare = 0; detail = 0 }

-- what is due
abbrev pub due_told : Due → CDue
due_told dues.Wait = plain_due kinds.WAIT 0
due_told (dues.Write number at bytes) = record (plain_due kinds.WRITE number) { at = at; length = length bytes.now }
due_told (dues.Sync number) = plain_due kinds.SYNC number
due_told (dues.Send number to packet) = record (plain_due kinds.SEND number) { to = to; length = length packet.now }
due_told (dues.End number how) =
    record (plain_due kinds.END number) { end = (end_numbers how).0; detail = (end_numbers how).1 }

-- the bytes that go with it
abbrev pub due_bytes : Due → List ℕ
due_bytes dues.Wait = []
due_bytes (dues.Write number at bytes) = bytes.now
due_bytes (dues.Sync number) = []
due_bytes (dues.Send number to packet) = packet.now
due_bytes (dues.End number how) = []

-- what a seat is about
abbrev pub stage_number : Stage → ℕ
stage_number stages.Gathers = 0
stage_number stages.Tries = 1
stage_number stages.Runs = 2
stage_number stages.Ended = 3
stage_number stages.Broken = 4

-- one more than the number of a view, or 0
abbrev pub view_number : Option ℕ → ℕ
view_number None = 0
view_number (Some view) = view + 1

-- why logs make no start, and the three numbers that this tells
abbrev pub why_numbers : Option ChooseFault → ℕ × ℕ × ℕ × ℕ
why_numbers None = (0, 0, 0, 0)
why_numbers (Some faults.OutOfMemory) = (1, 0, 0, 0)
why_numbers (Some (faults.Foreign member place)) = (2, member, place, 0)
why_numbers (Some (faults.NoQuorum view have need)) = (3, view_number view, have, need)
why_numbers (Some (faults.Disagree a b place)) = (4, a, b, place)
why_numbers (Some faults.AgesUsedUp) = (5, 0, 0, 0)

-- where a seat stands
abbrev pub where_told : Standing → CWhere
where_told s = record {
  stage = stage_number s.stage;
  me = s.me;
  age = s.age;
  members = s.members;
  turns = s.turns;
  why = (why_numbers s.why).0;
  entries = s.entries;
  logged = s.logged;
  durable = s.durable;
  first = (why_numbers s.why).1;
  second = (why_numbers s.why).2;
  third = (why_numbers s.why).3;
}

-- an entry
abbrev pub item_told : Entry → CItem
item_told (View age number members) =
    record { kind = 0; number = number; index = 0; age = age; members = members; length = 0 }
item_told (Msg sender index bytes) =
    record { kind = 1; number = sender; index = index; age = 0; members = 0; length = length bytes }

-- the bytes of its message
abbrev pub item_bytes : Entry → List ℕ
item_bytes (View age number members) = []
item_bytes (Msg sender index bytes) = bytes
