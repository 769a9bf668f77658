-- What stands on the log of a seat.
use Rattle.std.specs.Prelude.{⊤}
use Rattle.dr_entry.specs.declared.record.Record.{Record}
use Rattle.dr_entry.specs.declared.record.Record.TheVariants as records

-- a record that a member of an age has on its log: an entry, or a vote
abbrev pub IsOfMember : Record → Type 0
IsOfMember (records.Entry entry) = ⊤
IsOfMember (records.Vote vote) = ⊤
IsOfMember (records.AgeVote vote) = ⊥
IsOfMember (records.Cut keep) = ⊥
IsOfMember records.Upgrade = ⊥
