-- What the start of an age leaves to be delivered.
use Rattle.std.specs.{List.range_with_len, Prelude.{ℕ, ◌-◌, List, length, map}}
use Rattle.dr_entry.specs.declared.{end.SentItem.TheVariants.Index, entry.Entry.Entry}
use Rattle.dr_history.specs.{History.{Sent, merge, messages_of}, Order.messages_from}
use Rattle.dr_history.specs.declared.opening.Opening.{Opening}
use Rattle.dr_history_laws.specs.Laid.{counts_sent, first_view}

-- how many messages the start leaves to a member
abbrev pub messages_left : Opening → ℕ → ℕ
messages_left o s = length (messages_of o s) - length (messages_from s o.start)

-- the messages that the start leaves to each member, as what it is to send in the first view
abbrev pub to_send : Opening → Sent
to_send o s v = map Index (range_with_len (length (messages_from s o.start)) (messages_left o s))

-- the messages that the start leaves, in the order of the round robin
abbrev pub remaining : Opening → List Entry
remaining o = merge o (to_send o) (first_view o) (counts_sent (to_send o) (first_view o))
