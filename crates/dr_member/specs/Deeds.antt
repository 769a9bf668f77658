-- The deeds that a member may be due to do, and what its callers know of them.
use Rattle.std.specs.Prelude.{ℕ, ◌<◌, ◌&&◌, Bool, not, true, false, is_some, Option, None, Some}
use Rattle.dr_entry.specs.declared.entry.Entry.{Entry}
use Rattle.dr_entry.specs.declared.record.Record.TheVariants as records
use Rattle.dr_words.specs.Layout.{words_of}
use Rattle.dr_program.specs.{Running.Running, Turn.{is_beat, part_of}, declared.deed.Deed.Deed}
use Rattle.dr_program.specs.declared.deed.Deed.TheVariants as deeds

-- the deed is a look, a push, an act, an append, a letter to give, or one to take
abbrev pub is_look : Deed → Bool
is_look (deeds.Look index) = true
is_look d = false

abbrev pub is_push : Deed → Bool
is_push (deeds.Push index word) = true
is_push d = false

abbrev pub is_act : Deed → Bool
is_act (deeds.Act index word) = true
is_act d = false

abbrev pub is_append : Deed → Bool
is_append (deeds.Append entry) = true
is_append d = false

abbrev pub is_give : Deed → Bool
is_give (deeds.Give late) = true
is_give d = false

abbrev pub is_take : Deed → Bool
is_take deeds.Take = true
is_take d = false

-- the entry that the deed appends, where it appends one
abbrev pub appended_entry : Deed → Option Entry
appended_entry (deeds.Append (records.Entry entry)) = Some entry
appended_entry d = None

-- an index in the deed is below this size
abbrev pub IsWithin : ℕ → Deed → Type 0
IsWithin size (deeds.Look index) = index < size
IsWithin size (deeds.Push index word) = index < size
IsWithin size (deeds.Act index word) = index < size
IsWithin size (deeds.Append entry) = Unit {0}
IsWithin size (deeds.Give late) = Unit {0}
IsWithin size deeds.Take = Unit {0}
IsWithin size (deeds.Rest end) = Unit {0}

-- the number of words of the member's table
abbrev pub table_size : Running → ℕ
table_size r = words_of r.replica.roster r.replica.window r.replica.banks

-- the member has no end, and stands before a turn
abbrev pub is_before_turn : Running → Bool
is_before_turn r = not (is_some r.replica.end) && is_beat (part_of r.place)
