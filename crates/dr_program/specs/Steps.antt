-- What a step makes of a replica and of the table, and when it may.
use Rattle.std.specs.Prelude.{⊤, ◌≡◌, ℕ, ◌&&◌, ◌||◌, not, nat_lt, true, false, Bool, Option, None, Some, is_some, List, slice_index, slice_set}
use Rattle.dr_entry.specs.declared.entry.Entry.{Entry}
use Rattle.dr_history.specs.{History.up_to_view, Members.has}
use Rattle.dr_rows.specs.Words.{own}
use Rattle.dr_words.specs.{Columns.columns_of, Grown.Grown, Layout.word_index_of}
use Rattle.dr_words.specs.declared.column.TheConstants.{BEAT_COLUMN}
use Rattle.dr_machine.specs.{Effects.one_more, declared.step.Step.Step}
use Rattle.dr_machine.specs.declared.step.Step.TheVariants.{Do, Look, Push, Append, LogVote, Welcome, Join}
use Rattle.dr_program.specs.Acts.{is_outside_act, may, may_waiting, taken}
use Rattle.dr_program.specs.Replica.{Replica, me, is_inside, is_other, may_append, may_give, may_vote, looked, pushed, appended, gave, voted}

-- another member of the view has a word of this column
abbrev pub has_cell : Replica → ℕ → ℕ → Bool
has_cell r i c = nat_lt i r.roster && (is_other r i && nat_lt c (columns_of r.roster r.window))

-- a member whose vote waits acts on it, or crashes, and does nothing else
abbrev pub is_free : Replica → Step → Bool
is_free r (Do a) = may_waiting a || not (is_some r.pending)
is_free r s = not (is_some r.pending)

-- a member that is none of its view begins turns, joins, or crashes, and does nothing else
abbrev pub is_outside_step : Step → Bool
is_outside_step (Do a) = is_outside_act a
is_outside_step Join = true
is_outside_step s = false

-- the test of a step at a replica in its view without an end, of which no vote waits, and at any
abbrev pub allows_inside : Replica → Step → Bool
allows_inside r (Do a) = may r a
allows_inside r (Look i c) = not (has r.suspects i) && has_cell r i c
allows_inside r (Push j c) = has_cell r j c
allows_inside r Append = may_append r
allows_inside r (LogVote v) = may_vote r v
allows_inside r (Welcome j) = may_give r j
allows_inside r Join = not (is_inside r)

abbrev pub allows : Replica → Step → Bool
allows r s = (is_outside_step s || is_inside r) && allows_inside r s

abbrev pub may_take : Replica → Step → Bool
may_take r s = not (is_some r.end) && (is_free r s && allows r s)

-- the step is an append to the log, of an entry or of a vote
abbrev pub IsAppend : Step → Type 0
IsAppend Append = ⊤
IsAppend (LogVote v) = ⊤
IsAppend s = ⊥

-- the step is no join
abbrev pub IsNoJoin : Step → Type 0
IsNoJoin Join = ⊥
IsNoJoin s = ⊤

-- a join needs a letter
abbrev pub HasLetter : Option (List Entry) → Step → Type 0
HasLetter letter Join = (es : List Entry) × (letter ≡ Some es)
HasLetter letter s = Unit {0}

-- the step is a look, and this holds of the row and the column that it looks at
abbrev pub IsLook : Step → (ℕ → ℕ → Type 0) → Type 0
IsLook (Look i c) P = P i c
IsLook s P = ⊥

-- where the step is a look, this holds of the row and the column that it looks at
abbrev pub AtLook : Step → (ℕ → ℕ → Type 0) → Type 0
AtLook s P = (i c : ℕ) → s ≡ Look i c → P i c

-- the index of a word of the table, in the copy of a member
abbrev pub index_in : Replica → ℕ → ℕ → ℕ → ℕ
index_in r copy row column = word_index_of r.roster r.window r.view copy row column

-- the word of the table that a look finds
abbrev pub found : List ℕ → Replica → ℕ → ℕ → ℕ
found table r i c = slice_index table (index_in r (me r) i c)

-- what a step sees in the table: a look its word, and the others nothing
abbrev pub sight : List ℕ → Replica → Step → ℕ
sight table r (Do a) = 0
sight table r (Look i c) = found table r i c
sight table r (Push j c) = 0
sight table r Append = 0
sight table r (LogVote v) = 0
sight table r (Welcome j) = 0
sight table r Join = 0

-- the replica after the step, with the word that it saw. A join goes by the letter besides, and is apart
abbrev pub stepped : ℕ → Replica → Step → Replica
stepped word r (Do a) = taken r a
stepped word r (Look i c) = looked r i c word
stepped word r (Push j c) = pushed r j c
stepped word r Append = appended r
stepped word r (LogVote v) = voted r v
stepped word r (Welcome j) = gave r j
stepped word r Join = r

-- the replica after the step over this table
abbrev pub stepped_over : List ℕ → Replica → Step → Replica
stepped_over table r s = stepped (sight table r s) r s

-- no word that a replica has or has seen fell, on its way from r to q
abbrev pub NoWordFell : Replica → Replica → Type 0
NoWordFell r q = Grown r.roster r.rows.words q.rows.words r.rows.frozen q.rows.frozen

-- the table after the step: an act stores its beat word, a push its word
abbrev pub stored : List ℕ → Replica → Step → List ℕ
stored table r (Do a) = slice_set table (index_in r (me r) (me r) BEAT_COLUMN) (one_more 64 r.acts)
stored table r (Look i c) = table
stored table r (Push j c) = slice_set table (index_in r j (me r) c) (own r.rows c)
stored table r Append = table
stored table r (LogVote v) = table
stored table r (Welcome j) = table
stored table r Join = table

-- whom the step gives a letter
abbrev pub given_to : Step → Option ℕ
given_to (Welcome j) = Some j
given_to s = None

-- the letters after the step: a welcome gives one
abbrev pub stored_letters : List (Option (List Entry)) → Replica → Step → List (Option (List Entry))
stored_letters letters r (Welcome j) = slice_set letters j (Some (up_to_view r.history))
stored_letters letters r s = letters
