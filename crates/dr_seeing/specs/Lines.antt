-- The line of a deed: what a member is about to do, told by what it has, by what it has seen, and by the
-- words of the table.
use Rattle.std.specs.{Fmt.{decimal, digits}, List.{concat, flat_map}, Option.option_map_or}
use Rattle.std.specs.Prelude.{ℕ, ◌+◌, ◌==◌, false, if◌then◌else◌, List, [], ◌∷◌, ◌++◌, length, take, codes, slice_index_or, Option, None, Some, unwrap_or}
use Rattle.dr_entry.specs.{declared.entry.Item.{Item, TheVariants.{Null, Text}}, declared.record.Value.Value}
use Rattle.dr_history.specs.Order.{messages_from}
use Rattle.dr_machine.specs.{Effects.one_more, World.no_vote, declared.{event.Act.Act, step.Step.Step}}
use Rattle.dr_machine.specs.declared.event.Act.TheVariants as acts
use Rattle.dr_machine.specs.declared.step.Step.TheVariants as steps
use Rattle.dr_program.specs.Replica.{Replica, count, item_of_place, least_seen, me, next_index, promise, sender_of_place}
use Rattle.dr_program.specs.{Running.{Running, next_step}, Steps.found}
use Rattle.dr_rows.specs.Words.{own, seen}
use Rattle.dr_text.specs.Report.{end_text, mask_text, message_text}
use Rattle.dr_words.specs.declared.column.TheConstants.{LOGGED_COLUMN}

-- a number behind a word
abbrev pub with_number : List ℕ → ℕ → List ℕ
with_number word number = word ++ decimal number

-- the members that leave or come by a value, or a dash where there are none
abbrev pub leavers_text : ℕ → List ℕ
leavers_text mask = if mask == 0 then codes "-" else mask_text mask

-- a value: who leaves or comes, and how many items of each member of the roster are still delivered
abbrev pub value_text : ℕ → Value → List ℕ
value_text members value = concat
    (codes "leavers " ∷ leavers_text value.leavers ∷ codes " trim"
    ∷ flat_map (with_number (codes " ")) (take members value.trim) ∷ [])

-- an item of s that is delivered behind a history: a null, or the message, with its sender and its index
abbrev pub item_text : Replica → ℕ → Item → List ℕ
item_text r s Null = codes "null"
item_text r s (Text bytes) = concat
    (codes "msg " ∷ decimal s ∷ codes " " ∷ decimal (length (messages_from s r.history)) ∷ codes " "
    ∷ message_text bytes ∷ [])

-- an act of a replica
abbrev pub act_text : Replica → Act → List ℕ
act_text r acts.Beat = with_number (codes "turn ") (one_more 32 r.turns)
act_text r (acts.Receive s) = concat (codes "take " ∷ decimal s ∷ codes " " ∷ decimal (count r s) ∷ [])
act_text r acts.Send = concat
    (codes "put " ∷ decimal (count r (me r)) ∷ codes " "
    ∷ message_text (slice_index_or r.messages (next_index r) []) ∷ [])
act_text r acts.Null = with_number (codes "null ") (count r (me r))
act_text r acts.Deliver = concat
    (codes "deliver " ∷ decimal r.next ∷ codes " " ∷ item_text r (sender_of_place r r.next) (item_of_place r r.next) ∷ [])
act_text r acts.Publish = with_number (codes "publish ") r.logged
act_text r acts.Report = with_number (codes "report ") (least_seen r LOGGED_COLUMN)
act_text r acts.Mark = codes "mark"
act_text r (acts.Suspect j) = with_number (codes "suspect ") j
act_text r acts.Propose = codes "propose " ++ value_text r.roster (unwrap_or r.pending no_vote).value
act_text r acts.Accept = codes "accept " ++ value_text r.roster (unwrap_or r.pending no_vote).value
act_text r acts.Commit = codes "commit " ++ value_text r.roster r.value
act_text r acts.Finish = with_number (codes "finish ") (r.view + 1)
act_text r (acts.Halt end) = codes "end " ++ end_text end
act_text r (acts.Crash end) = codes "end " ++ end_text end

-- a word of a row and a column, in hexadecimal
abbrev pub word_text : List ℕ → ℕ → ℕ → ℕ → List ℕ
word_text kind row column word = concat
    (kind ∷ decimal row ∷ codes " " ∷ decimal column ∷ codes " 0x" ∷ digits 16 false word ∷ [])

-- a look that finds this word: nothing, where it has been seen before
abbrev pub look_text : Replica → ℕ → ℕ → ℕ → Option (List ℕ)
look_text r row column word =
    if word == seen r.rows row column then None else Some (word_text (codes "look ") row column word)

-- a vote for a value: its ballot, and the value
abbrev pub vote_text : Replica → Value → List ℕ
vote_text r value = concat
    (codes "vote " ∷ decimal (promise r) ∷ codes " " ∷ value_text r.roster value ∷ [])

-- a step of a replica over the words of a table, where there is something to tell: nothing of a take, since whoever
-- gives the letter tells of it
abbrev pub step_text : List ℕ → Replica → Step → Option (List ℕ)
step_text table r (steps.Do act) = Some (act_text r act)
step_text table r (steps.Look i c) = look_text r i c (found table r i c)
step_text table r (steps.Push j c) = Some (word_text (codes "push ") j c (own r.rows c))
step_text table r steps.Append = Some (with_number (codes "append ") r.logged)
step_text table r (steps.LogVote value) = Some (vote_text r value)
step_text table r (steps.Welcome j) = Some (with_number (codes "welcome ") j)
step_text table r s = None

-- the line of something that a member does
abbrev pub told : ℕ → List ℕ → List ℕ
told member what = concat (decimal member ∷ codes " " ∷ what ∷ codes "\n" ∷ [])

-- the line of the deed that is due to a member over the words of a table
abbrev pub line_of : Running → List ℕ → List ℕ
line_of r table = option_map_or (told (me r.replica)) (step_text table r.replica (next_step r)) []

-- the line of an age, by its number and its number of entries
abbrev pub age_line : ℕ → ℕ → List ℕ
age_line age entries =
    concat (codes "age " ∷ decimal age ∷ codes " start " ∷ decimal entries ∷ codes "\n" ∷ [])
