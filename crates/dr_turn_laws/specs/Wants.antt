-- What a step asks of a member that may choose and suspects nobody.
use Rattle.std.specs.Prelude.{◌≡◌, ◌≢◌, ⊤, ℕ, ◌+◌, ◌<◌, ◌≤◌, Bool, true, false, length, slice_index, Some}
use Rattle.dr_entry.specs.declared.end.End.{End, TheVariants.{Done, Excluded, Suspected}}
use Rattle.dr_entry.specs.declared.record.Value.{Value}
use Rattle.dr_history.specs.{History.messages_of, Members.has}
use Rattle.dr_machine.specs.declared.event.Act.TheVariants as acts
use Rattle.dr_machine.specs.Group.{Group, banks, columns}
use Rattle.dr_machine.specs.Guards.{HasRoom, HoldsAll, IsBehind, IsExcluded, IsFault, IsNamable, IsOther, next_index, seen_slot}
use Rattle.dr_machine.specs.{World.{World, items_received, own_word, shown}, declared.step.Step.Step}
use Rattle.dr_machine.specs.declared.step.Step.TheVariants as steps
use Rattle.dr_ring.specs.Slots.{IsReady}
use Rattle.dr_words.specs.declared.column.TheConstants.{DONE_COLUMN, LOGGED_COLUMN, RECEIVED_COLUMN, SUSPECTED_COLUMN}

-- all words that the next item of s needs are seen
abbrev pub IsThere : Group → World → ℕ → ℕ → Type 0
IsThere g w m s = IsReady (items_received w m s) (seen_slot g w m s (items_received w m s))

-- the next item of s is to be taken
abbrev pub IsToTake : Group → World → ℕ → ℕ → Type 0
IsToTake g w m s = IsOther w m s × IsThere g w m s

-- a message is left
abbrev pub IsLeft : Group → World → ℕ → Type 0
IsLeft g w m = next_index w m < length (messages_of g.opening m)

-- no message is left
abbrev pub NoneIsLeft : Group → World → ℕ → Type 0
NoneIsLeft g w m = length (messages_of g.opening m) ≤ next_index w m

-- every row of the view shows more than x in a column
abbrev pub ShowsMore : World → ℕ → ℕ → ℕ → Type 0
ShowsMore w m c x = (i : ℕ) → has (w.members m) i ≡ true → x < shown w m i c

-- every row of the view shows done
abbrev pub SeesAllDone : World → ℕ → Type 0
SeesAllDone w m = (i : ℕ) → has (w.members m) i ≡ true → shown w m i DONE_COLUMN ≡ 1

-- m has more on its log than its logged word says
abbrev pub IsToPublish : World → ℕ → Type 0
IsToPublish w m = own_word w m LOGGED_COLUMN < length (w.past.log m)

-- m has more in its history than on its log
abbrev pub IsToLog : World → ℕ → Type 0
IsToLog w m = length (w.past.log m) < length (w.past.history m)

-- m has everything, durably, and hasn't said so
abbrev pub IsToMark : Group → World → ℕ → Type 0
IsToMark g w m = (own_word w m DONE_COLUMN ≡ 0) × HoldsAll g w m
    × (w.past.durable m ≡ length (w.past.history m))

-- m has committed a value by which it stays, the table has a bank for the next view, and m has the items that
-- the value takes
abbrev pub IsToFinish : Group → World → ℕ → Type 0
IsToFinish g w m =
    (value : Value) × (w.committed m ≡ Some value) × (has value.leavers m ≡ false)
    × (w.past.view m + 1 < banks g)
    × ((s : ℕ) → has (w.members m) s ≡ true → slice_index value.trim s ≤ items_received w m s)

-- m came into its view with j, which was not in the one before, is the least of those that were, and has given j no
-- letter
abbrev pub IsToWelcome : World → ℕ → ℕ → Type 0
IsToWelcome w m j =
    (has (w.members m) j ≡ true) × (has (w.came_from m) j ≡ false) × (has (w.came_from m) m ≡ true)
    × ((i : ℕ) → has (w.came_from m) i ≡ true → has (w.members m) i ≡ true → m ≤ i)
    × (has (w.given m) j ≡ false)

-- m is to end so: done, suspected, or excluded; one that suspects nobody has a majority
abbrev pub IsToEnd : World → ℕ → End → Type 0
IsToEnd w m Done = SeesAllDone w m
IsToEnd w m (Suspected by) = IsOther w m by × (has (w.seen m by SUSPECTED_COLUMN) m ≡ true)
IsToEnd w m (Excluded view) = IsExcluded w m view
IsToEnd w m end = ⊥

-- what the step asks
abbrev pub Wants : Group → World → ℕ → Step → Type 0
Wants g w m (steps.Do acts.Beat) = ⊤
Wants g w m (steps.Do (acts.Receive s)) = IsToTake g w m s
Wants g w m (steps.Do acts.Send) = IsLeft g w m × HasRoom g w m (items_received w m m)
Wants g w m (steps.Do acts.Null) = NoneIsLeft g w m × HasRoom g w m (items_received w m m) × IsBehind w m
Wants g w m (steps.Do acts.Deliver) = ShowsMore w m RECEIVED_COLUMN (w.next m)
Wants g w m (steps.Do acts.Publish) = IsToPublish w m
Wants g w m (steps.Do acts.Report) = ShowsMore w m LOGGED_COLUMN (w.past.durable m)
Wants g w m (steps.Do acts.Mark) = IsToMark g w m
Wants g w m (steps.Do (acts.Suspect j)) = IsNamable g w m j × (j ≢ m)
Wants g w m (steps.Do acts.Propose) = ⊥
Wants g w m (steps.Do acts.Accept) = ⊥
Wants g w m (steps.Do acts.Commit) = ⊥
Wants g w m (steps.Do acts.Finish) = IsToFinish g w m
Wants g w m (steps.Do (acts.Halt end)) = IsToEnd w m end
Wants g w m (steps.Do (acts.Crash end)) = IsFault end
Wants g w m (steps.Look i c) = IsOther w m i × (c < columns g)
Wants g w m (steps.Push j c) = IsOther w m j × (c < columns g)
Wants g w m steps.Append = IsToLog w m
Wants g w m (steps.Welcome j) = IsToWelcome w m j
Wants g w m s = ⊥

-- the steps that a turn has to do between its looks and its pushes, where they are asked for
abbrev pub is_work : Step → Bool
is_work (steps.Do acts.Beat) = false
is_work (steps.Do (acts.Suspect j)) = false
is_work (steps.Do acts.Propose) = false
is_work (steps.Do acts.Accept) = false
is_work (steps.Do acts.Commit) = false
is_work (steps.Do acts.Finish) = false
is_work (steps.Do (acts.Halt end)) = false
is_work (steps.Do (acts.Crash end)) = false
is_work (steps.Do a) = true
is_work steps.Append = true
is_work s = false
