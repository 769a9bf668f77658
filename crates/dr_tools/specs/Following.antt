-- What the lines of a run tell of the histories of its members.
use Rattle.std.specs.{Fmt.decimal, List.{concat, enumerate_from, flat_map}, Option.option_map_or}
use Rattle.std.specs.Prelude.{ℕ, ◌+◌, List, [], ◌∷◌, ◌++◌, codes, drop, length, replicate, slice_index_or, slice_set, Option}
use Rattle.dr_entry.specs.declared.{entry.Entry.Entry, limits.TheConstants.MAX_MEMBERS}
use Rattle.dr_machine.specs.declared.event.Act.TheVariants as acts
use Rattle.dr_machine.specs.declared.step.Step.{Step}
use Rattle.dr_machine.specs.declared.step.Step.TheVariants as steps
use Rattle.dr_program.specs.{Replica.me, Running.{Running, next_step}}
use Rattle.dr_seeing.specs.{Lines.line_of, Output.Written}
use Rattle.dr_text.specs.Report.{entry_text}

-- the line of an entry of a member's history, with its number, from 0
abbrev pub came_line : ℕ → ℕ → Entry → List ℕ
came_line me number e = concat (decimal me ∷ codes " entry " ∷ decimal number ∷ entry_text e ∷ [])

-- the lines of the entries of a member's history from this number on
abbrev pub came_text : ℕ → ℕ → List Entry → List ℕ
came_text me told history = flat_map (λ t. came_line me (told + t.0) t.1) (enumerate_from 0 (drop told history))

-- how many entries a step tells by its own line: a delivery the one that it brings, if it brings one
abbrev pub told_by_line : Step → ℕ
told_by_line (steps.Do acts.Deliver) = 1
told_by_line step = 0

-- how many entries of its history are told once the line of a member's next deed is
abbrev pub told_past_deed : Running → ℕ
told_past_deed r = length r.replica.history + told_by_line (next_step r)

-- how many are told of each member once that is: of the others as many as before
abbrev pub told_after : List ℕ → Running → List ℕ
told_after told r = slice_set told (me r.replica) (told_past_deed r)

-- how many are told of each as an age opens: those of its start
abbrev pub told_at_opening : ℕ → List ℕ
told_at_opening entries = replicate MAX_MEMBERS entries

-- what is told of a member's next deed over the words of a table: the entries that have come to its history and
-- aren't told yet, and the line of the deed
abbrev pub deed_text : List ℕ → List ℕ → Running → List ℕ
deed_text told table r =
    came_text (me r.replica) (slice_index_or told (me r.replica) 0) r.replica.history ++ line_of r table

-- what is told of the next deed of a member, if it is there
abbrev pub deed_text_of : List ℕ → List ℕ → Option Running → List ℕ
deed_text_of told table who = option_map_or (deed_text told table) who []

-- how many entries of each history are told then
abbrev pub then_told : List ℕ → Option Running → List ℕ
then_told told who = option_map_or (told_after told) who told

-- what has been written of lines, and how many entries of each member's history are told
pub record Followed : Type 0 where
  pub output : Written
  pub told : List ℕ
