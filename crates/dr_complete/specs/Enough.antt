-- How many turns are enough.
use Rattle.std.specs.Prelude.{ℕ, ◌+◌, ◌*◌, length, map, fold, max}
use Rattle.dr_script.specs.declared.script.Script.{Script}

-- how many messages the member has that has most
abbrev pub most_messages : Script → ℕ
most_messages s = fold max 0 (map length s.messages)

-- how many turns are enough for the group of a script in lockstep: four for each message of the member that
-- has most, and eight more
abbrev pub turns_enough : Script → ℕ
turns_enough s = 4 * most_messages s + 8
