-- The text of a summary.
use Rattle.std.specs.{Fmt.decimal, List.{concat, enumerate_from, flat_map, list_any}}
use Rattle.std.specs.Prelude.{ℕ, ◌-◌, ◌^◌, ◌==◌, ◌&&◌, if◌then◌else◌, Bool, true, false, List, [], ◌∷◌, All, length, map, fold, max, codes}
use Rattle.dr_complete.specs.Enough.{turns_enough}
use Rattle.dr_entry.specs.declared.end.{AgeEnd.AgeEnd, End.{End, TheVariants.Spent}, MemberEnd.MemberEnd}
use Rattle.dr_history.specs.declared.opening.Opening.{Opening}
use Rattle.dr_script.specs.declared.script.{Schedule.{Schedule, TheVariants.{Lockstep, Seed}}, Script.Script}
use Rattle.dr_summary.specs.Summary.{HaveAgreed, age_text}
use Rattle.dr_text.specs.{Report.last_text, declared.last.Last.Last}
use Rattle.dr_words.specs.Masks.{without}
use Rattle.dr_tools.specs.declared.summary.enough.Enough.{Enough, TheVariants.{ForRun, InLockstep, Unknown}}

-- the members of each age agree
abbrev pub AreAgreed : List AgeEnd → Type 0
AreAgreed ages = All (λ (age : AgeEnd). (o : Opening) × HaveAgreed o age.members) ages

-- the summaries of ages, the first of which is number 0 of the run
abbrev pub ages_text : Script → List AgeEnd → List ℕ
ages_text script ages = flat_map (λ t. age_text script t.0 t.1) (enumerate_from 0 ages)

-- whether some member of some age has spent its turns
abbrev pub is_spent : End → Bool
is_spent (Spent turns) = true
is_spent end = false

abbrev pub some_spent : List AgeEnd → Bool
some_spent ages = list_any (λ (age : AgeEnd). list_any (λ (m : MemberEnd). is_spent m.end) age.members) ages

-- the most turns that a member of an age has taken, and of any age
unfoldable pub turns_in : AgeEnd → ℕ
turns_in age = fold max 0 (map (λ (m : MemberEnd). m.turns) age.members)

abbrev pub most_turns : List AgeEnd → ℕ
most_turns ages = fold max 0 (map turns_in ages)

-- whether a script is in lockstep
abbrev pub is_lockstep : Schedule → Bool
is_lockstep Lockstep = true
is_lockstep (Seed seed) = false

-- whether none of so many members is late: without the late ones they are all
abbrev pub is_nobody_late : ℕ → ℕ → Bool
is_nobody_late n late = without (2 ^ n - 1) late == 2 ^ n - 1

-- whether a script is in lockstep without faults, and none of its members is late
abbrev pub is_undisturbed : Script → ℕ → Bool
is_undisturbed script late =
    (length script.faults == 0) && is_nobody_late script.members late && is_lockstep script.schedule

-- how many turns would have been enough for a run with these ages, in which these members are late: where nobody has
-- spent its own, the most that a member took; else the number that is enough in lockstep without faults, where the
-- run was one, and of other runs it isn't known
abbrev pub enough_of : Script → ℕ → List AgeEnd → Enough
enough_of script late ages =
    if some_spent ages then (if is_undisturbed script late then InLockstep (turns_enough script) else Unknown)
    else ForRun (most_turns ages)

-- one turn, or turns
abbrev pub turns_word : ℕ → List ℕ
turns_word count = if count == 1 then codes "turn" else codes "turns"

-- that so many turns would have been enough for the same run
abbrev pub enough_text : ℕ → List ℕ
enough_text count =
    concat (decimal count ∷ codes " " ∷ turns_word count ∷ codes " would have been enough for the same run\n" ∷ [])

-- how many turns would have been enough, as far as that is known
abbrev pub turns_text : Enough → List ℕ
turns_text (ForRun turns) = enough_text turns
turns_text (InLockstep turns) =
    concat (decimal turns ∷ codes " turns are enough in lockstep without faults\n" ∷ [])
turns_text Unknown = []

-- the summary of a run of a script, for which so many turns would have been enough, with its ages and its last line
abbrev pub summary_text : Script → Enough → List AgeEnd → Last → List ℕ
summary_text script enough ages last =
    concat (ages_text script ages ∷ turns_text enough ∷ last_text last ∷ [])
