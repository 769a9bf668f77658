-- What is known of a member in the places of its turn that it has passed.
use Rattle.std.specs.Prelude.{◌≡◌, ◌≢◌, ⊤, ℕ, ◌<◌, ◌⊎◌}
use Rattle.dr_machine.specs.declared.step.Step.TheVariants as steps
use Rattle.dr_machine.specs.{Group.{Group, columns, roster}, World.World}
use Rattle.dr_program.specs.{Turn.{IsIn, part_of}, declared.place.{Part.Part, Place.Place}}
use Rattle.dr_program.specs.declared.place.Part.TheVariants as parts
use Rattle.dr_turn_laws.specs.Rested.{HasPushed, HasSeen}
use Rattle.dr_turn_laws.specs.Wants.{IsToLog, IsToPublish, IsToTake, SeesAllDone, Wants}

-- nothing is left to do of a part, in a row and a column: its word is seen or pushed, or its step isn't asked
-- for. An entry that is to be logged waits for one that is to be published, since publishing goes back
abbrev pub IsIdle : Group → World → ℕ → Part → ℕ → ℕ → Type 0
IsIdle g w m parts.Look i c = i ≢ m → HasSeen w m i c
IsIdle g w m parts.Receive i c = IsToTake g w m i → ⊥
IsIdle g w m (parts.Do a) i c = Wants g w m (steps.Do a) → ⊥
IsIdle g w m parts.Append i c = IsToLog w m → IsToPublish w m
IsIdle g w m parts.Push i c = i ≢ m → HasPushed w m i c
IsIdle g w m parts.Done i c = SeesAllDone w m → ⊥
IsIdle g w m part i c = ⊤

-- q comes before p in the turn
abbrev pub IsBefore : Place → Place → Type 0
IsBefore q p =
    (q.part < p.part)
    ⊎ ((q.part ≡ p.part) × ((q.row < p.row) ⊎ ((q.row ≡ p.row) × (q.column < p.column))))

-- nothing is left to do at the places before p
abbrev pub Swept : Group → World → ℕ → Place → Type 0
Swept g w m p = (q : Place) → IsIn (roster g) (columns g) q → IsBefore q p
    → IsIdle g w m (part_of q) q.row q.column
