-- What the last line says of the ages that ran, and of what ended the run.
use Rattle.std.specs.{List.list_any, Option.option_or}
use Rattle.std.specs.Prelude.{◌||◌, ℕ, Bool, true, false, if◌then◌else◌, List, [], ◌∷◌, Option, None, Some, is_some, position}
use Rattle.dr_ages.specs.declared.stop.Stop.{Stop}
use Rattle.dr_ages.specs.declared.stop.Stop.TheVariants as stops
use Rattle.dr_entry.specs.declared.end.{AgeEnd.AgeEnd, End.End, MemberEnd.MemberEnd}
use Rattle.dr_entry.specs.declared.end.End.TheVariants as ends
use Rattle.dr_text.specs.declared.last.Last.{Last}
use Rattle.dr_text.specs.declared.last.Last.TheVariants as lasts
use Rattle.dr_outcome.specs.declared.last.Kind.{Kind, TheVariants.{DiskFault, LogFull, NoMajority, Spent}}

-- whether an end is of a kind
abbrev pub is_of : Kind → End → Bool
is_of DiskFault ends.DiskFault = true
is_of LogFull (ends.LogFull len) = true
is_of Spent (ends.Spent turns) = true
is_of NoMajority (ends.NoMajority mask) = true
is_of kind end = false

-- the first member that ended so, in the order of ages, and of members in an age
abbrev pub first_end : Kind → List AgeEnd → Option ℕ
first_end kind [] = None
first_end kind (age ∷ ages) =
    option_or (position (λ (m : MemberEnd). is_of kind m.end) age.members) (first_end kind ages)

-- the member that ended the run so, as an age was to open
abbrev pub stopped_by : Kind → Option Stop → Option ℕ
stopped_by DiskFault (Some (stops.DiskFault member)) = Some member
stopped_by LogFull (Some (stops.LogFull member len)) = Some member
stopped_by kind stop = None

-- the first of them all: that age comes behind those that ran
abbrev pub first_told : Kind → List AgeEnd → Option Stop → Option ℕ
first_told kind ages stop = option_or (first_end kind ages) (stopped_by kind stop)

-- whether some member of some age ended so
abbrev pub some_end : Kind → List AgeEnd → Bool
some_end kind ages =
    list_any (λ (age : AgeEnd). list_any (λ (m : MemberEnd). is_of kind m.end) age.members) ages

-- the same, or the run did
abbrev pub some_so : Kind → List AgeEnd → Option Stop → Bool
some_so kind ages stop = some_end kind ages || is_some (stopped_by kind stop)

-- what is said where the logs were refused, or too few were there
abbrev pub refusal_of : Option Stop → Option Last
refusal_of (Some (stops.Damaged member at)) = Some (lasts.Damaged member at)
refusal_of (Some (stops.Foreign member place)) = Some (lasts.Foreign member place)
refusal_of (Some (stops.NoQuorum view have need)) = Some (lasts.NoQuorum view have need)
refusal_of (Some (stops.Disagree a b place)) = Some (lasts.Disagree a b place)
refusal_of (Some stops.AgesUsedUp) = Some lasts.AgesUsedUp
refusal_of stop = None

-- the last line by the first member whose disk failed, the refusal of the logs, the first member whose log
-- was full, the first that had spent its turns, and the first that was left with no majority
abbrev pub last_by : Option ℕ → Option Last → Option ℕ → Option ℕ → Option ℕ → Last
last_by (Some member) refusal full spent few = lasts.DiskFault member
last_by None (Some refusal) full spent few = refusal
last_by None None (Some member) spent few = lasts.LogFull member
last_by None None None (Some member) few = lasts.Unfinished
last_by None None None None (Some member) = lasts.NoMajority
last_by None None None None None = lasts.Done

-- whether memory was wanting
abbrev pub is_memory : Option Stop → Bool
is_memory (Some stops.OutOfMemory) = true
is_memory stop = false

-- the last line behind the ages of a run and what ended it; none where memory was wanting
abbrev pub last_of : List AgeEnd → Option Stop → Option Last
last_of ages stop =
    if is_memory stop then None
    else Some (last_by (first_told DiskFault ages stop) (refusal_of stop) (first_told LogFull ages stop)
    (first_end Spent ages) (first_end NoMajority ages))
