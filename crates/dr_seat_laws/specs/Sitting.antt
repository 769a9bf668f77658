-- A seat: what stands on its log, what it has of others' logs, its try and its member; what it does, and what it may
-- tell others.
use Rattle.std.specs.Prelude.{◌≡◌, ◌≢◌, ⊤, ◌⊎◌, ℕ, ◌+◌, ◌<◌, ◌≤◌, ◌==◌, Bool, true, false, if◌then◌else◌, List, [], ◌∷◌, ◌++◌, length, take, drop, Contains, Option, None, Some, option_map, slice_get, slice_index}
use Rattle.dr_door.specs.{Begun.HasBegun, Coming.came_to, Sending.IsLastSent}
use Rattle.dr_door.specs.Lone.{Lone, after_asking, done_alone, is_alone, pushed_on, went_on}
use Rattle.dr_entry.specs.declared.record.Record.{Record}
use Rattle.dr_entry.specs.declared.record.Record.TheVariants as records
use Rattle.dr_history.specs.{Members.has, declared.opening.Opening.Opening}
use Rattle.dr_log_bytes.specs.{Content.{OnLog, with_record}, Grammar.IsLogOf}
use Rattle.dr_opening.specs.Lists.{as_lists}
use Rattle.dr_packet.specs.declared.Call.{Call}
use Rattle.dr_packet.specs.declared.Far.{Far}
use Rattle.dr_packet.specs.declared.Far.TheVariants as fars
use Rattle.dr_program.specs.Running.{next_deed}
use Rattle.dr_program.specs.declared.deed.Deed.TheVariants as deeds
use Rattle.dr_program.specs.declared.packet.Packet.{Packet}
use Rattle.dr_restart.specs.{Choosing.{IsChosenStart, of_set}, Groups.first_group_of}
use Rattle.dr_restart.specs.Trying.{MayBeBroughtUp, age_vote_of, first_view_of}
use Rattle.dr_restart.specs.declared.{lists.LogLists.LogLists, start.Start.Start}
use Rattle.dr_script.specs.declared.script.Script.{Script}
use Rattle.dr_words.specs.Masks.{with_member}

-- ---- a seat

-- a log: its bytes before the closed gate at its end, and what they stand for
pub record Written : Type 0 where
  pub bytes : List ℕ
  pub content : OnLog

abbrev pub IsWritten : Written → Type 0
IsWritten log = IsLogOf (log.bytes ++ 0 ∷ []) log.content

-- how long it is, with the closed gate
abbrev pub long_of : Written → ℕ
long_of log = length log.bytes + 1

-- a log has got longer: the gate at its end is open, and more stands behind it
pub record HasGrown (old new : Written) : Type 0 where
  pub rest : List ℕ
  pub opened : new.bytes ≡ old.bytes ++ 1 ∷ rest
  pub stands : IsWritten new

-- what a seat has of another's log: how long that is, as it was handed in, and the first of its bytes
pub record Gathered : Type 0 where
  pub long : ℕ
  pub bytes : List ℕ

-- how far a seat is with its try: its vote goes to its log, or is there; a cut goes there, or the start with View 0;
-- or these are there
pub data Step : Type 0 where
  Votes : Step
  Voted : Step
  Cuts : Step
  Rises : Step
  Up : Step

-- a try to open an age: which, with which start, how far it is, and of whom it knows that their logs have the vote,
-- and that they have the start
pub record Trying : Type 0 where
  pub call : Call
  pub start : Start
  pub step : Step
  pub voted : ℕ
  pub up : ℕ

-- its member in an age: its door, and the words that it has pushed and that are sent together
pub record InAge : Type 0 where
  pub door : Lone
  pub batch : List Packet

pub record Sitting : Type 0 where
  -- what stands on its log, whatever comes; and what an append makes of it, while a call of that isn't answered
  pub log : Written
  pub coming : Option Written
  -- whether it was opened, and the sync of its log isn't answered yet
  pub opens : Bool
  -- how long its log is as it hands it in
  pub handed : Option ℕ
  -- what it has of each other's log
  pub hands : ℕ → Gathered
  pub try : Option Trying
  pub age : Option InAge

-- no call of its log waits for an answer
abbrev pub IsAtRest : Sitting → Type 0
IsAtRest s = (s.coming ≡ None) × (s.opens ≡ false)

-- nothing of a log
abbrev pub nothing : Gathered
nothing = record { long = 0; bytes = [] }

-- the seat was just opened over its log
pub record IsNewSitting (s : Sitting) : Type 0 where
  pub stands : IsWritten s.log
  pub coming : s.coming ≡ None
  pub opens : s.opens ≡ true
  pub handed : s.handed ≡ None
  pub hands : (k : ℕ) → s.hands k ≡ nothing
  pub try : s.try ≡ None
  pub age : s.age ≡ None

-- ---- what seats tell one another

pub data Said : Type 0 where
  -- it asks for the other's log
  Ask : Said
  -- a part of its own log, which has this length as it is handed in
  Hand : (long at : ℕ) → (part : List ℕ) → Said
  -- how far it is with a try
  Try : Call → Far → Said
  -- words of its member in an age, each with its place in the table
  Words : (age : ℕ) → (words : List Packet) → Said

-- a packet: who sends it, to whom, and what it says
pub record Sent : Type 0 where
  pub from : ℕ
  pub to : ℕ
  pub said : Said

-- how far it tells others to be
abbrev pub far_of : Step → Far
far_of Votes = fars.Chosen
far_of Voted = fars.Voted
far_of Cuts = fars.Voted
far_of Rises = fars.Voted
far_of Up = fars.Up

-- the word is one that the member has pushed: it is to be sent with others, or is the last one for its place
abbrev pub IsPushed : InAge → Packet → Type 0
IsPushed a p = Contains a.batch p
    ⊎ ((k : ℕ) × IsLastSent a.door k p.index × (p.word ≡ slice_index a.door.words p.index))

-- a seat may tell this: it is true of it
abbrev pub MayTell : Sitting → Said → Type 0
MayTell s Ask = ⊤
MayTell s (Hand long at part) =
    (s.handed ≡ Some long) × (at + length part < long) × (part ≡ take (length part) (drop at s.log.bytes))
MayTell s (Try call far) = (t : Trying) × (s.try ≡ Some t) × (call ≡ t.call) × (far ≡ far_of t.step)
MayTell s (Words age words) = (t : Trying) × (a : InAge) × (s.try ≡ Some t) × (s.age ≡ Some a)
    × (age ≡ t.call.age) × ((p : Packet) → Contains words p → IsPushed a p)

-- ---- an opening

-- a seat that gathers hands in its log
pub record HandsIn (old new : Sitting) : Type 0 where
  pub rest : IsAtRest old
  pub gathers : old.try ≡ None
  pub first : old.handed ≡ None
  pub made : new ≡ record old { handed = Some (long_of old.log) }

-- what it has of a log goes on by a part of it, from this place on; or it notes how long the log is, and leaves the
-- part
abbrev pub GoesOn : Gathered → ℕ → ℕ → List ℕ → Gathered → Type 0
GoesOn old long at part new = (old.long ≤ long) × (new.long ≡ long) × ((new.bytes ≡ old.bytes)
    ⊎ ((at ≡ length old.bytes) × (at + length part < long) × (new.bytes ≡ old.bytes ++ part)))

-- with this of member k's log
abbrev pub with_hand : (ℕ → Gathered) → ℕ → Gathered → ℕ → Gathered
with_hand hands k hand n = if n == k then hand else hands n

-- a part of another's log comes to a seat that gathers
pub record TakesHand (sent : List Sent) (me : ℕ) (old new : Sitting) : Type 0 where
  pub from : ℕ
  pub long : ℕ
  pub at : ℕ
  pub part : List ℕ
  pub told : Contains sent (record { from = from; to = me; said = Hand long at part })
  pub gathers : old.try ≡ None
  pub hand : Gathered
  pub goes_on : GoesOn (old.hands from) long at part hand
  pub made : new ≡ record old { hands = with_hand old.hands from hand }

-- it forgets what it has of a log
pub record Forgets (old new : Sitting) : Type 0 where
  pub member : ℕ
  pub made : new ≡ record old { hands = with_hand old.hands member nothing }

-- this stands on the log of member k of a call: its own log, or what it has of another's, all of it
abbrev pub IsReadOf : Sitting → ℕ → Call → ℕ → LogLists → Type 0
IsReadOf s me call k log = ((k ≡ me) × (log ≡ as_lists s.log.content))
    ⊎ ((k ≢ me) × ((s.hands k).long ≡ slice_index call.lengths k)
    × (length (s.hands k).bytes + 1 ≡ (s.hands k).long)
    × ((c : OnLog) × IsLogOf ((s.hands k).bytes ++ 0 ∷ []) c × (log ≡ as_lists c)))

-- a seat whose log is as it handed it in, and as long as in a call, votes for it: the logs of the call make the start
-- of its age, and the vote for that age goes to its log
pub record Casts (o : Opening) (me : ℕ) (old new : Sitting) : Type 0 where
  pub rest : IsAtRest old
  pub gathers : old.try ≡ None
  pub handed : old.handed ≡ Some (long_of old.log)
  pub call : Call
  pub inside : has call.set me ≡ true
  pub own : slice_index call.lengths me ≡ long_of old.log
  pub logs : List LogLists
  pub read : (k : ℕ) (log : LogLists) → has call.set k ≡ true → slice_get logs k ≡ Some log
      → IsReadOf old me call k log
  pub start : Start
  pub chosen : IsChosenStart o (of_set logs call.set) start
  pub present : start.present ≡ call.set
  pub members : start.members ≡ start.present
  pub age : start.age ≡ call.age
  pub next : Written
  pub grown : HasGrown old.log next
  pub content : next.content ≡ with_record (records.AgeVote (age_vote_of start)) old.log.content
  pub made : new ≡ record old {
    coming = Some next;
    try = Some (record { call = call; start = start; step = Votes; voted = 0; up = 0 });
  }

-- member k is so far
abbrev pub counted : ℕ → Far → Trying → Trying
counted k fars.Chosen t = t
counted k fars.Voted t = record t { voted = with_member t.voted k }
counted k fars.Up t = record t { voted = with_member t.voted k; up = with_member t.up k }

-- another of its try tells it how far it is
pub record Counts (sent : List Sent) (me : ℕ) (old new : Sitting) : Type 0 where
  pub try : Trying
  pub tries : old.try ≡ Some try
  pub no_age : old.age ≡ None
  pub from : ℕ
  pub far : Far
  pub told : Contains sent (record { from = from; to = me; said = Try try.call far })
  pub inside : has try.call.set from ≡ true
  pub made : new ≡ record old { try = Some (counted from far try) }

-- a log is cut back to what it and the start have in common, or is brought up to the start, with View 0 behind it
abbrev pub IsOnTheWay : Start → OnLog → Step → OnLog → Type 0
IsOnTheWay start old step new = (new.votes ≡ old.votes) × (new.age_votes ≡ old.age_votes)
    × MayBeBroughtUp start old.entries new.entries
    × ((step ≡ Cuts) ⊎ ((step ≡ Rises) × (new.entries ≡ start.entries ++ first_view_of start ∷ [])))

-- all have voted: this goes to its log
pub record Raises (old new : Sitting) : Type 0 where
  pub rest : IsAtRest old
  pub no_age : old.age ≡ None
  pub try : Trying
  pub tries : old.try ≡ Some try
  pub voted : try.step ≡ Voted
  pub all : try.voted ≡ try.call.set
  pub step : Step
  pub next : Written
  pub grown : HasGrown old.log next
  pub content : IsOnTheWay try.start old.log.content step next.content
  pub made : new ≡ record old { coming = Some next; try = Some (record try { step = step }) }

-- all are up: its member begins
pub record Begins (script : Script) (me : ℕ) (old new : Sitting) : Type 0 where
  pub rest : IsAtRest old
  pub no_age : old.age ≡ None
  pub try : Trying
  pub tries : old.try ≡ Some try
  pub up : try.step ≡ Up
  pub all : try.up ≡ try.call.set
  pub door : Lone
  pub begun : HasBegun script try.start 0 me door
  pub made : new ≡ record old { age = Some (record { door = door; batch = [] }) }

-- it gathers anew: what its member did in an age has ended
pub record Leaves (old new : Sitting) : Type 0 where
  pub made : new ≡ record old { handed = None; try = None; age = None }

-- ---- its log

-- what went to its log at this step is there
abbrev pub settled_by : ℕ → Trying → Step → Trying
settled_by me t Votes = record t { step = Voted; voted = with_member t.voted me }
settled_by me t Voted = t
settled_by me t Cuts = record t { step = Voted }
settled_by me t Rises = record t { step = Up; voted = with_member t.voted me; up = with_member t.up me }
settled_by me t Up = t

abbrev pub settled_step : ℕ → Trying → Trying
settled_step me t = settled_by me t t.step

-- so its try goes on, unless its member runs
abbrev pub settled_try : ℕ → Option InAge → Option Trying → Option Trying
settled_try me None try = option_map (settled_step me) try
settled_try me (Some a) try = try

-- and its member, if it runs
abbrev pub settled_age : Option InAge → Option InAge
settled_age age = option_map (λ (a : InAge). record { door = went_on a.door; batch = a.batch }) age

-- all calls of its last append are answered
pub record Settles (me : ℕ) (old new : Sitting) : Type 0 where
  pub runs : old.opens ≡ false
  pub next : Written
  pub coming : old.coming ≡ Some next
  pub made : new ≡ record old {
    log = next;
    coming = None;
    try = settled_try me old.age old.try;
    age = settled_age old.age;
  }

-- it stops, at any moment, and is opened anew over its log
pub record Stops (old new : Sitting) : Type 0 where
  pub made : new ≡ record {
    log = old.log;
    coming = old.coming;
    opens = true;
    handed = None;
    hands = λ k. nothing;
    try = None;
    age = None;
  }

-- its log is synced: it is the one from before its last append, or that with the append
pub record Synced (old new : Sitting) : Type 0 where
  pub opens : old.opens ≡ true
  pub log : Written
  pub either : (log ≡ old.log) ⊎ (old.coming ≡ Some log)
  pub made : new ≡ record old { log = log; coming = None; opens = false }

-- ---- an age

-- its member does a deed that concerns nobody else
pub record DoesAlone (old new : Sitting) : Type 0 where
  pub rest : IsAtRest old
  pub age : InAge
  pub runs : old.age ≡ Some age
  pub due : is_alone (next_deed age.door.member) ≡ true
  pub made : new ≡ record old { age = Some (record { door = done_alone age.door; batch = age.batch }) }

-- it pushes a word
pub record Pushes (old new : Sitting) : Type 0 where
  pub rest : IsAtRest old
  pub age : InAge
  pub runs : old.age ≡ Some age
  pub packet : Packet
  pub due : next_deed age.door.member ≡ deeds.Push packet.index packet.word
  pub made : new ≡ record old {
    age = Some (record { door = pushed_on age.door; batch = age.batch ++ packet ∷ [] });
  }

-- the words that were sent together are on their way
pub record Clears (old new : Sitting) : Type 0 where
  pub age : InAge
  pub runs : old.age ≡ Some age
  pub made : new ≡ record old { age = Some (record { door = age.door; batch = [] }) }

-- what it appends goes to its log
pub record Appends (old new : Sitting) : Type 0 where
  pub rest : IsAtRest old
  pub age : InAge
  pub runs : old.age ≡ Some age
  pub what : Record
  pub due : next_deed age.door.member ≡ deeds.Append what
  pub next : Written
  pub grown : HasGrown old.log next
  pub content : next.content ≡ with_record what old.log.content
  pub made : new ≡ record old { coming = Some next }

-- it gives a late member a letter, which nobody carries
pub record Gives (old new : Sitting) : Type 0 where
  pub rest : IsAtRest old
  pub age : InAge
  pub runs : old.age ≡ Some age
  pub late : ℕ
  pub due : next_deed age.door.member ≡ deeds.Give late
  pub made : new ≡ record old { age = Some (record { door = went_on age.door; batch = age.batch }) }

-- it asks for a letter, and none has come
pub record Asks (old new : Sitting) : Type 0 where
  pub rest : IsAtRest old
  pub age : InAge
  pub runs : old.age ≡ Some age
  pub due : next_deed age.door.member ≡ deeds.Take
  pub made : new ≡ record old { age = Some (record { door = after_asking None age.door; batch = age.batch }) }

-- one word after the other comes to a door
unfoldable pub came_all : Lone → List Packet → Lone
came_all door [] = door
came_all door (p ∷ ps) = came_all (came_to door p.index p.word) ps

-- words of its age come from another
pub record TakesWords (sent : List Sent) (me : ℕ) (old new : Sitting) : Type 0 where
  pub try : Trying
  pub tries : old.try ≡ Some try
  pub age : InAge
  pub runs : old.age ≡ Some age
  pub from : ℕ
  pub words : List Packet
  pub told : Contains sent (record { from = from; to = me; said = Words try.call.age words })
  pub made : new ≡ record old { age = Some (record { door = came_all age.door words; batch = age.batch }) }

-- ---- all that it does

-- the seat of this member of a script's group does something, to which these packets may have come
pub data Moves (script : Script) (sent : List Sent) (me : ℕ) (old new : Sitting) : Type 0 where
  hands_in : HandsIn old new → Moves script sent me old new
  takes_hand : TakesHand sent me old new → Moves script sent me old new
  forgets : Forgets old new → Moves script sent me old new
  casts : Casts (first_group_of script).opening me old new → Moves script sent me old new
  counts : Counts sent me old new → Moves script sent me old new
  raises : Raises old new → Moves script sent me old new
  begins : Begins script me old new → Moves script sent me old new
  leaves : Leaves old new → Moves script sent me old new
  settles : Settles me old new → Moves script sent me old new
  stops : Stops old new → Moves script sent me old new
  synced : Synced old new → Moves script sent me old new
  does_alone : DoesAlone old new → Moves script sent me old new
  pushes : Pushes old new → Moves script sent me old new
  clears : Clears old new → Moves script sent me old new
  appends : Appends old new → Moves script sent me old new
  gives : Gives old new → Moves script sent me old new
  asks : Asks old new → Moves script sent me old new
  takes_words : TakesWords sent me old new → Moves script sent me old new
