-- What always holds of the seats of a group: what is on their logs is what members leave that open ages over a wire,
-- and in each age the doors of its members run apart.
use Rattle.std.proofs.Common.{◌≡◌, ◌⊎◌, ℕ, ◌+◌, ◌<◌, true, List, [], ◌∷◌, ◌++◌, Contains, Option, None, Some, length, take, drop, slice_index}
use Rattle.dr_calls.specs.Wire.{AreGiven, Called, IsOpened, IsRunSince, Voted, Wire, moment}
use Rattle.dr_door.specs.{Apart.{Apart, IsRanApart}, Lone.Lone}
use Rattle.dr_door_logs.specs.Leaving.{IsLogOfDoor}
use Rattle.dr_entry.specs.declared.record.{Record.Record, Vote.Vote}
use Rattle.dr_history.specs.{History.IsPrefixOf, Members.has, declared.opening.Opening.Opening}
use Rattle.dr_kept.specs.Leaving.{HasJustLogged}
use Rattle.dr_log_bytes.specs.{Content.{OnLog, with_record}, Grammar.IsLogOf}
use Rattle.dr_opening.specs.Lists.{as_lists}
use Rattle.dr_packet.specs.declared.Call.{Call}
use Rattle.dr_packet.specs.declared.Far.{Far}
use Rattle.dr_packet.specs.declared.Far.TheVariants as fars
use Rattle.dr_program.specs.{Presence.present_at, Running.next_deed}
use Rattle.dr_program.specs.declared.deed.Deed.TheVariants as deeds
use Rattle.dr_program.specs.declared.packet.Packet.{Packet}
use Rattle.dr_restart.specs.{Choosing.{IsChosenStart, of_set}, Groups.first_group_of}
use Rattle.dr_restart.specs.Trying.{MayBeBroughtUp, age_vote_of, first_view_of}
use Rattle.dr_restart.specs.declared.{lists.LogLists.LogLists, start.Start.Start}
use Rattle.dr_seat_laws.specs.Seats.{Seats}
use Rattle.dr_seat_laws.specs.Sitting.{Gathered, HasGrown, InAge, IsWritten, Said, Sent, Sitting, Trying, Written, long_of}
use Rattle.dr_seat_laws.specs.Sitting.{Ask, Hand, Try, Words, Cuts, Rises, Up, Voted as HasTheVote, Votes as Casting}
use Rattle.dr_seat_laws.proofs.{Fresh.{Plan, fresh}, Wires.HasVoted}

-- a member whose log was brought up in the try of this call
pub record Risen : Type 0 where
  pub member : ℕ
  pub call : Called

-- the wire that the logs are on, for each vote the doors of the age of its call, and all whose logs were brought up
pub record Ghost : Type 0 where
  pub wire : Wire
  pub apart : Voted → Apart
  pub ups : List Risen

abbrev pub HasRisen : Ghost → ℕ → Called → Type 0
HasRisen g k c = Contains g.ups (record { member = k; call = c })

abbrev pub opening_of : Plan → Opening
opening_of p = (first_group_of p.script).opening

abbrev pub called : Call → Called
called call = record { set = call.set; lengths = call.lengths; age = call.age }

-- ---- logs

-- member k has handed in a log of this length: these bytes
pub record IsGivenAs (w : Wire) (k long : ℕ) (bytes : List ℕ) : Type 0 where
  pub content : OnLog
  pub stands : IsLogOf (bytes ++ 0 ∷ []) content
  pub size : length bytes + 1 ≡ long
  pub given : Contains w.given (record { member = k; long = long; lists = as_lists content })

-- a front part of the log of member k was handed in with this length
abbrev pub WasHandedIn : Wire → Written → ℕ → ℕ → List ℕ → Type 0
WasHandedIn w log k long bytes = IsGivenAs w k long bytes × IsPrefixOf bytes log.bytes

-- what a seat has of the log of member k is a front part of it
pub record IsHandKept (w : Wire) (log : Written) (k : ℕ) (h : Gathered) : Type 0 where
  pub front : IsPrefixOf h.bytes log.bytes
  pub given : 0 < h.long → (bs : List ℕ) × WasHandedIn w log k h.long bs

-- ---- votes and ages

-- all have voted for this call, and on the log of member k is what its door has left of this age
pub record IsUp (g : Ghost) (k : ℕ) (c : Called) : Type 0 where
  pub inside : has c.set k ≡ true
  pub opened : IsOpened g.wire c
  pub left : (v : Voted) → Contains g.wire.votes v → v.call ≡ c
      → IsLogOfDoor v.start.age (g.apart v) k (moment g.wire (c.age + 1) k)

-- what a seat knows of others in its try is so
pub record HaveTold (g : Ghost) (t : Trying) : Type 0 where
  pub voted : (k : ℕ) → has t.voted k ≡ true → HasVoted g.wire k (called t.call)
  pub up : (k : ℕ) → has t.up k ≡ true → HasRisen g k (called t.call)

-- the door of member m stands so in the age of this call
abbrev pub HasDoor : Ghost → ℕ → Called → Lone → Type 0
HasDoor g m c d = (v : Voted) → Contains g.wire.votes v → v.call ≡ c → present_at (g.apart v).doors m ≡ Some d

-- on a log stands just what this door has logged, behind votes of earlier ages
pub record IsServed (age : ℕ) (d : Lone) (log : OnLog) : Type 0 where
  pub base : OnLog
  pub earlier : (x : Vote) → Contains base.votes x → x.age < age
  pub just : HasJustLogged base d.member.replica log

-- ---- a seat

-- a seat in a try, whose log waits for no answer, and whose member doesn't run
pub record IsTrying (g : Ghost) (m : ℕ) (log : OnLog) (t : Trying) : Type 0 where
  pub vote : Voted
  pub tries : (g.wire.places m).tries ≡ Some vote
  pub call : vote.call ≡ called t.call
  pub start : vote.start ≡ t.start
  pub votes : log.votes ≡ vote.before.votes
  pub entries : MayBeBroughtUp vote.start vote.before.entries log.entries
  pub step : ((t.step ≡ HasTheVote) × (HasRisen g m vote.call → ⊥)) ⊎ ((t.step ≡ Up) × HasRisen g m vote.call
      × (log.entries ≡ vote.start.entries ++ first_view_of vote.start ∷ []))

-- a seat whose member runs
pub record IsRunning (g : Ghost) (m : ℕ) (log : OnLog) (t : Trying) (a : InAge) : Type 0 where
  pub vote : Voted
  pub tries : (g.wire.places m).tries ≡ Some vote
  pub call : vote.call ≡ called t.call
  pub start : vote.start ≡ t.start
  pub step : t.step ≡ Up
  pub began : Contains g.wire.ages vote.call
  pub door : HasDoor g m vote.call a.door
  pub batch : (v : Voted) → Contains g.wire.votes v → v.call ≡ vote.call
      → (p : Packet) → Contains a.batch p → Contains (g.apart v).sent p
  pub served : IsServed vote.start.age a.door log

-- what a seat has that has handed in its log, and is in no try
pub record IsHandedIn (w : Wire) (m : ℕ) (log : Written) (n : ℕ) : Type 0 where
  pub waits : (w.places m).tries ≡ None
  pub handed : (w.places m).handed ≡ Some n
  pub long : n ≡ long_of log

-- ---- what goes to a log

-- a vote
pub record VoteDue (o : Opening) (g : Ghost) (m : ℕ) (log : OnLog) (try : Option Trying) (age : Option InAge)
    (next : Written) : Type 0 where
  pub call : Called
  pub logs : List LogLists
  pub start : Start
  pub waits : (g.wire.places m).tries ≡ None
  pub handed : (g.wire.places m).handed ≡ Some (g.wire.places m).long
  pub inside : has call.set m ≡ true
  pub own : slice_index call.lengths m ≡ (g.wire.places m).long
  pub given : AreGiven g.wire call logs
  pub chosen : IsChosenStart o (of_set logs call.set) start
  pub present : start.present ≡ call.set
  pub members : start.members ≡ start.present
  pub same_age : start.age ≡ call.age
  pub content : as_lists next.content ≡ record (as_lists log) {
    age_votes = log.age_votes ++ age_vote_of start ∷ [];
  }
  pub no_age : age ≡ None
  pub same : (t : Trying) → try ≡ Some t
      → (call ≡ called t.call) × (start ≡ t.start) × (t.step ≡ Casting)

-- a cut, or the start and View 0
pub record RiseDue (g : Ghost) (m : ℕ) (log : OnLog) (try : Option Trying) (age : Option InAge)
    (next : Written) : Type 0 where
  pub vote : Voted
  pub tries : (g.wire.places m).tries ≡ Some vote
  pub opened : IsOpened g.wire vote.call
  pub below : HasRisen g m vote.call → ⊥
  pub entries : MayBeBroughtUp vote.start vote.before.entries next.content.entries
  pub votes : next.content.votes ≡ vote.before.votes
  pub stay : next.content.votes ≡ log.votes
  pub age_votes : next.content.age_votes ≡ log.age_votes
  pub no_age : age ≡ None
  pub same : (t : Trying) → try ≡ Some t → (vote.call ≡ called t.call) × (vote.start ≡ t.start)
      × ((t.step ≡ Cuts) ⊎ ((t.step ≡ Rises)
      × (next.content.entries ≡ vote.start.entries ++ first_view_of vote.start ∷ [])))

-- what the door of an age appends
pub record RunDue (g : Ghost) (m : ℕ) (log : OnLog) (try : Option Trying) (age : Option InAge)
    (next : Written) : Type 0 where
  pub vote : Voted
  pub tries : (g.wire.places m).tries ≡ Some vote
  pub began : Contains g.wire.ages vote.call
  pub door : Lone
  pub there : HasDoor g m vote.call door
  pub served : IsServed vote.start.age door log
  pub what : Record
  pub due : next_deed door.member ≡ deeds.Append what
  pub content : next.content ≡ with_record what log
  pub runs : (t : Trying) → try ≡ Some t → (a : InAge) × (age ≡ Some a)

abbrev pub IsDue : Opening → Ghost → ℕ → OnLog → Option Trying → Option InAge → Written → Type 0
IsDue o g m log try age next = VoteDue o g m log try age next ⊎ RiseDue g m log try age next
    ⊎ RunDue g m log try age next

-- all of a seat
pub record Sits (p : Plan) (seats : ℕ → Sitting) (g : Ghost) (m : ℕ) (sit : Sitting) : Type 0 where
  pub stands : IsWritten sit.log
  pub lists : (g.wire.places m).lists ≡ as_lists sit.log.content
  pub long : (g.wire.places m).long ≡ long_of sit.log
  pub hands : (k : ℕ) → IsHandKept g.wire (seats k).log k (sit.hands k)
  pub handed : (n : ℕ) → sit.handed ≡ Some n → (bs : List ℕ) × WasHandedIn g.wire sit.log m n bs
  pub gathers : (n : ℕ) → sit.coming ≡ None → sit.handed ≡ Some n → sit.try ≡ None → IsHandedIn g.wire m sit.log n
  pub tries : (t : Trying) → sit.coming ≡ None → sit.try ≡ Some t → sit.age ≡ None → IsTrying g m sit.log.content t
  pub runs : (a : InAge) → sit.age ≡ Some a → (t : Trying) × (sit.try ≡ Some t) × IsRunning g m sit.log.content t a
  pub told : (t : Trying) → sit.try ≡ Some t → HaveTold g t
  pub due : (next : Written) → sit.coming ≡ Some next → HasGrown sit.log next
      × IsDue (opening_of p) g m sit.log.content sit.try sit.age next
  pub left : (next : Written) (n : ℕ) → sit.coming ≡ Some next → sit.try ≡ None → sit.handed ≡ Some n → ⊥
  pub opens : sit.opens ≡ true → (sit.try ≡ None) × (sit.age ≡ None) × (sit.handed ≡ None)

-- ---- packets

-- how far a member says it is with a try it is
abbrev pub IsSoFar : Ghost → ℕ → Called → Far → Type 0
IsSoFar g k c fars.Chosen = Unit {0}
IsSoFar g k c fars.Voted = HasVoted g.wire k c
IsSoFar g k c fars.Up = HasVoted g.wire k c × HasRisen g k c

-- words were pushed in an age that has begun
pub record WerePushed (g : Ghost) (age : ℕ) (words : List Packet) : Type 0 where
  pub call : Called
  pub began : Contains g.wire.ages call
  pub same : call.age ≡ age
  pub member : ℕ
  pub inside : has call.set member ≡ true
  pub sent : (v : Voted) → Contains g.wire.votes v → v.call ≡ call
      → (p : Packet) → Contains words p → Contains (g.apart v).sent p

-- what a packet says is so
abbrev pub IsSo : Seats → Ghost → ℕ → Said → Type 0
IsSo s g k Ask = Unit {0}
IsSo s g k (Hand long at part) = (bs : List ℕ) × WasHandedIn g.wire (s.seats k).log k long bs
    × (at + length part < long) × (part ≡ take (length part) (drop at bs))
IsSo s g k (Try call far) = IsSoFar g k (called call) far
IsSo s g k (Words age words) = WerePushed g age words

-- ---- all seats

-- member k hasn't begun in the age of the call
abbrev pub IsIdle : Seats → Ghost → Called → ℕ → Type 0
IsIdle s g c k = ((u : Voted) → Contains g.wire.votes u → u.member ≡ k → u.call ≡ c → ⊥)
    ⊎ (((s.seats k).age ≡ None) × ((t : Trying) × ((s.seats k).try ≡ Some t) × (called t.call ≡ c)))

-- the logs as they were as all seats were new
abbrev pub new_wire : Seats → Wire
new_wire s = record {
  places = λ m. record {
    lists = as_lists (s.seats m).log.content;
    long = long_of (s.seats m).log;
    handed = None;
    tries = None;
  };
  given = [];
  votes = [];
  ages = [];
}

pub record Holds (p : Plan) (new s : Seats) (g : Ghost) : Type 0 where
  pub run : IsRunSince (opening_of p) (new_wire new) g.wire
  pub sits : (m : ℕ) → Sits p s.seats g m (s.seats m)
  pub sent : (x : Sent) → Contains s.sent x → IsSo s g x.from x.said
  pub ups : (k : ℕ) (c : Called) → HasRisen g k c → IsUp g k c
  pub ages : (c : Called) → Contains g.wire.ages c → (k : ℕ) → has c.set k ≡ true → HasRisen g k c
  pub ran : (v : Voted) → Contains g.wire.votes v → IsRanApart (fresh p v.start) (g.apart v)
  pub idle : (v : Voted) (k : ℕ) → Contains g.wire.votes v → IsIdle s g v.call k
      → present_at (g.apart v).doors k ≡ present_at (fresh p v.start).doors k
