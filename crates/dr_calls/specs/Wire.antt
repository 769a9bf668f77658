-- Openings of ages over a wire: what members hand in of their logs, which calls they vote for, and what is on their
-- logs then.
use Rattle.std.specs.Prelude.{◌≡◌, ◌≢◌, ◌⊎◌, ℕ, zero, suc, ◌+◌, ◌<◌, ◌==◌, ◌&&◌, nat_le, if◌then◌else◌, true, List, [], ◌∷◌, ◌++◌, length, Contains, Option, None, Some, slice_get, slice_index}
use Rattle.dr_entry.specs.declared.{entry.Entry.Entry, record.AgeVote.AgeVote}
use Rattle.dr_history.specs.{Members.has, declared.opening.Opening.Opening}
use Rattle.dr_machine.specs.{Run.IsReached, World.World}
use Rattle.dr_restart.specs.{Choosing.{IsChosenStart, of_set}, Groups.group_of, Left.IsLeftByMember}
use Rattle.dr_restart.specs.Trying.{MayBeBroughtUp, age_vote_of}
use Rattle.dr_restart.specs.declared.{lists.LogLists.LogLists, start.Start.Start}
use Rattle.dr_script.specs.declared.script.Script.{Script}

-- a log that was handed in: whose it is, how long it was, and what stood on it
pub record Given : Type 0 where
  pub member : ℕ
  pub long : ℕ
  pub lists : LogLists

-- a call to a try: the members whose logs it goes by, how long each of these was, and the age that they make
pub record Called : Type 0 where
  pub set : ℕ
  pub lengths : List ℕ
  pub age : ℕ

-- a vote for a call: whose, of which logs by number the start was chosen, which that is, and what stood on its own log
-- before
pub record Voted : Type 0 where
  pub member : ℕ
  pub call : Called
  pub logs : List LogLists
  pub start : Start
  pub before : LogLists

-- a member: what stands on its log, how long that is, how long it was as it was handed in, and its vote since then
pub record Place : Type 0 where
  pub lists : LogLists
  pub long : ℕ
  pub handed : Option ℕ
  pub tries : Option Voted

-- the members by number, all logs that were ever handed in, all votes that were ever cast, the first one first, and the
-- calls in whose ages somebody has begun
pub record Wire : Type 0 where
  pub places : ℕ → Place
  pub given : List Given
  pub votes : List Voted
  pub ages : List Called

-- member m is so at the next moment, and the others are as before
pub record ComesTo (w : Wire) (m : ℕ) (p : Place) (next : Wire) : Type 0 where
  pub own : next.places m ≡ p
  pub others : (k : ℕ) → k ≢ m → next.places k ≡ w.places k

-- a member that gathers hands in its log
pub record HandsIn (w next : Wire) : Type 0 where
  pub member : ℕ
  pub waits : (w.places member).tries ≡ None
  pub comes : ComesTo w member (record {
    lists = (w.places member).lists;
    long = (w.places member).long;
    handed = Some (w.places member).long;
    tries = None;
  }) next
  pub given : next.given ≡ w.given ++ record {
    member = member;
    long = (w.places member).long;
    lists = (w.places member).lists;
  } ∷ []
  pub votes : next.votes ≡ w.votes
  pub ages : next.ages ≡ w.ages

-- these logs, of the members of a call, were handed in with the lengths in it
abbrev pub AreGiven : Wire → Called → List LogLists → Type 0
AreGiven w call logs = (k : ℕ) (log : LogLists) → has call.set k ≡ true → slice_get logs k ≡ Some log
    → Contains w.given (record { member = k; long = slice_index call.lengths k; lists = log })

-- the vote that a member casts
abbrev pub vote_of : Wire → ℕ → Called → List LogLists → Start → Voted
vote_of w m call logs start =
    record { member = m; call = call; logs = logs; start = start; before = (w.places m).lists }

-- all members of a call have voted for it
abbrev pub IsOpened : Wire → Called → Type 0
IsOpened w call = (k : ℕ) → has call.set k ≡ true
    → (v : Voted) × Contains w.votes v × (v.member ≡ k) × (v.call ≡ call)

-- a member whose log is as it was handed in, and as long as in the call, votes for it: the logs of the call make the
-- start of its age, and the log gets the vote for that age
pub record Votes (o : Opening) (w next : Wire) : Type 0 where
  pub member : ℕ
  pub call : Called
  pub start : Start
  pub logs : List LogLists
  pub waits : (w.places member).tries ≡ None
  pub handed : (w.places member).handed ≡ Some (w.places member).long
  pub inside : has call.set member ≡ true
  pub own : slice_index call.lengths member ≡ (w.places member).long
  pub given : AreGiven w call logs
  pub chosen : IsChosenStart o (of_set logs call.set) start
  pub present : start.present ≡ call.set
  pub members : start.members ≡ start.present
  pub age : start.age ≡ call.age
  pub long : ℕ
  pub longer : (w.places member).long < long
  pub comes : ComesTo w member (record {
    lists = record (w.places member).lists {
      age_votes = (w.places member).lists.age_votes ++ age_vote_of start ∷ [];
    };
    long = long;
    handed = Some (w.places member).long;
    tries = Some (vote_of w member call logs start);
  }) next
  pub stays : next.given ≡ w.given
  pub votes : next.votes ≡ w.votes ++ vote_of w member call logs start ∷ []
  pub ages : next.ages ≡ w.ages

-- the log of a member that has voted is brought up to the start, once all members of the call have voted
pub record Rises (w next : Wire) : Type 0 where
  pub member : ℕ
  pub vote : Voted
  pub tries : (w.places member).tries ≡ Some vote
  pub opened : IsOpened w vote.call
  pub entries : List Entry
  pub long : ℕ
  pub longer : (w.places member).long < long
  pub brought : MayBeBroughtUp vote.start vote.before.entries entries
  pub comes : ComesTo w member (record {
    lists = record (w.places member).lists { entries = entries };
    long = long;
    handed = (w.places member).handed;
    tries = Some vote;
  }) next
  pub given : next.given ≡ w.given
  pub votes : next.votes ≡ w.votes
  pub ages : next.ages ≡ w.ages

-- somebody begins in the age of a call for which all have voted
pub record Begins (w next : Wire) : Type 0 where
  pub call : Called
  pub opened : IsOpened w call
  pub places : (k : ℕ) → next.places k ≡ w.places k
  pub given : next.given ≡ w.given
  pub votes : next.votes ≡ w.votes
  pub ages : next.ages ≡ w.ages ++ call ∷ []

-- a member of an age that has begun puts something on its log. No vote for an age goes
pub record Runs (w next : Wire) : Type 0 where
  pub member : ℕ
  pub vote : Voted
  pub tries : (w.places member).tries ≡ Some vote
  pub runs : Contains w.ages vote.call
  pub lists : LogLists
  pub long : ℕ
  pub longer : (w.places member).long < long
  pub keeps : (x : AgeVote) → Contains (w.places member).lists.age_votes x → Contains lists.age_votes x
  pub comes : ComesTo w member (record {
    lists = lists;
    long = long;
    handed = (w.places member).handed;
    tries = Some vote;
  }) next
  pub given : next.given ≡ w.given
  pub votes : next.votes ≡ w.votes
  pub ages : next.ages ≡ w.ages

-- a member gathers anew, or comes back from a crash: its log is as before
pub record Leaves (w next : Wire) : Type 0 where
  pub member : ℕ
  pub comes : ComesTo w member (record {
    lists = (w.places member).lists;
    long = (w.places member).long;
    handed = None;
    tries = None;
  }) next
  pub given : next.given ≡ w.given
  pub votes : next.votes ≡ w.votes
  pub ages : next.ages ≡ w.ages

-- what may happen next
abbrev pub WireStep : Opening → Wire → Wire → Type 0
WireStep o w next =
    HandsIn w next ⊎ Votes o w next ⊎ Rises w next ⊎ Leaves w next ⊎ Begins w next ⊎ Runs w next

-- nothing was handed in yet, and nobody has voted
pub record IsNew (w : Wire) : Type 0 where
  pub waits : (m : ℕ) → (w.places m).tries ≡ None
  pub given : w.given ≡ []
  pub votes : w.votes ≡ []
  pub ages : w.ages ≡ []

-- what was before, the last first, from that on which begins
abbrev pub WireWay : Opening → Wire → List Wire → Wire → Type 0
WireWay o begun [] w = w ≡ begun
WireWay o begun (x ∷ xs) w = WireWay o begun xs x × WireStep o x w

-- a wire that has come from one that was new
abbrev pub IsRunSince : Opening → Wire → Wire → Type 0
IsRunSince o begun w = IsNew begun × ((before : List Wire) × WireWay o begun before w)

-- what stands on the logs of the first members
unfoldable pub lists_below : (ℕ → LogLists) → ℕ → List LogLists
lists_below f zero = []
lists_below f (suc n) = lists_below f n ++ f n ∷ []

-- what stands on the logs of the roster
abbrev pub logs_in : Opening → Wire → List LogLists
logs_in o w = lists_below (λ m. (w.places m).lists) (length o.messages)

-- what stood on the log of member m before the first of these votes that is its own and for an age from a on, or stands
-- there now
unfoldable pub stood : List Voted → ℕ → ℕ → LogLists → LogLists
stood [] a m now = now
stood (v ∷ vs) a m now = if v.member == m && nat_le a v.call.age then v.before else stood vs a m now

-- so of all votes that were cast
abbrev pub moment : Wire → ℕ → ℕ → LogLists
moment w a m = stood w.votes a m (w.places m).lists

-- the age of a call for which this vote was cast has come to this world, which has left what stands on the logs of its
-- members behind their votes
pub record HasCome (script : Script) (w : Wire) (v : Voted) (world : World) : Type 0 where
  pub reached : IsReached (group_of script v.start) world
  pub left : (m : ℕ) → has v.call.set m ≡ true
      → IsLeftByMember (group_of script v.start) world m (moment w (v.call.age + 1) m)

-- so have all ages in which somebody has begun
abbrev pub HaveCome : Script → Wire → Type 0
HaveCome script w = (v : Voted) → Contains w.votes v → Contains w.ages v.call
    → (world : World) × HasCome script w v world
