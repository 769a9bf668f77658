-- What a seat is about, and which of its calls do something.
use Rattle.std.specs.Prelude.{◌≡◌, ◌≢◌, ◌⊎◌, ⊤, ℕ, ◌+◌, ◌-◌, ◌^◌, ◌<◌, Bool, false, true, is_some, max, min, List, length, Option, None, Some, slice_get, slice_range}
use Rattle.dr_desk.specs.declared.Task.TheVariants as tasks
use Rattle.dr_entry.specs.declared.{end.End.End, entry.Entry.Entry}
use Rattle.dr_history.specs.Members.{has}
use Rattle.dr_log_bytes.specs.{Content.OnLog, Grammar.StandFor}
use Rattle.dr_packet.specs.Packets.{IsFault, IsPacket}
use Rattle.dr_packet.specs.declared.{Says.Says, Way.Way, reading.PacketFault.PacketFault}
use Rattle.dr_packet.specs.declared.Says.TheVariants as say
use Rattle.dr_words.specs.Masks.{IsMajorityOf, without}
use Rattle.dr_seat.specs.{Cards.{IsCardOf, PlanOf}, Openings.{OpeningOf, set_by}, Duties.{CanFail, HasNumber, IsDueOn}, Roles.{IsMine, others_of, roster_of}, Words.{AreFit, IsFirstUnfit}}
use Rattle.dr_seat.specs.declared.{book.Book.Book, due.{Due.Due, Duty.Duty, Stage.Stage}, faults.Refused.Refused, gathering.Gathering.Gathering, post.Post.Post, run.Run.Run, trial.Trial.Trial}
use Rattle.dr_seat.specs.declared.due.Due.TheVariants as due
use Rattle.dr_seat.specs.declared.due.Pending.TheVariants as pending
use Rattle.dr_seat.specs.declared.due.Stage.TheVariants as stages
use Rattle.dr_seat.specs.declared.faults.Refused.TheVariants as why

-- a seat: whose it is, and its try; its log; what it gathers; its member, while an age runs here; what it is to send;
-- what is due; whether the end of its log was told; its ticks; and how many entries were durable in the ages before
pub record SeatOf : Type 0 where
  pub opening : OpeningOf
  pub book : Book
  pub gathering : Gathering
  pub run : Option Run
  pub post : Post
  pub duty : Duty
  pub is_end_told : Bool
  pub ticks : ℕ
  pub durable : ℕ

-- nothing is due
abbrev pub IsFree : SeatOf → Type 0
IsFree s = s.duty.pending ≡ pending.Nothing

-- something with this number is due
pub record IsDue (s : SeatOf) (number : ℕ) : Type 0 where
  pub some : s.duty.pending ≢ pending.Nothing
  pub same : number ≡ s.duty.number

-- something with this number is due that may fail
abbrev pub MayFail : SeatOf → ℕ → Type 0
MayFail s number = IsDue s number × CanFail s.duty.pending

-- its log hasn't failed
abbrev pub IsOpen : SeatOf → Type 0
IsOpen s = s.book.stop ≡ None

-- it is in no try and in no age
pub record Gathers (s : SeatOf) : Type 0 where
  pub no_try : s.opening.trial ≡ None
  pub no_age : s.run ≡ None

-- what is on its log
abbrev pub on_log : SeatOf → OnLog
on_log s = s.book.log.content

-- calls of its log's last append are to be done
abbrev pub AwaitsLog : SeatOf → Type 0
AwaitsLog s = slice_get s.book.log.disk.tasks s.book.done ≢ None

-- What was due still is, by the same number and with the same bytes, and nothing else is. While a call is to be done
-- to its log, no record goes there.
pub record KeepsDue (old new : SeatOf) : Type 0 where
  pub duty : new.duty ≡ old.duty
  pub packet : new.post.packet ≡ old.post.packet
  pub log : AwaitsLog old → new.book ≡ old.book

-- one call more of the last append of its log is done; the log hasn't failed by it
pub record IsCallDone (old new : SeatOf) : Type 0 where
  pub log : new.book.log ≡ old.book.log
  pub stop : new.book.stop ≡ old.book.stop
  pub done : new.book.done ≡ min (old.book.done + 1) (2 ^ 64 - 1)

-- the packet that was due is no longer, as it is on its way or lost; nothing else has changed
abbrev pub IsSpent : SeatOf → SeatOf → Type 0
IsSpent old new = new ≡ record old { post = record old.post { packet = new.post.packet }; duty = new.duty }

-- last words may be told once more to this member: it is another one of those in the age that runs here, or has ended
pub record MayTellAgain (s : SeatOf) (to : ℕ) : Type 0 where
  pub runs : is_some s.run ≡ true
  pub within : to < s.opening.role.script.members
  pub other : to ≢ s.opening.role.me
  pub there : has (others_of s.opening.role (set_by s.opening.trial)) to ≡ true

-- an opening may go without these members: its log hasn't failed, its own member isn't among them, and the others are
-- a majority
abbrev pub MayGoWithout : SeatOf → ℕ → Type 0
MayGoWithout s missing = IsOpen s × ((has missing s.opening.role.me ≡ false)
    × IsMajorityOf (without (roster_of s.opening.role) missing) (roster_of s.opening.role))

-- ---- what it tells

-- this is told of what is due
abbrev pub IsTold : SeatOf → Due → Type 0
IsTold s (due.Write number at bytes) = (to : ℕ)
    × (s.duty ≡ record { pending = pending.Task (tasks.Write at to); number = number })
    × (bytes.now ≡ slice_range s.book.log.disk.disk.state.content at to)
IsTold s (due.Sync number) = s.duty ≡ record { pending = pending.Task tasks.Sync; number = number }
IsTold s (due.Send number to packet) =
    (s.duty ≡ record { pending = pending.Send to; number = number }) × (packet.now ≡ s.post.packet.items)
IsTold s (due.End number end) = s.duty ≡ record { pending = pending.End end; number = number }
IsTold s due.Wait = IsFree s

-- this is told of what is due, which is what was due before, if anything was, and else has the next number; a call
-- that has come to be due is the next one of the last append of its log
pub record IsNext (old new : SeatOf) (told : Due) : Type 0 where
  pub tells : IsTold new told
  pub same : ¬ IsFree old → new ≡ old
  pub number : IsFree old → HasNumber (old.duty.number + 1) told
  pub on : IsFree old → IsDueOn new.book new.duty.pending

-- the history of a member that runs, else the entries on its log
abbrev pub history_by : List Entry → Option Run → List Entry
history_by entries None = entries
history_by entries (Some run) = run.door.member.replica.history

abbrev pub history_of : SeatOf → List Entry
history_of s = history_by (on_log s).entries s.run

abbrev pub logged_by : List Entry → Option Run → ℕ
logged_by entries None = length entries
logged_by entries (Some run) = run.door.member.replica.logged

abbrev pub durable_by : ℕ → Option Run → ℕ
durable_by before None = before
durable_by before (Some run) = max before run.door.member.replica.durable

abbrev pub turns_by : Option Run → ℕ
turns_by None = 0
turns_by (Some run) = run.door.member.replica.turns

abbrev pub age_by : Option Trial → ℕ
age_by None = 0
age_by (Some trial) = trial.call.age

-- a member runs until it has ended its age
abbrev pub running_stage : Option End → Stage
running_stage None = stages.Runs
running_stage (Some end) = stages.Ended

abbrev pub stage_by : Option End → Option Run → Option Trial → Stage
stage_by (Some end) run trial = stages.Broken
stage_by None (Some run) trial = running_stage run.door.member.replica.end
stage_by None None (Some trial) = stages.Tries
stage_by None None None = stages.Gathers

abbrev pub stage_of : SeatOf → Stage
stage_of s = stage_by s.book.stop s.run s.opening.trial

-- ---- how it is opened

-- it is the seat of the member of the plan whose card this is, with what this log has, and gathers
pub record IsOpenedBy (plan : PlanOf) (card log : List ℕ) (s : SeatOf) : Type 0 where
  pub script : s.opening.role.script ≡ plan.script
  pub digest : s.opening.role.seal.plan ≡ plan.digest
  pub member : IsCardOf card s.opening.role.seal.group plan.digest s.opening.role.me
  pub content : StandFor log (on_log s)
  pub newer : (on_log s).newer ≡ true
  pub gathers : Gathers s
  pub whole : IsOpen s
  pub free : IsFree s

-- ---- what it refuses

-- the age in which its member runs, or has ended
abbrev pub age_run_by : Option Run → Option Trial → Option ℕ
age_run_by None trial = None
age_run_by (Some run) None = None
age_run_by (Some run) (Some trial) = Some trial.call.age

abbrev pub age_run : SeatOf → Option ℕ
age_run s = age_run_by s.run s.opening.trial

-- these words of a member in this age are refused: another age runs, or its door refuses one of them
abbrev pub AreUnfit : SeatOf → ℕ → ℕ → List ℕ → Refused → Type 0
AreUnfit s from age words fault = ((fault ≡ why.OtherAge age) × (age_run s ≢ Some age))
    ⊎ ((run : Run) × (s.run ≡ Some run) × (age_run s ≡ Some age) × IsFirstUnfit run.door from words fault)

-- these words of a member in this age are taken: it runs here, and its door takes each of them
abbrev pub AreFitHere : SeatOf → ℕ → ℕ → List ℕ → Type 0
AreFitHere s from age words =
    (run : Run) × (s.run ≡ Some run) × (age_run s ≡ Some age) × AreFit run.door from words

-- what another member says is heard: all but words that aren't taken
abbrev pub IsHeard : SeatOf → ℕ → Says → Type 0
IsHeard s from (say.Words age words) = AreFitHere s from age words.now
IsHeard s from says = ⊤

-- bytes are taken: they are a packet of its group and plan for its member, whose log hasn't failed, and heard
abbrev pub IsTaken : SeatOf → List ℕ → Type 0
IsTaken s bytes = (way : Way) × (says : Says) × IsPacket s.opening.role.seal bytes way says
    × IsMine s.opening.role way × IsOpen s × IsHeard s way.from says

-- what another member says is refused: its words are unfit, or memory was wanting for a part of its log
abbrev pub IsUnheard : SeatOf → ℕ → Says → Refused → Type 0
IsUnheard s from (say.Ask whole at) fault = ⊥
IsUnheard s from (say.Hand whole at bytes) fault = fault ≡ why.OutOfMemory
IsUnheard s from (say.Try call far) fault = ⊥
IsUnheard s from (say.Words age words) fault = AreUnfit s from age words.now fault

-- a packet of its group and plan is refused: it isn't for its member, or that has ended, or else for what it says
abbrev pub IsUnfit : SeatOf → Way → Says → Refused → Type 0
IsUnfit s way says fault = ((fault ≡ why.NotMine) × ¬ IsMine s.opening.role way)
    ⊎ (IsMine s.opening.role way × (((fault ≡ why.Ended) × ¬ IsOpen s)
    ⊎ (IsOpen s × IsUnheard s way.from says fault)))

-- bytes are refused: they are no packet of its group and plan, or this one is refused
abbrev pub IsRefused : SeatOf → List ℕ → Refused → Type 0
IsRefused s bytes fault =
    ((cause : PacketFault) × (fault ≡ why.Packet cause) × IsFault s.opening.role.seal bytes cause)
    ⊎ ((way : Way) × (says : Says) × IsPacket s.opening.role.seal bytes way says × IsUnfit s way says fault)
