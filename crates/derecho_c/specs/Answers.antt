-- What calls on a seat tell.
use Rattle.std.specs.Prelude.{◌≡◌, ◌≢◌, ◌⊎◌, ℕ, zero, suc, ◌<◌, ◌≤◌, List, length, take, Option, None, Some}
use Rattle.dr_entry.specs.declared.entry.Entry.{Entry}
use Rattle.dr_seat.specs.Cards.{IsPlanOf, PlanOf}
use Rattle.dr_seat.specs.Opened.{IsOpenFault}
use Rattle.dr_seat.specs.Seats.{IsCallDone, IsNext, IsOpenedBy, IsRefused, IsSpent, SeatOf}
use Rattle.dr_seat.specs.Seats.{age_by, durable_by, history_of, logged_by, on_log, stage_of, turns_by}
use Rattle.dr_desk.specs.declared.Task.{Task}
use Rattle.dr_program.specs.Running.{end_by}
use Rattle.dr_program.specs.declared.outcome.LogWhy.{LogWhy}
use Rattle.dr_program.specs.declared.outcome.LogWhy.TheVariants as whys
use Rattle.dr_seat.specs.declared.due.Due.{Due}
use Rattle.dr_seat.specs.declared.due.Pending.TheVariants as kinds
use Rattle.dr_seat.specs.declared.faults.{OpenFault.OpenFault, Refused.Refused}
use Rattle.dr_seat.specs.declared.plan.PlanFault.{PlanFault}
use Rattle.derecho_c.specs.Codes.{open_code, plan_code, refusal_code}
use Rattle.derecho_c.specs.Told.{due_bytes, due_told, item_bytes, item_told, stage_number, why_numbers}
use Rattle.derecho_c.specs.declared.codes.TheConstants.{MEMORY, NO_ENTRY, OK, ROOM}
use Rattle.derecho_c.specs.declared.told.{CDue.CDue, CItem.CItem, CNeed.CNeed, CWhere.CWhere}

-- bytes are told whole at the front of a buffer, or there is too little room
pub record HaveRoom (said before after : List ℕ) (code : ℕ) : Type 0 where
  pub room : length before < length said → (code ≡ ROOM) × (after ≡ before)
  pub told : length said ≤ length before → (code ≡ OK) × (take (length said) after ≡ said)
  pub stays : code ≢ OK → after ≡ before

-- so many members and slots has the plan of a text
pub record IsNeedOf (text : List ℕ) (need : CNeed) : Type 0 where
  pub plan : PlanOf
  pub reads : IsPlanOf text plan
  pub members : need.members ≡ plan.script.members
  pub window : need.window ≡ plan.script.window

-- this is told of what is due in a seat
pub record TellsNext (old new : SeatOf) (due : CDue) (before after : List ℕ) (code : ℕ) : Type 0 where
  pub what : Due
  pub next : IsNext old new what
  pub told : due ≡ due_told what
  pub bytes : HaveRoom (due_bytes what) before after code

-- what was due is done: a call of its log's last append, or a packet
pub record IsDone (old new : SeatOf) : Type 0 where
  pub call : (task : Task) → old.duty.pending ≡ kinds.Task task → IsCallDone old new
  pub sent : (to : ℕ) → old.duty.pending ≡ kinds.Send to → IsSpent old new

-- what was due has failed: a call to its log, which ends the seat, or a packet, which is lost
pub record HasFailed (why : LogWhy) (old new : SeatOf) : Type 0 where
  pub call : (task : Task) → old.duty.pending ≡ kinds.Task task → new.book.stop ≡ Some (end_by why)
  pub lost : (to : ℕ) → old.duty.pending ≡ kinds.Send to → IsSpent old new

-- a log's file that is full has this length; else its disk failed
abbrev pub failure : ℕ → ℕ → LogWhy
failure zero length = whys.DiskFault
failure (suc full) length = whys.LogFull length

-- a packet is refused for something that has this number
pub record IsRefusedBy (s : SeatOf) (packet : List ℕ) (code : ℕ) : Type 0 where
  pub why : Refused
  pub number : code ≡ refusal_code why
  pub refused : IsRefused s packet why

-- this is told of where a seat stands
pub record TellsWhere (s : SeatOf) (told : CWhere) : Type 0 where
  pub stage : told.stage ≡ stage_number (stage_of s)
  pub me : told.me ≡ s.opening.role.me
  pub age : told.age ≡ age_by s.opening.trial
  pub turns : told.turns ≡ turns_by s.run
  pub entries : told.entries ≡ length (history_of s)
  pub logged : told.logged ≡ logged_by (on_log s).entries s.run
  pub durable : told.durable ≡ durable_by s.durable s.run
  pub why : told.why ≡ (why_numbers s.gathering.why).0
  pub first : told.first ≡ (why_numbers s.gathering.why).1
  pub second : told.second ≡ (why_numbers s.gathering.why).2
  pub third : told.third ≡ (why_numbers s.gathering.why).3

-- this is told of an entry, where there is one
abbrev pub TellsEntry : Option Entry → CItem → CItem → List ℕ → List ℕ → ℕ → Type 0
TellsEntry None item told before after code = (code ≡ NO_ENTRY) × ((told ≡ item) × (after ≡ before))
TellsEntry (Some entry) item told before after code =
    (told ≡ item_told entry) × HaveRoom (item_bytes entry) before after code

-- the seat was opened by the plan that a text has, on this card and this log
pub record IsOpenedByText (text card log : List ℕ) (s : SeatOf) : Type 0 where
  pub plan : PlanOf
  pub reads : IsPlanOf text plan
  pub opened : IsOpenedBy plan card log s

-- why no seat is opened by a text, a card and a log: the text is no plan; or else the card or the log isn't a seat's
-- of this plan; or memory was wanting
abbrev pub IsUnopened : List ℕ → List ℕ → List ℕ → ℕ → Type 0
IsUnopened text card log code = ((fault : PlanFault) × (code ≡ plan_code fault))
    ⊎ (((plan : PlanOf) × (fault : OpenFault) × (code ≡ open_code fault)
    × IsPlanOf text plan × IsOpenFault plan card log fault)
    ⊎ (code ≡ MEMORY))
