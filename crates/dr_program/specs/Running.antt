-- A running member: a replica that goes through its turn, place by place, and does at each what there is to
-- do.
use Rattle.std.specs.{List.{find, list_any}, Option.{option_map, option_or}}
use Rattle.std.specs.Prelude.{◌≡◌, ◌⊎◌, ℕ, zero, suc, ◌+◌, ◌-◌, ◌==◌, ◌&&◌, ◌||◌, Bool, not, true, if◌then◌else◌, List, length, slice_index_or, Option, None, Some, is_some, unwrap_or}
use Rattle.dr_entry.specs.{declared.{end.End.End, entry.Entry.{Entry, TheVariants.View}}, declared.record.Value.Value}
use Rattle.dr_entry.specs.declared.record.Record.TheVariants as records
use Rattle.dr_entry.specs.declared.end.End.TheVariants as ends
use Rattle.dr_rows.specs.Words.{own, changed, looked}
use Rattle.dr_suspect.specs.{Answers.least_where, Suspicion.{names_me, spread_of}}
use Rattle.dr_suspect.specs.{Waits.{Waits, begun, compared, is_overdue}, Wishes.may_wish}
use Rattle.dr_words.specs.Columns.{columns_of}
use Rattle.dr_program.specs.{Acts.leaves_view, declared.{deed.Deed.Deed, place.Part.Part}}
use Rattle.dr_program.specs.Replica.{Replica, begun_replica, joined, me, is_other, is_others, has_majority, is_wedged, may_suspect, suspicion_of, unsuspected, value_due, vote_of}
use Rattle.dr_program.specs.{Steps.{allows, stepped, index_in}, declared.{place.Place.Place, setup.Setup.Setup}}
use Rattle.dr_program.specs.{Turn.{part_of, after, is_beat, places_in, turn_ends}, declared.setup.Suspicion.Suspicion}
use Rattle.dr_program.specs.declared.{outcome.LogWhy.LogWhy, place.TheConstants.TURN, setup.CrashPoint.CrashPoint}
use Rattle.dr_program.specs.declared.outcome.LogWhy.TheVariants as whys
use Rattle.dr_program.specs.declared.place.Part.TheVariants as parts
use Rattle.dr_machine.specs.{Effects.one_more, declared.{event.Act.Act, step.Step.Step}}
use Rattle.dr_machine.specs.declared.event.Act.TheVariants as acts
use Rattle.dr_machine.specs.declared.step.Step.TheVariants as steps
use Rattle.dr_program.specs.declared.deed.Deed.TheVariants as deeds

pub record Running : Type 0 where
  -- the replica
  pub replica : Replica
  -- where it stands in its turn
  pub place : Place
  -- after how many turns it ends
  pub limit : ℕ
  -- how long it has waited for news of others, and for how long it does
  pub waits : Waits
  -- where it crashes, and whom it suspects in which turn, by its script
  pub crashes : List CrashPoint
  pub suspicions : List Suspicion
  -- how many pushes it has done in this turn
  pub pushes : ℕ
  -- why an append to its log failed, if one did: its next act is its end
  pub failed : Option LogWhy

-- a member as its age opens, before its first deed
abbrev pub begun_running : Setup → Running
begun_running s = record {
  replica = begun_replica s;
  place = record { part = length TURN - 1; row = 0; column = 0 };
  limit = s.turns;
  waits = begun s.patience;
  crashes = s.crashes;
  suspicions = s.suspicions;
  pushes = 0;
  failed = None;
}

-- a crash point names this turn, and just this push of it
abbrev pub is_in_turn : ℕ → CrashPoint → Bool
is_in_turn turn c = c.turn == turn

abbrev pub is_at_push : ℕ → ℕ → CrashPoint → Bool
is_at_push turn push c = (c.turn == turn) && (c.push == push)

-- whether it crashes just before its next push, and whether it crashes in this turn
abbrev pub crashes_now : Running → Bool
crashes_now r = list_any (is_at_push r.replica.turns r.pushes) r.crashes

abbrev pub crashes_in_turn : Running → Bool
crashes_in_turn r = list_any (is_in_turn r.replica.turns) r.crashes

-- a push, or the end of a member that crashes just before it
abbrev pub push_or_crash : Bool → ℕ → ℕ → Step
push_or_crash crashes i c = if crashes then steps.Do (acts.Crash ends.Crashed) else steps.Push i c

-- the end of a member whose append failed
abbrev pub end_by : LogWhy → End
end_by whys.DiskFault = ends.DiskFault
end_by (whys.LogFull len) = ends.LogFull len

-- an append, or the end of a member whose append has failed
abbrev pub append_or_end : Option LogWhy → Step
append_or_end None = steps.Append
append_or_end (Some why) = steps.Do (acts.Crash (end_by why))

-- a vote, or that end
abbrev pub vote_or_end : Option LogWhy → Value → Step
vote_or_end None v = steps.LogVote v
vote_or_end (Some why) v = steps.Do (acts.Crash (end_by why))

-- the member that the script has it suspect next in this turn, if any: the first in the script's order that
-- it may suspect
abbrev pub is_scripted : Replica → Suspicion → Bool
is_scripted r s = (s.turn == r.turns) && may_suspect r s.other

abbrev pub scripted : Running → Option ℕ
scripted r = option_map (λ (s : Suspicion). s.other) (find (is_scripted r.replica) r.suspicions)

-- the least unsuspected row that says that its member suspects this one, if any does
abbrev pub named_by : Replica → Option ℕ
named_by r = least_where (names_me (suspicion_of r) r.rows)

-- the member that the rows have it suspect or wish for next, if any, and the least one that it has waited for too
-- long
abbrev pub told : Replica → Option ℕ
told r = spread_of (suspicion_of r) (may_wish r.history r.age r.late) r.rows

abbrev pub overdue : Running → Option ℕ
overdue r = least_where (is_overdue r.waits r.replica.rows (unsuspected r.replica))

-- the end of a wedged member that is left with no majority
abbrev pub minority : Replica → Option Act
minority r =
    if is_wedged r && not (has_majority r) then Some (acts.Halt (ends.NoMajority (unsuspected r))) else None

-- what the member judges, once it has looked at the others: the first of these that comes up
abbrev pub judgement : Running → Option Act
judgement r =
    option_or (option_map (λ by. acts.Halt (ends.Suspected by)) (named_by r.replica))
    (option_or (option_map acts.Suspect (scripted r))
    (option_or (option_map acts.Suspect (told r.replica))
    (option_or (option_map acts.Suspect (overdue r)) (minority r.replica))))

-- that act, and where nothing comes up the suspicion of itself, which it may not have
abbrev pub judged : Running → Act
judged r = unwrap_or (judgement r) (acts.Suspect (me r.replica))

-- the step that is due at a part of the turn, in a row and a column of it
abbrev pub step_at : Running → Part → ℕ → ℕ → Step
step_at r parts.Look i c = steps.Look i c
step_at r parts.Judge i c = steps.Do (judged r)
step_at r parts.Receive i c = steps.Do (acts.Receive i)
step_at r parts.Append i c = append_or_end r.failed
step_at r parts.Vote i c = vote_or_end r.failed (value_due r.replica)
step_at r parts.Push i c = push_or_crash (crashes_now r) i c
step_at r parts.Crash i c = steps.Do (acts.Crash ends.Crashed)
step_at r parts.Excluded i c = steps.Do (acts.Halt (ends.Excluded (r.replica.view + 1)))
step_at r parts.Done i c = steps.Do (acts.Halt ends.Done)
step_at r parts.Spent i c = steps.Do (acts.Crash (ends.Spent r.replica.turns))
step_at r parts.Give i c = steps.Welcome i
step_at r parts.Take i c = steps.Join
step_at r (parts.Do a) i c = steps.Do a

-- what a part asks besides what its step does
abbrev pub asks : Running → Part → ℕ → ℕ → Bool
asks r parts.Push i c = is_other r.replica i && changed r.replica.rows i c
asks r parts.Crash i c = crashes_in_turn r
asks r parts.Spent i c = r.replica.turns == r.limit
asks r part i c = true

-- a vote waits only where the member is to propose it, or to accept it as another's
abbrev pub WaitsAt : Running → Part → Type 0
WaitsAt r part = (r.replica.pending ≡ None) ⊎ ((part ≡ parts.Do acts.Propose)
    ⊎ ((part ≡ parts.Do acts.Accept) × (is_others (me r.replica) r.replica.pending ≡ true)))

-- the step that is due at a place, and whether there is something to do there
abbrev pub step_of : Running → Place → Step
step_of r p = step_at r (part_of p) p.row p.column

abbrev pub applies : Running → Place → Bool
applies r p = asks r (part_of p) p.row p.column && allows r.replica (step_of r p)

-- the numbers of members and of columns
abbrev pub members : Running → ℕ
members r = r.replica.roster

abbrev pub columns : Running → ℕ
columns r = columns_of r.replica.roster r.replica.window

-- the member at the next place
abbrev pub moved : Running → Running
moved r = record r { place = after (members r) (columns r) r.place }

-- on to the first place, from here on, at which there is something to do, over at most so many places; a
-- member that has ended stays
unfoldable pub settle : ℕ → Running → Running
settle zero r = r
settle (suc k) r = if is_some r.replica.end || applies r r.place then r else settle k (moved r)

-- the member at the first place, from here on, at which there is something to do
abbrev pub settled : Running → Running
settled r = settle (places_in (members r) (columns r) TURN) r

-- where the member stands after a deed of a part: each deed of some is done once, publishing goes back, and
-- others may be repeated
abbrev pub goes : ℕ → ℕ → Part → Place → Place
goes n k parts.Look p = after n k p
goes n k parts.Append p = after n k p
goes n k parts.Vote p = after n k p
goes n k (parts.Do acts.Publish) p = record p { part = p.part - 1 }
goes n k parts.Push p = after n k p
goes n k parts.Take p = turn_ends
goes n k part p = if is_beat part then after n k p else p

-- the pushes of the turn after a step
abbrev pub pushes_after : ℕ → Step → ℕ
pushes_after pushes (steps.Push j c) = one_more 32 pushes
pushes_after pushes (steps.Do a) = if is_beat (parts.Do a) then 0 else pushes
pushes_after pushes s = pushes

-- how long it has waited after a step: with the last word of a row, its beat is compared with that of the
-- turn before. In a new view it waits anew
abbrev pub waits_after : ℕ → Running → Step → Waits
waits_after word r (steps.Look i c) =
    if c + 1 == columns r then compared r.waits (looked r.replica.rows i c word) i
    else r.waits
waits_after word r (steps.Do a) = if leaves_view a then begun r.waits.limit else r.waits
waits_after word r steps.Join = begun r.waits.limit
waits_after word r s = r.waits

-- the member after a step, with the word that it saw, before and after the search
abbrev pub took : ℕ → Running → Step → Running
took word r s = record r {
  replica = stepped word r.replica s;
  place = goes (members r) (columns r) (part_of r.place) r.place;
  pushes = pushes_after r.pushes s;
  waits = waits_after word r s;
}

abbrev pub next_step : Running → Step
next_step r = step_of r r.place

-- the member, which has not ended, asks for its letter
pub record AsksForLetter (r : Running) : Type 0 where
  pub unended : r.replica.end ≡ None
  pub due : next_step r ≡ steps.Join

abbrev pub after_step : ℕ → Running → Running
after_step word r = settled (took word r (next_step r))

-- the member after a take: where it finds a letter, it joins and waits anew
abbrev pub took_letter : Option (List Entry) → Running → Running
took_letter None r = record r { place = turn_ends }
took_letter (Some letter) r = record r {
  replica = joined r.replica letter;
  place = turn_ends;
  waits = begun r.waits.limit;
}

-- the member after an append that failed: it stays where it is
abbrev pub broken_off : LogWhy → Running → Running
broken_off why r = record r { failed = Some why }

-- the deed that a step is: what is done to the table or to the log
abbrev pub deed_of : Running → Step → Deed
deed_of r (steps.Do a) = deeds.Act (index_in r.replica (me r.replica) (me r.replica) 0)
    (one_more 64 r.replica.acts)
deed_of r (steps.Look i c) = deeds.Look (index_in r.replica (me r.replica) i c)
deed_of r (steps.Push j c) = deeds.Push (index_in r.replica j (me r.replica) c) (own r.replica.rows c)
deed_of r steps.Append = deeds.Append
    (records.Entry (slice_index_or r.replica.history r.replica.logged (View 0 0 0)))
deed_of r (steps.LogVote v) = deeds.Append (records.Vote (vote_of r.replica v))
deed_of r (steps.Welcome j) = deeds.Give j
deed_of r steps.Join = deeds.Take

-- the next deed of the member
abbrev pub deed : Running → Option End → Deed
deed r None = deed_of r (next_step r)
deed r (Some end) = deeds.Rest end

abbrev pub next_deed : Running → Deed
next_deed r = deed r r.replica.end
