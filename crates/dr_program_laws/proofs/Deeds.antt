-- A deed leads a member from where it stands so to where it does again.
use Rattle.std.{specs.{List.list_any, Prelude.{Option, None, Some}}, proofs.lemmas.Bool.and_parts}
use Rattle.std.proofs.Common.{◌≡◌, inl, inr, refl, sym, ap, ◌∙◌, subst, ℕ, Bool, true, false, List, arith}
use Rattle.dr_entry.{specs.declared.entry.Entry.Entry, proofs.NumberFacts.spent_at}
use Rattle.dr_machine.{specs.declared.{event.Act.Act, step.Step.Step}, proofs.Ends.is_verdict}
use Rattle.dr_machine.specs.declared.step.Step.TheVariants as steps
use Rattle.dr_program.specs.{Acts.taken, Form.IsRunningMember, Program.{after_deed, next_sight}, Replica.value_due}
use Rattle.dr_program.specs.Running.{Running, append_or_end, asks, begun_running, columns, crashes_now, end_by, is_at_push, is_in_turn, judged, members, next_step, push_or_crash, pushes_after, step_at, took_letter, goes, vote_or_end, waits_after}
use Rattle.dr_program.specs.{Steps.{allows, stepped}, Turn.{after, is_beat, part_of, turn_begins}}
use Rattle.dr_program.specs.declared.{outcome.{LogWhy.LogWhy, Outcome.Outcome}, place.Part.Part}
use Rattle.dr_program.specs.declared.setup.{CrashPoint.CrashPoint, Setup.Setup}
use Rattle.dr_program.proofs.{Deeds.{IsDue, named_at_push, early_before, named_in_turn}, Going.goes_back_or_stays}
use Rattle.dr_program.proofs.Parts.{is_end, no_end, taken_end, taken_turns, verdict_no_beat, verdict_of, is_crash, is_behind_crash}
use Rattle.dr_program.proofs.{Runs.after_either, Search.beat_test, StepsAt.{append_either, vote_either}}
use Rattle.dr_program.specs.declared.outcome.LogWhy.TheVariants as whys
use Rattle.dr_program.specs.declared.place.Part.TheVariants as parts
use Rattle.dr_turn.{specs.Search.IsUnderway, proofs.Deeds.first_part}
use Rattle.dr_program_laws.specs.Ended.{IsBeforeCrash}
use Rattle.dr_program_laws.proofs.Standing.{IsNotPast, IsProper, Stands, goes_on, next_turn, settled_stands}

-- ---- one deed

-- the member is ahead of its crash at the next place, where its part is not the end of one that was to crash
onward : (limit : ℕ) (points : List CrashPoint) (r : Running) (part : Part) → IsDue r part
    → is_crash part ≡ false → Stands limit points r
    → is_behind_crash (part_of (after (members r) (columns r) r.place)) ≡ true → IsBeforeCrash points r.replica.turns
onward limit points r part d other v late =
    goes_on limit points r v (λ here. absurd (cc (ap is_crash d.at, here, other))) late

-- the member after this step at this part
abbrev done_by : ℕ → Running → Part → Step → Running
done_by word r part s = record r {
  replica = stepped word r.replica s;
  place = goes (members r) (columns r) part r.place;
  pushes = pushes_after r.pushes s;
  waits = waits_after word r s;
}

-- and after the deed of the part
abbrev done_at : ℕ → Running → Part → Running
done_at word r part = done_by word r part (step_at r part r.place.row r.place.column)

-- a step that counts no turn leaves a member standing as it should
same_turn : (limit : ℕ) (points : List CrashPoint) (word : ℕ) (r : Running) (part : Part) (s : Step)
    → (stepped word r.replica s).turns ≡ r.replica.turns → Stands limit points r
    → (is_behind_crash (part_of (goes (members r) (columns r) part r.place)) ≡ true
    → IsBeforeCrash points r.replica.turns) → IsProper limit points r.replica.turns (stepped word r.replica s).end
    → Stands limit points (done_by word r part s)
same_turn limit points word r part s same v ahead proper = record {
  limited = v.limited;
  planned = v.planned;
  later = subst (IsNotPast points) (sym same) v.later;
  ahead = λ late. subst (IsBeforeCrash points) (sym same) (ahead late);
  proper = subst (λ n. IsProper limit points n (stepped word r.replica s).end) (sym same) proper;
}

-- an end by the log is proper at any time
log_proper : (limit : ℕ) (points : List CrashPoint) (turns : ℕ) (why : LogWhy)
    → IsProper limit points turns (Some (end_by why))
log_proper limit points turns whys.DiskFault = tt
log_proper limit points turns (whys.LogFull len) = tt

-- a push, or the crash in its place
push_keeps : (limit : ℕ) (points : List CrashPoint) (word : ℕ) (r : Running) → IsDue r parts.Push
    → Stands limit points r → Stands limit points (done_at word r parts.Push)
push_keeps limit points word r d v = by (crashes_now r) refl
  where
    ahead : is_behind_crash (part_of (after (members r) (columns r) r.place)) ≡ true
        → IsBeforeCrash points r.replica.turns
    ahead = onward limit points r parts.Push d refl v

    by : (b : Bool) → crashes_now r ≡ b
        → Stands limit points (done_by word r parts.Push (push_or_crash b r.place.row r.place.column))
    by true e = record {
      limited = v.limited;
      planned = v.planned;
      later = v.later;
      ahead = ahead;
      proper = named_at_push points r.replica.turns r.pushes
          (ap (list_any (is_at_push r.replica.turns r.pushes)) (sym v.planned) ∙ e);
    }
    by false e =
        record { limited = v.limited; planned = v.planned; later = v.later; ahead = ahead; proper = v.proper }

-- an append, or the end in its place
append_keeps : (limit : ℕ) (points : List CrashPoint) (word : ℕ) (r : Running) → IsDue r parts.Append
    → Stands limit points r → Stands limit points (done_at word r parts.Append)
append_keeps limit points word r d v = same_turn limit points word r parts.Append (append_or_end r.failed)
    (append_either (λ s. (stepped word r.replica s).turns ≡ r.replica.turns) r.failed refl (λ why. refl)) v
    (onward limit points r parts.Append d refl v)
    (append_either (λ s. IsProper limit points r.replica.turns (stepped word r.replica s).end) r.failed
    v.proper (log_proper limit points r.replica.turns))

-- a vote, or the end in its place
vote_keeps : (limit : ℕ) (points : List CrashPoint) (word : ℕ) (r : Running) → IsDue r parts.Vote
    → Stands limit points r → Stands limit points (done_at word r parts.Vote)
vote_keeps limit points word r d v = same_turn limit points word r parts.Vote (vote_or_end r.failed
    (value_due r.replica)) (vote_either (λ s. (stepped word r.replica s).turns ≡ r.replica.turns) r.failed _ refl
    (λ why. refl)) v (onward limit points r parts.Vote d refl v)
    (vote_either (λ s. IsProper limit points r.replica.turns (stepped word r.replica s).end) r.failed _
    v.proper (log_proper limit points r.replica.turns))

-- a verdict, to suspect another member or to end by suspicion
verdict_keeps : (limit : ℕ) (points : List CrashPoint) (word : ℕ) (r : Running) (a : Act)
    → is_verdict a ≡ true → Stands limit points r → Stands limit points (done_by word r parts.Judge (steps.Do a))
verdict_keeps limit points word r a is v = same_turn limit points word r parts.Judge
    (steps.Do a) (taken_turns r.replica a (verdict_no_beat a is)) v v.ahead (grind (arith, is, v.proper))

-- so does a beat, with which a turn begins
beat_keeps : (limit : ℕ) (points : List CrashPoint) (word : ℕ) (r : Running)
    → IsDue r turn_begins → Stands limit points r → Stands limit points (done_at word r turn_begins)
beat_keeps limit points word r d v = record {
  limited = v.limited;
  planned = v.planned;
  later = next_turn points r.replica.turns (v.ahead (ap is_behind_crash d.at));
  ahead = λ late. absurd (cc (ap is_behind_crash (first_part r underway d.at), late));
  proper = subst (IsProper limit points _) (sym d.none) tt;
}
  where
    underway : IsUnderway r
    underway = record {
      replica = d.member.replica;
      place = d.member.place;
      turns = d.member.turns;
      waits = d.member.waits;
      free = d.member.free;
      left = d.member.left;
    }

-- and so does each act of its own
act_keeps : (limit : ℕ) (points : List CrashPoint) (word : ℕ) (r : Running) (a : Act)
    → IsDue r (parts.Do a) → Stands limit points r → Stands limit points (done_at word r (parts.Do a))
act_keeps limit points word r a d v = by (is_beat (parts.Do a)) refl
  where
    ended : (taken r.replica a).end ≡ r.replica.end
    ended = taken_end r.replica a (sym (ap is_end d.at) ∙ no_end r.place.part d.member.place.part)

    ahead : is_beat (parts.Do a) ≡ false
        → is_behind_crash (part_of (goes (members r) (columns r) (parts.Do a) r.place)) ≡ true
        → IsBeforeCrash points r.replica.turns
    ahead other late = elim (goes_back_or_stays (members r) (columns r) a r.place other) [
      | inl back ↦ absurd (cc (
        early_before r (parts.Do a) d back.0,
        sym (ap (λ p. is_behind_crash (part_of p)) back.1) ∙ late,
      ))
      | inr stays ↦ v.ahead (sym (ap (λ p. is_behind_crash (part_of p)) stays.1) ∙ late)
    ]

    stands : is_beat (parts.Do a) ≡ false → Stands limit points (done_at word r (parts.Do a))
    stands other = same_turn limit points word r (parts.Do a) (steps.Do a) (taken_turns r.replica a other) v
        (ahead other) (subst (IsProper limit points r.replica.turns) (sym ended) v.proper)

    by : (b : Bool) → is_beat (parts.Do a) ≡ b → Stands limit points (done_at word r (parts.Do a))
    by true beat = subst (λ part. IsDue r part → Stands limit points (done_at word r part))
        (sym (beat_test (parts.Do a) beat)) (λ due. beat_keeps limit points word r due v) d
    by false other = stands other

deed_keeps : (limit : ℕ) (points : List CrashPoint) (word : ℕ) (r : Running) (part : Part)
    → IsDue r part → Stands limit points r → Stands limit points (done_at word r part)
deed_keeps limit points word r parts.Look d v = record {
  limited = v.limited;
  planned = v.planned;
  later = v.later;
  ahead = onward limit points r parts.Look d refl v;
  proper = v.proper;
}
deed_keeps limit points word r parts.Judge d v = verdict_keeps limit points word r (judged r) (verdict_of r) v
deed_keeps limit points word r parts.Append d v = append_keeps limit points word r d v
deed_keeps limit points word r parts.Vote d v = vote_keeps limit points word r d v
deed_keeps limit points word r parts.Push d v = push_keeps limit points word r d v
deed_keeps limit points word r (parts.Do a) d v = act_keeps limit points word r a d v
deed_keeps limit points word r parts.Crash d v = record {
  limited = v.limited;
  planned = v.planned;
  later = v.later;
  ahead = v.ahead;
  proper = named_in_turn points r.replica.turns
      (ap (list_any (is_in_turn r.replica.turns)) (sym v.planned) ∙ d.asked);
}
deed_keeps limit points word r parts.Excluded d v =
    record { limited = v.limited; planned = v.planned; later = v.later; ahead = v.ahead; proper = tt }
deed_keeps limit points word r parts.Done d v = record {
  limited = v.limited;
  planned = v.planned;
  later = v.later;
  ahead = v.ahead;
  proper = v.ahead (ap is_behind_crash d.at);
}
deed_keeps limit points word r parts.Spent d v =
    let last : r.replica.turns ≡ limit = spent_at r.limit r.replica.turns d.asked ∙ v.limited in
    record {
      limited = v.limited;
      planned = v.planned;
      later = v.later;
      ahead = v.ahead;
      proper = (last, last, v.ahead (ap is_behind_crash d.at));
    }
deed_keeps limit points word r parts.Take d v = record {
  limited = v.limited;
  planned = v.planned;
  later = v.later;
  ahead = λ late. absurd (cc late);
  proper = v.proper;
}
deed_keeps limit points word r part d v =
    record { limited = v.limited; planned = v.planned; later = v.later; ahead = v.ahead; proper = v.proper }

-- a take leaves it standing so: it goes to the end of the turn, from its first part
pub took_stands : (limit : ℕ) (points : List CrashPoint) (letter : Option (List Entry)) (r : Running)
    → Stands limit points r → Stands limit points (took_letter letter r)
took_stands limit points None r v = record {
  limited = v.limited;
  planned = v.planned;
  later = v.later;
  ahead = λ late. absurd (cc late);
  proper = v.proper;
}
took_stands limit points (Some letter) r v = record {
  limited = v.limited;
  planned = v.planned;
  later = v.later;
  ahead = λ late. absurd (cc late);
  proper = v.proper;
}

-- the member's next deed, however its append goes, and whatever letter it finds
pub deed_stands : (limit : ℕ) (points : List CrashPoint) (table : List ℕ) (letter : Option (List Entry))
    (o : Outcome) (r : Running) → IsRunningMember r → r.replica.end ≡ None → Stands limit points r
    → Stands limit points (after_deed (next_sight table r) letter o r (next_step r))
deed_stands limit points table letter o r member none v = after_either (Stands limit points) table letter o r
    (next_step r) (settled_stands limit points (done_at (next_sight table r) r (part_of r.place))
    (deed_keeps limit points (next_sight table r) r (part_of r.place) (record {
      at = refl;
      member = member;
      none = none;
      asked = (and_parts (asks r (part_of r.place) r.place.row r.place.column)
          (allows r.replica (next_step r)) (member.due none)).0;
    }) v)) (λ why due. record {
      limited = v.limited;
      planned = v.planned;
      later = v.later;
      ahead = v.ahead;
      proper = v.proper;
    }) (λ due. settled_stands limit points (took_letter letter r) (took_stands limit points letter r v))

-- ---- the beginning

-- a member that has begun stands as its setup lets it
pub begins : (s : Setup) → Stands s.turns s.crashes (begun_running s)
begins s = record {
  limited = refl;
  planned = refl;
  later = λ k d within some. omega arith;
  ahead = λ late k d within some. some;
  proper = tt;
}
