-- Disks whose logs are in step, whatever a crash has left of them: they stay so, where none is missing.
use Rattle.std.specs.{Option.option_map_or, Prelude.{not, IsSomeAnd, Option, None, Some, is_some, slice_get}}
use Rattle.std.proofs.Common.{◌≡◌, ◌⊎◌, sym, ap, ◌∙◌, subst, ℕ, ◌-◌, ◌^◌, ◌<◌, ◌≤◌, true, inl, inr, arith, List, [], length}
use Rattle.std.proofs.lemmas.{List.length-map, Option.slice_get_within}
use Rattle.dr_disk.specs.{Calls.at_rest, Disk.{Told, state_of}}
use Rattle.dr_entry.specs.declared.{end.{AgeEnd.AgeEnd, MemberEnd.MemberEnd}, entry.Entry.Entry}
use Rattle.dr_entry.proofs.ListPlaces.{slice_get-some}
use Rattle.dr_history.{specs.{History.IsPrefixOf, declared.opening.Opening.Opening}, proofs.Bits.has_zero}
use Rattle.dr_history.proofs.{Histories.{AreFirstPartsOf, part_of_opened}, Keeping.front_of_longest}
use Rattle.dr_served.{specs.Left.IsLeftOf, proofs.Rooms.left_part}
use Rattle.dr_machine.specs.Group.{IsGroup}
use Rattle.dr_opening.{specs.{Accepted.AreAccepted, CatchingUp.opened_with, Lists.as_lists}, proofs.Trying.chosen_by}
use Rattle.dr_opening.{specs.Tries.{IsChosenOf, content_at}, proofs.{Accepted.fronts_accepted, Choosing.chosen_group}}
use Rattle.dr_opening.proofs.{Accepting.{ended_accepted, none_accepted}, Whole.{all_in_set, entries_among}}
use Rattle.dr_restart.specs.{Choosing.of_set, Groups.{first_group_of, group_of}, Left.entries_on_logs}
use Rattle.dr_restart.specs.{Trying.first_view_of, declared.{lists.LogLists.LogLists, start.Start.Start}}
use Rattle.dr_restart.proofs.{Listed.{listed, log-listed}, Longest.longest-chosen, Sounding.choice-group}
use Rattle.dr_restart.proofs.Trying.{IsBroughtUp, entries-case, old-log, nothing_on}
use Rattle.dr_script.specs.{Ranges.{HasGroupRanges, HasRanges}, declared.script.Script.Script}
use Rattle.dr_yard.specs.Yards.{AllTell, YardState}
use Rattle.dr_ages.specs.{Ages.{IsAgeOf, NamesNobody, start_of}, Fit.{AreChosen, AreInStep, MayLeave}, Found.AreFound}
use Rattle.dr_ages.specs.{Crashed.HaveCrashed, Left.HasLeft}
use Rattle.dr_ages.specs.{Stops.{HasStopped, IsBadLogs}, Tried.{AreOfTry, AreTried}, declared.mode.Mode.Mode}
use Rattle.dr_ages.{specs.declared.{part.Part.Part, stop.Stop.Stop}, proofs.{Played.all_take_part, Votes.EndsSo}}
use Rattle.dr_ages.proofs.{Good.{IsGood, good_never, readable_behind, undamaged}, Keeping.{ended_over, image_entries}}
use Rattle.dr_ages.proofs.Lasting.{blank_lists, blank_readable, crashed_chosen, crashed_readable, found_chosen, readable_tell}
use Rattle.dr_kept.proofs.Following.{among_lists, lists_with}
use Rattle.dr_log_bytes.specs.Content.{OnLog}

-- ---- what is found on disks in step

-- they are good, as they are found, and their logs are never refused
pub step_good : (script : Script) (yard : YardState) → AreInStep script yard → IsGood script yard
step_good script yard step = record {
  accepted = λ contents found. step.accepted (lists_with contents)
      (found_chosen script.members yard contents (readable_tell script.members yard step.readable) found);
  whole = λ m at l reads. undamaged (yard.told m) at (step.readable m l) reads;
}

pub step_never : (script : Script) (part : Part) (before after : YardState) (s : Stop) → HasGroupRanges script
    → NamesNobody script.members part.missing → AreInStep script before → HasStopped script part before after s
    → IsBadLogs s → ⊥
step_never script part before after s ranges none step is bad =
    good_never script part before after s ranges none (step_good script before step) is bad

-- ---- empty disks

-- disks that have never been written are in step
pub blank_step : (script : Script) (yard : YardState)
    → ((m : ℕ) → m < script.members → IsSomeAnd (yard.told m) (λ t. state_of t ≡ at_rest [])) → AreInStep script yard
blank_step script yard blank = record {
  readable = blank_readable script.members yard blank;
  accepted = λ logs chosen. none_accepted script (entries_on_logs logs) (λ m es at.
      let log = log-listed logs m es at in
      sym log.2 ∙ ap (λ (l : LogLists). l.entries) (blank_lists script.members yard logs m log.0 blank chosen log.1));
}

-- ---- the disks that an age leaves

pub age_step : (script : Script) (part : Part) (mode : Mode) (nth : ℕ) (before yard : YardState) (age : AgeEnd)
    → HasRanges script → NamesNobody script.members part.missing → IsAgeOf script part mode nth before yard age
    → AllTell script.members yard → AreInStep script yard
age_step script part mode nth before yard age ranges none is tell = record {
  readable = λ m l. readable_behind script part mode nth before yard age is tell m l (none m l);
  accepted = λ logs chosen. ended_accepted script (start_of script part age) age.members (entries_on_logs logs) group
      (all_take_part script part.missing ranges.group.most_members none ∙ ap (λ (n : ℕ). 2 ^ n - 1) (sym ranges.group.lists))
      is.played.agreed (is.played.roster ∙ sym ranges.group.lists) (parts logs chosen);
}
  where
    group : IsGroup (group_of script (start_of script part age))
    group = chosen_group script is.contents (start_of script part age) ranges.group is.starts

    -- what is on a log that its member has left has its first entries
    left_of : (o : Option Told) (m : ℕ) (e : MemberEnd) (log : LogLists) → (x : EndsSo is.played.over m e)
        → HasLeft o x.r.replica (is.begun m) → IsSomeAnd o (MayLeave log) → IsLeftOf e.history e.logged log.entries
    left_of None m e log x left may = absurd may
    left_of (Some t) m e log x left may =
        subst (λ (end : MemberEnd). IsLeftOf end.history end.logged log.entries) x.is
        (subst (λ (l : LogLists). IsLeftOf x.r.replica.history x.r.replica.logged l.entries) may.lists
        (image_entries t may.image x.r.replica may.content (is.begun m) may.is may.stands left))

    parts : (logs : List LogLists) → AreChosen script.members yard logs
        → AreFirstPartsOf age.members (entries_on_logs logs)
    parts logs chosen m es at =
        let log = log-listed logs m es at in
        let below : m < script.members = omega (arith, slice_get_within logs m log.0 log.1, chosen.all) in
        let e = slice_get-some age.members m (omega (arith, below, is.played.roster)) in
        let x = ended_over script part mode nth before yard age is m e.0 e.1 (none m below) in (
          m,
          e.0,
          e.1,
          left_part e.0 es (subst (IsLeftOf e.0.history e.0.logged) log.2
              (left_of (yard.told m) m e.0 log.0 x (is.left m x.r x.at) (chosen.each m log.0 log.1))),
        )

-- so its logs are never refused
pub age_leaves_good : (script : Script) (part : Part) (mode : Mode) (nth : ℕ) (before yard : YardState) (age : AgeEnd)
    → HasRanges script → NamesNobody script.members part.missing → IsAgeOf script part mode nth before yard age
    → AllTell script.members yard → IsGood script yard
age_leaves_good script part mode nth before yard age ranges none is tell =
    step_good script yard (age_step script part mode nth before yard age ranges none is tell)

-- ---- logs on the way to a start

-- where all logs are there and accepted, each is a first part of the start that is chosen of them
pub whole_front : (script : Script) (yard : YardState) (contents : List (Option OnLog)) (start : Start) (m : ℕ)
    (c : OnLog) → HasGroupRanges script → IsGood script yard → AreFound script.members 0 yard contents
    → IsChosenOf (first_group_of script).opening contents start → content_at contents m ≡ Some c
    → IsPrefixOf c.entries start.entries
whole_front script yard contents start m c ranges good found chosen at =
    let o = (first_group_of script).opening in
    let few : length o.messages ≤ 16 = omega (arith, ranges.lists, ranges.most_members) in
    let along = (good.accepted contents found).along in
    front_of_longest (entries_on_logs (lists_with contents)) start.entries c.entries m along
    (longest-chosen o (lists_with contents) start.present start
    (chosen_by o contents (lists_with contents) start chosen few (among_lists contents))
    (λ i l. all_in_set o contents start i chosen few (there i (omega (
      arith,
      l,
      length-map contents (λ (o : Option OnLog). option_map_or as_lists o nothing_on),
      found.all,
    )))) along) (entries_among contents (lists_with contents) m c (among_lists contents) at)
  where
    there : (i : ℕ) → i < script.members → is_some (content_at contents i) ≡ true
    there i l = found.there i l ∙ ap not (has_zero i)

-- ---- an opening that stopped

-- where none is missing it leaves first parts of what its start begins the age with
pub tried_step : (script : Script) (missing : ℕ) (before after : YardState) → HasGroupRanges script
    → NamesNobody script.members missing → AreTried script missing before after → AreInStep script before
    → AreInStep script after
tried_step script missing before after ranges none tried step = record {
  readable = tried.readable step.readable;
  accepted = λ logs chosen.
      let t = tried.tried logs chosen in by logs t.0 t.1 (step.accepted t.0 t.1) t.2;
}
  where
    o : Opening
    o = (first_group_of script).opening

    by : (logs olds : List LogLists) → AreChosen script.members before olds → AreAccepted script (entries_on_logs olds)
        → (logs ≡ olds) ⊎ AreOfTry script missing olds logs → AreAccepted script (entries_on_logs logs)
    by logs olds chosen accepted (inl same) =
        subst (λ (l : List LogLists). AreAccepted script (entries_on_logs l)) (sym same) accepted
    by logs olds chosen accepted (inr (try, is, all)) = fronts_accepted script try.start (entries_on_logs logs)
        (choice-group script (of_set olds try.set) try.start ranges is.choice) parts
      where
        -- each log was a front of the start
        front : (m : ℕ) (old : LogLists) → slice_get olds m ≡ Some old → IsPrefixOf old.entries try.start.entries
        front m old at = front_of_longest (entries_on_logs olds) try.start.entries old.entries m accepted.along
            (longest-chosen o olds try.set try.start is.choice
            (λ i l. let below : i < script.members = omega (arith, l, chosen.all) in all i below (none i below))
            accepted.along) (listed olds m old at)

        part : (m : ℕ) (old log : LogLists) → slice_get olds m ≡ Some old → (log.entries ≡ old.entries)
            ⊎ IsBroughtUp try m old log → IsPrefixOf log.entries (opened_with try.start try.start.members)
        part m old log at (inl same) = subst (λ es. IsPrefixOf es (opened_with try.start try.start.members))
            (sym same) (part_of_opened old.entries try.start.entries (first_view_of try.start) (front m old at))
        part m old log at (inr up) = up.2

        parts : (m : ℕ) (es : List Entry) → slice_get (entries_on_logs logs) m ≡ Some es
            → IsPrefixOf es (opened_with try.start try.start.members)
        parts m es at =
            let log = log-listed logs m es at in
            let old = old-log (first_group_of script) olds logs try is m log.0 log.1 in
            subst (λ es. IsPrefixOf es (opened_with try.start try.start.members)) log.2
            (part m old.0 log.0 old.1 (entries-case (first_group_of script) olds logs try is m old.0 log.0 old.1 log.1))

-- ---- crashes

pub crashed_step : (script : Script) (before after : YardState) → AreInStep script before
    → HaveCrashed script.members before after → AreInStep script after
crashed_step script before after step crashed = record {
  readable = crashed_readable script.members before after step.readable crashed;
  accepted = λ logs chosen. step.accepted logs (crashed_chosen script.members before after logs crashed chosen);
}
