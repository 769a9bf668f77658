-- What is certain of the ends and of the stop of a run.
use Rattle.std.{specs.List.list_any, proofs.lemmas.{Bool.{cases_Bool, or_from, or_parts}, List.Folds.list_any_none}}
use Rattle.std.proofs.Common.{◌≡◌, ◌≢◌, refl, sym, ap, subst, ◌∙◌, inl, inr, ℕ, ◌+◌, ◌-◌, ◌<◌, ◌≤◌, Bool, true, false, true≢false, arith, List, [], ◌∷◌, length, slice_get, get_or, All, Contains, Option, None, Some, is_some, IfSome, if◌then◌else◌}
use Rattle.std.proofs.{Math.Path.fun_ext, lemmas.Option.{none-some, same_Some, slice_get-get_or, slice_get_within}}
use Rattle.dr_ages.specs.{Ages.{AreAges, NamesNobody, opening_of}, Fit.AreInStep, Found.AreRoomy}
use Rattle.dr_ages.specs.{Runs.{HasFinished, IsFreshRun, IsRoomyRun, IsRunOf}, Stops.{IsOutside, NamesFaults}}
use Rattle.dr_ages.specs.declared.{mode.Mode.{Mode, TheVariants.Sim}, part.Part.Part, stop.Stop.Stop}
use Rattle.dr_ages.proofs.Parts.{later, nobody_late}
use Rattle.dr_complete.specs.Time.{HasTime}
use Rattle.dr_disk.specs.{Calls.at_rest, Disk.{Now, Told}}
use Rattle.dr_entry.{specs.declared.end.{AgeEnd.AgeEnd, End.End, MemberEnd.MemberEnd}, proofs.ListFacts.none_of}
use Rattle.dr_history.specs.declared.opening.Opening.{Opening}
use Rattle.dr_program_laws.specs.{Ended.AreComplete, Trusting.{NoneLeft, SuspectsNobody, is_left_out}}
use Rattle.dr_script.specs.declared.script.Script.{Script}
use Rattle.dr_play.specs.Logged.{IsNotFull, NoneFull, why_ended}
use Rattle.dr_io.{specs.Faults.Rose, proofs.KnownLemmas.rose_between}
use Rattle.dr_yard.specs.Yards.{YardState, empty_yard}
use Rattle.dr_outcome.specs.Last.{first_end, first_told, is_memory, is_of, last_by, last_of, refusal_of, some_end, some_so, stopped_by}
use Rattle.dr_outcome.{specs.Outcome.IsMemoryRun, proofs.Lasts.told_so}
use Rattle.dr_outcome.specs.declared.last.Kind.{Kind, TheVariants.{DiskFault, LogFull, NoMajority, Spent}}
use Rattle.dr_intake.specs.Status.{status_of}
use Rattle.dr_text.specs.declared.last.Last.{Last}
use Rattle.dr_ages.specs.declared.stop.Stop.TheVariants as stops
use Rattle.dr_entry.specs.declared.end.End.TheVariants as ends

-- whether some of these members ended so
abbrev some_of : Kind → List MemberEnd → Bool
some_of kind members = list_any (λ (m : MemberEnd). is_of kind m.end) members

disk_fault_is : (e : End) → is_of DiskFault e ≡ true → e ≡ ends.DiskFault
disk_fault_is ends.Done is = absurd (true≢false (sym is))
disk_fault_is ends.Crashed is = absurd (true≢false (sym is))
disk_fault_is (ends.Suspected by) is = absurd (true≢false (sym is))
disk_fault_is (ends.Excluded view) is = absurd (true≢false (sym is))
disk_fault_is (ends.NoMajority mask) is = absurd (true≢false (sym is))
disk_fault_is ends.DiskFault is = refl
disk_fault_is (ends.LogFull len) is = absurd (true≢false (sym is))
disk_fault_is (ends.Spent turns) is = absurd (true≢false (sym is))
disk_fault_is ends.Absent is = absurd (true≢false (sym is))

-- where no fault is counted no disk has ended a member
none_failed : (script : Script) (part : Part) (mode : Mode) (nth : ℕ) (before after : YardState) (ages : List AgeEnd)
    → AreAges script part mode nth before ages after → ((m : ℕ) → after.faults m ≡ 0) → some_end DiskFault ages ≡ false
none_failed script part mode nth before after [] are calm = refl
none_failed script part mode nth before after (age ∷ ages) (between, is, rest) calm =
    or_from (some_of DiskFault age.members) (some_end DiskFault ages)
    (list_any_none (λ (m : MemberEnd). is_of DiskFault m.end) age.members here)
    (none_failed script part mode (nth + 1) between after ages rest calm)
  where
    here : All (λ (m : MemberEnd). is_of DiskFault m.end ≡ false) age.members
    here k d within =
        let e = get_or age.members k d in
        elim (cases_Bool (is_of DiskFault e.end)) [
          | inl failed ↦
              let at = slice_get-get_or age.members k d within in
              let rose = is.failed k e at (disk_fault_is e.end failed) in
              absurd (omega (arith, rose, later script part mode (nth + 1) between after ages rest k, calm k))
          | inr other ↦ other
        ]

unstopped : (e : End) → is_of DiskFault e ≡ false → is_of LogFull e ≡ false → why_ended e ≡ None
unstopped ends.Done failed full = refl
unstopped ends.Crashed failed full = refl
unstopped (ends.Suspected by) failed full = refl
unstopped (ends.Excluded view) failed full = refl
unstopped (ends.NoMajority mask) failed full = refl
unstopped ends.DiskFault failed full = absurd (true≢false failed)
unstopped (ends.LogFull len) failed full = absurd (true≢false full)
unstopped (ends.Spent turns) failed full = refl
unstopped ends.Absent failed full = refl

-- where all are complete none has spent its turns
none_spends : (o : Opening) (members : List MemberEnd) → AreComplete o members → some_of Spent members ≡ false
none_spends o members complete = list_any_none (λ (m : MemberEnd). is_of Spent m.end) members
    (λ k d within. ap (is_of Spent) (complete k (get_or members k d) (slice_get-get_or members k d within)).end)

-- with time enough, and unless a log ends one, no member spends its turns
pub none_spent : (script : Script) (part : Part) (mode : Mode) (nth : ℕ) (before after : YardState) (ages : List AgeEnd)
    → AreAges script part mode nth before ages after → NamesNobody script.members part.missing → NamesNobody script.members part.late → mode ≡ Sim
    → HasTime script → some_end DiskFault ages ≡ false → some_end LogFull ages ≡ false → some_end Spent ages ≡ false
none_spent script part mode nth before after [] are all prompt sim time failed full = refl
none_spent script part mode nth before after (age ∷ ages) (between, is, rest) all prompt sim time failed full =
    let fails = or_parts (some_of DiskFault age.members) (some_end DiskFault ages) failed in
    let fills = or_parts (some_of LogFull age.members) (some_end LogFull ages) full in
    or_from (some_of Spent age.members)
    (some_end Spent ages) (none_spends (opening_of script part age) age.members (is.complete all
    (nobody_late script part age prompt) sim time (λ k d within. unstopped (get_or age.members k d).end
    (none_of (λ (m : MemberEnd). is_of DiskFault m.end) age.members k d fails.0 within)
    (none_of (λ (m : MemberEnd). is_of LogFull m.end) age.members k d fills.0 within))))
    (none_spent script part mode (nth + 1) between after ages rest all prompt sim time fails.1 fills.1)

unsplit : (e : End) → is_left_out e ≡ false → is_of NoMajority e ≡ false
unsplit ends.Done stays = refl
unsplit ends.Crashed stays = refl
unsplit (ends.Suspected by) stays = refl
unsplit (ends.Excluded view) stays = refl
unsplit (ends.NoMajority mask) stays = absurd (true≢false stays)
unsplit ends.DiskFault stays = refl
unsplit (ends.LogFull len) stays = refl
unsplit (ends.Spent turns) stays = refl
unsplit ends.Absent stays = refl

-- where nobody suspects others none is left without a majority
none_splits : (members : List MemberEnd) → NoneLeft members → some_of NoMajority members ≡ false
none_splits members stay = list_any_none (λ (m : MemberEnd). is_of NoMajority m.end) members
    (λ k d within. unsplit (get_or members k d).end (stay k d within))

pub none_split : (script : Script) (part : Part) (mode : Mode) (nth : ℕ) (before after : YardState) (ages : List AgeEnd)
    → AreAges script part mode nth before ages after → SuspectsNobody script → some_end NoMajority ages ≡ false
none_split script part mode nth before after [] are trusting = refl
none_split script part mode nth before after (age ∷ ages) (between, is, rest) trusting =
    or_from (some_of NoMajority age.members) (some_end NoMajority ages)
    (none_splits age.members (is.played.trusting trusting))
    (none_split script part mode (nth + 1) between after ages rest trusting)

unfull : (e : End) → IsNotFull e → is_of LogFull e ≡ false
unfull ends.Done room = refl
unfull ends.Crashed room = refl
unfull (ends.Suspected by) room = refl
unfull (ends.Excluded view) room = refl
unfull (ends.NoMajority mask) room = refl
unfull ends.DiskFault room = refl
unfull (ends.LogFull len) room = absurd room
unfull (ends.Spent turns) room = refl
unfull ends.Absent room = refl

-- a run over empty disks, of which none is missing
fresh : (script : Script) (part : Part) (mode : Mode) (ages : List AgeEnd) (stop : Option Stop)
    → NamesNobody script.members part.missing → IsMemoryRun script part mode ages stop → IsFreshRun ages stop
fresh script part mode ages stop all in_memory = in_memory.run.fresh all (λ m below. refl)

pub in_memory : (script : Script) (part : Part) (mode : Mode) (ages : List AgeEnd) (stop : Option Stop)
    (told : ℕ → Option Told) (after : YardState) → ((m : ℕ) → told m ≡ Some (Now (at_rest [])))
    → ((m : ℕ) → after.faults m ≡ 0)
    → IsRunOf script part mode (record { told = told; faults = λ m. 0 }) after ages stop
    → IsMemoryRun script part mode ages stop
in_memory script part mode ages stop told after empty calm run = record {
  after = after;
  calm = calm;
  run = subst (λ (t : ℕ → Option Told). IsRunOf script part mode (record { told = t; faults = λ m. 0 }) after ages stop)
      (fun_ext empty) run;
}

-- over empty disks that count no fault, and where memory is not wanting, no disk ends a run or a member
pub memory_holds : (script : Script) (part : Part) (mode : Mode) (ages : List AgeEnd) (stop : Option Stop)
    → NamesNobody script.members part.missing → IsMemoryRun script part mode ages stop → is_memory stop ≡ false → some_so DiskFault ages stop ≡ false
memory_holds script part mode ages None all in_memory ample = or_from (some_end DiskFault ages) false
    (none_failed script part mode 0 empty_yard in_memory.run.last ages in_memory.run.course
    (λ m. ap (λ (yard : YardState). yard.faults m) in_memory.run.finish.1 ∙ in_memory.calm m)) refl
memory_holds script part mode ages (Some stops.OutOfMemory) all in_memory ample = absurd (true≢false ample)
memory_holds script part mode ages (Some (stops.DiskFault member)) all in_memory ample =
    absurd (omega (arith, in_memory.run.finish.1.rose, in_memory.calm member))
memory_holds script part mode ages (Some (stops.LogFull member len)) all in_memory ample =
    absurd (fresh script part mode ages (Some (stops.LogFull member len)) all in_memory).stopped
memory_holds script part mode ages (Some (stops.Damaged member at)) all in_memory ample =
    absurd (fresh script part mode ages (Some (stops.Damaged member at)) all in_memory).stopped
memory_holds script part mode ages (Some (stops.NoQuorum view have need)) all in_memory ample =
    absurd (fresh script part mode ages (Some (stops.NoQuorum view have need)) all in_memory).stopped
memory_holds script part mode ages (Some (stops.Disagree a b place)) all in_memory ample =
    absurd (fresh script part mode ages (Some (stops.Disagree a b place)) all in_memory).stopped
memory_holds script part mode ages (Some (stops.Foreign member place)) all in_memory ample =
    absurd (fresh script part mode ages (Some (stops.Foreign member place)) all in_memory).stopped
memory_holds script part mode ages (Some stops.AgesUsedUp) all in_memory ample =
    absurd (fresh script part mode ages (Some stops.AgesUsedUp) all in_memory).stopped

-- nor are logs refused
pub memory_accepts : (script : Script) (part : Part) (mode : Mode) (ages : List AgeEnd) (stop : Option Stop)
    → NamesNobody script.members part.missing → IsMemoryRun script part mode ages stop → is_some (refusal_of stop) ≡ false
memory_accepts script part mode ages None all in_memory = refl
memory_accepts script part mode ages (Some stops.OutOfMemory) all in_memory = refl
memory_accepts script part mode ages (Some (stops.DiskFault member)) all in_memory = refl
memory_accepts script part mode ages (Some (stops.LogFull member len)) all in_memory = refl
memory_accepts script part mode ages (Some (stops.Damaged member at)) all in_memory =
    absurd (fresh script part mode ages (Some (stops.Damaged member at)) all in_memory).stopped
memory_accepts script part mode ages (Some (stops.NoQuorum view have need)) all in_memory =
    absurd (fresh script part mode ages (Some (stops.NoQuorum view have need)) all in_memory).stopped
memory_accepts script part mode ages (Some (stops.Disagree a b place)) all in_memory =
    absurd (fresh script part mode ages (Some (stops.Disagree a b place)) all in_memory).stopped
memory_accepts script part mode ages (Some (stops.Foreign member place)) all in_memory =
    absurd (fresh script part mode ages (Some (stops.Foreign member place)) all in_memory).stopped
memory_accepts script part mode ages (Some stops.AgesUsedUp) all in_memory =
    absurd (fresh script part mode ages (Some stops.AgesUsedUp) all in_memory).stopped

unstopped_by_full : (stop : Option Stop) (ages : List AgeEnd) → IsFreshRun ages stop
    → is_some (stopped_by LogFull stop) ≡ false
unstopped_by_full None ages fresh = refl
unstopped_by_full (Some stops.OutOfMemory) ages fresh = refl
unstopped_by_full (Some (stops.DiskFault member)) ages fresh = refl
unstopped_by_full (Some (stops.LogFull member len)) ages fresh = absurd fresh.stopped
unstopped_by_full (Some (stops.Damaged member at)) ages fresh = refl
unstopped_by_full (Some (stops.NoQuorum view have need)) ages fresh = refl
unstopped_by_full (Some (stops.Disagree a b place)) ages fresh = refl
unstopped_by_full (Some (stops.Foreign member place)) ages fresh = refl
unstopped_by_full (Some stops.AgesUsedUp) ages fresh = refl

-- nor is one full
pub memory_has_room : (script : Script) (part : Part) (mode : Mode) (ages : List AgeEnd) (stop : Option Stop)
    → NamesNobody script.members part.missing → IsMemoryRun script part mode ages stop → some_so LogFull ages stop ≡ false
memory_has_room script part mode ages stop all in_memory =
    let run = fresh script part mode ages stop all in_memory in
    or_from (some_end LogFull ages) (is_some (stopped_by LogFull stop))
    (list_any_none (λ (age : AgeEnd). some_of LogFull age.members) ages
    (λ k d within. list_any_none (λ (m : MemberEnd). is_of LogFull m.end) (get_or ages k d).members
    (λ j e below. unfull (get_or (get_or ages k d).members j e).end (run.roomy k d within j e below))))
    (unstopped_by_full stop ages run)

-- ---- what disks count

-- where no count of faults rose no disk has ended a member
none_rose : (script : Script) (part : Part) (mode : Mode) (nth : ℕ) (first : ℕ → ℕ) (before after : YardState)
    (ages : List AgeEnd) → AreAges script part mode nth before ages after → ((m : ℕ) → first m ≤ before.faults m)
    → ((m : ℕ) → m < script.members → Rose (first m) (after.faults m) → ⊥) → some_end DiskFault ages ≡ false
none_rose script part mode nth first before after [] are low calm = refl
none_rose script part mode nth first before after (age ∷ ages) (between, is, rest) low calm =
    or_from (some_of DiskFault age.members) (some_end DiskFault ages)
    (list_any_none (λ (m : MemberEnd). is_of DiskFault m.end) age.members here)
    (none_rose script part mode (nth + 1) first between after ages rest (λ m. omega (arith, low m, (is.passes m).later)) calm)
  where
    here : All (λ (m : MemberEnd). is_of DiskFault m.end ≡ false) age.members
    here k d within =
        let e = get_or age.members k d in
        elim (cases_Bool (is_of DiskFault e.end)) [
          | inl failed ↦
              let rose = is.failed k e (slice_get-get_or age.members k d within) (disk_fault_is e.end failed) in
              absurd (calm k (omega (arith, within, is.played.roster)) (rose_between (first k) (before.faults k)
              (between.faults k) (after.faults k) (low k) rose
              (later script part mode (nth + 1) between after ages rest k)))
          | inr other ↦ other
        ]

not_failed : (e : End) → is_of DiskFault e ≡ false → e ≢ ends.DiskFault
not_failed e none is = true≢false (sym (ap (is_of DiskFault) is) ∙ none)

none_at : (members : List MemberEnd) (m : ℕ) (e : MemberEnd) → some_of DiskFault members ≡ false
    → slice_get members m ≡ Some e → is_of DiskFault e.end ≡ false
none_at members m e none at =
    let within = slice_get_within members m e at in
    subst (λ (x : MemberEnd). is_of DiskFault x.end ≡ false)
    (same_Some (get_or members m e) e (sym (slice_get-get_or members m e within) ∙ at))
    (none_of (λ (x : MemberEnd). is_of DiskFault x.end) members m e none within)

-- where no disk has ended a member none has failed
calm_ages : (script : Script) (part : Part) (mode : Mode) (nth : ℕ) (before after : YardState) (ages : List AgeEnd)
    → AreAges script part mode nth before ages after → some_end DiskFault ages ≡ false
    → (m : ℕ) → after.faults m ≡ before.faults m
calm_ages script part mode nth before after [] are none m = ap (λ (yard : YardState). yard.faults m) (sym are)
calm_ages script part mode nth before after (age ∷ ages) (between, is, rest) none m =
    let parts = or_parts (some_of DiskFault age.members) (some_end DiskFault ages) none in
    calm_ages script part mode (nth + 1) between after ages rest parts.1 m
    ∙ is.calm m (λ e at. not_failed e.end (none_at age.members m e parts.0 at))

-- and where none has ended the run, unless memory was wanting
calm_stop : (stop : Stop) (last after : YardState) → NamesFaults stop last after → is_some (stopped_by DiskFault
    (Some stop)) ≡ false → is_memory (Some stop) ≡ false → (m : ℕ) → after.faults m ≡ last.faults m
calm_stop stops.OutOfMemory last after names none ample = absurd (true≢false ample)
calm_stop (stops.DiskFault m) last after names none ample = absurd (true≢false none)
calm_stop (stops.LogFull m len) last after names none ample = names
calm_stop (stops.Damaged m at) last after names none ample = names
calm_stop (stops.NoQuorum view have need) last after names none ample = names
calm_stop (stops.Disagree a b p) last after names none ample = names
calm_stop (stops.Foreign m p) last after names none ample = names
calm_stop stops.AgesUsedUp last after names none ample = names

pub calm_run : (script : Script) (part : Part) (mode : Mode) (before after : YardState) (ages : List AgeEnd) (stop : Option Stop)
    → IsRunOf script part mode before after ages stop → some_so DiskFault ages stop ≡ false → is_memory stop ≡ false
    → (m : ℕ) → after.faults m ≡ before.faults m
calm_run script part mode before after ages stop run none ample m =
    by stop run.finish parts.1 ample m ∙ calm_ages script part mode 0 before run.last ages run.course parts.0 m
  where
    parts : (some_end DiskFault ages ≡ false) × (is_some (stopped_by DiskFault stop) ≡ false)
    parts = or_parts (some_end DiskFault ages) (is_some (stopped_by DiskFault stop)) none

    by : (o : Option Stop) → HasFinished script part run.last after run.chosen ages o → is_some (stopped_by DiskFault o) ≡ false
        → is_memory o ≡ false → (m : ℕ) → after.faults m ≡ run.last.faults m
    by None end calm ample m = ap (λ (yard : YardState). yard.faults m) (sym end.1)
    by (Some s) end calm ample m = calm_stop s run.last after end.4 calm ample m

-- ---- runs that have all their ages

-- a run that has all the ages that its script asks for, in which no log stopped a member
pub record IsWhole (script : Script) (ages : List AgeEnd) (stop : Option Stop) : Type 0 where
  pub ages_all : length ages ≡ script.ages
  pub disk : some_so DiskFault ages stop ≡ false
  pub logs : is_some (refusal_of stop) ≡ false
  pub full : some_so LogFull ages stop ≡ false

-- one that nothing stopped
whole_by : (script : Script) (ages : List AgeEnd) (stop : Option Stop) → stop ≡ None → length ages ≡ script.ages
    → some_end DiskFault ages ≡ false → some_end LogFull ages ≡ false → IsWhole script ages stop
whole_by script ages stop none all disk full = record {
  ages_all = all;
  disk = ap (some_so DiskFault ages) none ∙ or_from (some_end DiskFault ages) false disk refl;
  logs = ap (λ s. is_some (refusal_of s)) none;
  full = ap (some_so LogFull ages) none ∙ or_from (some_end LogFull ages) false full refl;
}

none_full : (ages : List AgeEnd) → All (λ (age : AgeEnd). NoneFull age.members) ages → some_end LogFull ages ≡ false
none_full ages roomy = list_any_none (λ (age : AgeEnd). some_of LogFull age.members) ages
    (λ k d within. list_any_none (λ (m : MemberEnd). is_of LogFull m.end) (get_or ages k d).members
    (λ j e below. unfull (get_or (get_or ages k d).members j e).end (roomy k d within j e below)))

-- disks in step that leave room, of which no call fails
pub whole_run : (script : Script) (part : Part) (mode : Mode) (before after : YardState) (ages : List AgeEnd)
    (stop : Option Stop) → IsRunOf script part mode before after ages stop → NamesNobody script.members part.missing
    → AreInStep script before → AreRoomy script before → ((m : ℕ) → m < script.members → Rose (before.faults m)
    (after.faults m) → ⊥) → is_memory stop ≡ false → IsWhole script ages stop
whole_run script part mode before after ages stop run all step roomy calm ample = by stop refl
  where
    r : IsRoomyRun ages stop
    r = run.roomy all step roomy

    low : (m : ℕ) → before.faults m ≤ run.last.faults m
    low m = later script part mode 0 before run.last ages run.course m

    outside : (s : Stop) → stop ≡ Some s → HasFinished script part run.last after run.chosen ages (Some s) → IsOutside s → ⊥
    outside stops.OutOfMemory is end out = true≢false (sym (ap is_memory is) ∙ ample)
    outside (stops.DiskFault m) is end out = calm m end.1.below (rose_between (before.faults m)
        (run.last.faults m) (after.faults m) (after.faults m) (low m) end.1.rose (omega arith))
    outside (stops.LogFull m len) is end out = out
    outside (stops.Damaged m at) is end out = out
    outside (stops.NoQuorum view have need) is end out = out
    outside (stops.Disagree a b p) is end out = out
    outside (stops.Foreign m p) is end out = out
    outside stops.AgesUsedUp is end out = out

    by : (o : Option Stop) → stop ≡ o → IsWhole script ages stop
    by None is =
        let end = subst (HasFinished script part run.last after run.chosen ages) is run.finish in
        whole_by script ages stop is end.0
        (none_rose script part mode 0 before.faults before run.last ages run.course (λ m. omega arith)
        (λ m l rose. calm m l (subst (λ (y : YardState). Rose (before.faults m) (y.faults m)) end.1 rose)))
        (none_full ages r.roomy)
    by (Some s) is =
        absurd (outside s is (subst (HasFinished script part run.last after run.chosen ages) is run.finish)
        (subst (λ (o : Option Stop). IfSome o IsOutside) is r.stopped))

-- empty disks in memory, none of which counts a fault
pub whole_in_memory : (script : Script) (part : Part) (mode : Mode) (ages : List AgeEnd) (stop : Option Stop)
    → NamesNobody script.members part.missing → IsMemoryRun script part mode ages stop → is_memory stop ≡ false → IsWhole script ages stop
whole_in_memory script part mode ages stop all in_memory ample = record {
  ages_all = by stop refl in_memory.run.finish (fresh script part mode ages stop all in_memory).stopped;
  disk = memory_holds script part mode ages stop all in_memory ample;
  logs = memory_accepts script part mode ages stop all in_memory;
  full = memory_has_room script part mode ages stop all in_memory;
}
  where
    by : (o : Option Stop) → stop ≡ o → HasFinished script part in_memory.run.last in_memory.after in_memory.run.chosen ages o
        → IfSome o IsOutside → length ages ≡ script.ages
    by None is end out = end.0
    by (Some stops.OutOfMemory) is end out = absurd (true≢false (sym (ap is_memory is) ∙ ample))
    by (Some (stops.DiskFault m)) is end out = absurd (omega (arith, end.1.rose, in_memory.calm m))
    by (Some (stops.LogFull m len)) is end out = absurd out
    by (Some (stops.Damaged m at)) is end out = absurd out
    by (Some (stops.NoQuorum view have need)) is end out = absurd out
    by (Some (stops.Disagree a b p)) is end out = absurd out
    by (Some (stops.Foreign m p)) is end out = absurd out
    by (Some stops.AgesUsedUp) is end out = absurd out

-- a last line that tells of nothing but turns and majorities
pub by_parts : (disk : Option ℕ) (logs : Option Last) (full turns split : Option ℕ) (line : Last)
    → is_some disk ≡ false → is_some logs ≡ false → is_some full ≡ false
    → last_by disk logs full turns split ≡ line → Contains (0 ∷ 8 ∷ 9 ∷ []) (status_of line)
by_parts (Some m) logs full turns split line d l f said = absurd (true≢false d)
by_parts None (Some refusal) full turns split line d l f said = absurd (true≢false l)
by_parts None None (Some m) turns split line d l f said = absurd (true≢false f)
by_parts None None None (Some m) split line d l f said = (1, omega arith, ap status_of said)
by_parts None None None None (Some m) line d l f said = (2, omega arith, ap status_of said)
by_parts None None None None None line d l f said = (0, omega arith, ap status_of said)

-- so is that behind a run that has all its ages
pub whole_lasts : (script : Script) (ages : List AgeEnd) (stop : Option Stop) (line : Last) → IsWhole script ages stop
    → is_memory stop ≡ false → last_of ages stop ≡ Some line → Contains (0 ∷ 8 ∷ 9 ∷ []) (status_of line)
whole_lasts script ages stop line whole ample is = by_parts (first_told DiskFault ages stop)
    (refusal_of stop) (first_told LogFull ages stop) (first_end Spent ages) (first_end NoMajority ages) line
    (told_so DiskFault ages stop ∙ whole.disk) whole.logs (told_so LogFull ages stop ∙ whole.full)
    (same_Some told line (sym (ap (λ b. if b then None else Some told) ample) ∙ is))
  where
    told : Last
    told = last_by (first_told DiskFault ages stop) (refusal_of stop) (first_told LogFull ages stop)
        (first_end Spent ages) (first_end NoMajority ages)

-- the last line behind a run over empty disks that count no fault is one of these
pub part_lasts : (script : Script) (part : Part) (mode : Mode) (ages : List AgeEnd) (stop : Option Stop) (line : Last)
    → NamesNobody script.members part.missing → IsMemoryRun script part mode ages stop
    → last_of ages stop ≡ Some line → Contains (0 ∷ 8 ∷ 9 ∷ []) (status_of line)
part_lasts script part mode ages stop line all run is = elim (cases_Bool (is_memory stop)) [
  | inl wanting ↦ absurd (none-some line (sym (ap (λ b. if b then None else Some told) wanting) ∙ is))
  | inr ample ↦ whole_lasts script ages stop line (whole_in_memory script part mode ages stop all run ample) ample is
]
  where
    told : Last
    told = last_by (first_told DiskFault ages stop) (refusal_of stop) (first_told LogFull ages stop)
        (first_end Spent ages) (first_end NoMajority ages)
