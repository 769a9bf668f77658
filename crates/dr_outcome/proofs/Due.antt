-- What is certain of a script that was played, and of its last line.
use Rattle.std.specs.Prelude.{MatchOption}
use Rattle.std.proofs.Common.{◌≡◌, ◌≢◌, ◌⊎◌, refl, sym, ap, ap₂, ◌∙◌, subst, inl, inr, ℕ, zero, suc, ◌&&◌, not, nat_lt, is_none, MatchBool, true, false, true≢false, arith, List, [], ◌∷◌, length, Contains, Option, None, Some, IfSome, is_some, if◌then◌else◌, All}
use Rattle.std.proofs.lemmas.{Bool.{cases_Bool, or_parts, or_from, Decides.nat_tests}, Option.{none-some, same_Some}}
use Rattle.dr_ages.specs.{Ages.{AreAges, HaveSomebodyPrompt, NamesNobody}, Fit.{AreFit, AreInStep}}
use Rattle.dr_ages.specs.declared.{mode.Mode.{Mode, TheVariants.Sim}, part.Part.Part, stop.Stop.Stop}
use Rattle.dr_ages.specs.declared.stop.Stop.TheVariants.{OutOfMemory}
use Rattle.dr_complete.specs.Time.{HasTime}
use Rattle.dr_entry.{specs.declared.end.AgeEnd.AgeEnd, proofs.{Bits.lacks, ListParts.contains_more}}
use Rattle.dr_intake.{specs.{Reading.refusal_in, Status.status_of}, proofs.Intakes.other_line}
use Rattle.dr_program_laws.specs.Trusting.{SuspectsNobody, NoneLeft}
use Rattle.dr_script.specs.{Ranges.HasRanges, Reading.{NotJson, Reading, Reads, TooLong, Wrong, reading_of}}
use Rattle.dr_script.specs.declared.script.Script.{Script}
use Rattle.dr_text.{specs.declared.last.Last.Last, proofs.Reports.whenever}
use Rattle.dr_text.specs.declared.last.Last.TheVariants as lasts
use Rattle.dr_history.{specs.Members.has, proofs.Bits.has_zero}
use Rattle.dr_words.specs.Masks.{IsLeastOf}
use Rattle.dr_yard.specs.Yards.{YardState, empty_yard}
use Rattle.dr_play.specs.Logged.{NoneStopped}
use Rattle.dr_outcome.specs.Last.{first_end, first_told, is_memory, last_by, last_of, refusal_of, some_end, some_so, stopped_by}
use Rattle.dr_outcome.specs.Outcome.{AreAllLate, HasAllLogs, HasDone, HasPlayed, HasRun, IsDue, IsMemoryRun, LeavesRoom, NoneFailed, OfScript, Plays, SaysOnly, TellsDisks, WasPlayedOrNot, body_text, by_run, unrun, unrun_ends}
use Rattle.dr_outcome.specs.Playing.{InFolder, Playing, ends_over, missing_of, part_in, play_ends, with_usage}
use Rattle.dr_outcome.specs.declared.last.Kind.TheVariants.{DiskFault, LogFull, NoMajority, Spent}
use Rattle.dr_outcome.specs.declared.outcome.Outcome.{Outcome}
use Rattle.dr_outcome.proofs.Lasts.{end_so, refusal_status, told_so, rank_by}
use Rattle.dr_outcome.proofs.OutcomeKinds.{Rank, IsLateReading, unplayed, by_no_disk, by_no_full_log, by_no_split, none_so, turns_or_none}
use Rattle.dr_outcome.proofs.Runs.{IsWhole, calm_run, none_spent, none_split, part_lasts, whole_in_memory, whole_lasts, whole_run}
use Rattle.dr_outcome.specs.declared.outcome.Body.TheVariants as bodies

-- the ages of a run, over whatever disks
ages_of : (mode : Mode) (folder : Option InFolder) (part : Part) (script : Script) (before after : YardState)
    (ages : List AgeEnd) (stop : Option Stop) → HasRun mode folder part script before after ages stop
    → (from : YardState) × (to : YardState) × AreAges script part mode 0 from ages to
ages_of mode (Some folder) part script before after ages stop run = (before, run.last, run.course)
ages_of mode None part script before after ages stop run = (empty_yard, run.1.run.last, run.1.run.course)

all_there : (folder : Option InFolder) (script : Script) → HasAllLogs folder script
    → NamesNobody script.members (missing_of folder)
all_there (Some folder) script all = all
all_there None script all = λ m below. has_zero m

-- ---- who is late

-- who takes part and isn't late, if anybody does, decides
pub all_late : (script : Script) (part : Part) (there prompt : ℕ)
    → ((i : ℕ) → has there i ≡ (nat_lt i script.members && not (has part.missing i)))
    → ((i : ℕ) → has prompt i ≡ (has there i && not (has part.late i)))
    → (some first : Option ℕ) → MatchOption some ((i : ℕ) → has there i ≡ false) (IsLeastOf there)
    → MatchOption first ((i : ℕ) → has prompt i ≡ false) (IsLeastOf prompt)
    → MatchBool (is_some some && is_none first) (AreAllLate script part) (HaveSomebodyPrompt script part)
all_late script part there prompt here soon None first nobody least = λ m below taken.
    let taking : has there m ≡ true = grind (arith, nat_tests, here m, below, taken) in
    absurd (true≢false (sym taking ∙ nobody m))
all_late script part there prompt here soon (Some k) None some none = record {
  some = (k, grind (arith, nat_tests, here k, some.member), grind (arith, nat_tests, here k, some.member));
  all = λ m below taken. grind (arith, nat_tests, here m, soon m, none m, below, taken);
}
all_late script part there prompt here soon (Some k) (Some j) some first = λ m below taken. (
  j,
  grind (arith, nat_tests, here j, soon j, first.member),
  grind (arith, nat_tests, here j, soon j, first.member),
  grind (arith, nat_tests, here j, soon j, first.member),
)

-- where nobody is late not all are
pub none_late : (script : Script) (part : Part) → part.late ≡ 0 → AreAllLate script part → ⊥
none_late script part none late = true≢false (sym (late.all late.some.0 late.some.1 late.some.2)
    ∙ (ap (λ mask. has mask late.some.0) none ∙ has_zero late.some.0))

-- nothing is said but a last line
pub says_only : (last : Option Last) (yard : YardState) (o : Outcome) → o.ages ≡ [] → o.stop ≡ None
    → o.body ≡ bodies.Report → o.last ≡ last → SaysOnly last yard yard o
says_only last yard o none unstopped body line = record {
  none = none;
  unstopped = unstopped;
  untouched = refl;
  bare = whenever last (ap₂ body_text body none);
  line = line;
}

-- ---- the last line behind a run, by its parts

-- the refusals of logs are those of status 7
abbrev Refuses : Option Last → Type 0
Refuses logs = (line : Last) → logs ≡ Some line → status_of line ≡ 7

-- it is told with one of these statuses
known_by : (disk : Option ℕ) (logs : Option Last) (full turns split : Option ℕ) → Refuses logs
    → Contains (0 ∷ 6 ∷ 7 ∷ 8 ∷ 9 ∷ 11 ∷ []) (status_of (last_by disk logs full turns split))
known_by (Some m) logs full turns split seven = (1, omega arith, refl)
known_by None (Some line) full turns split seven = (2, omega arith, sym (seven line refl))
known_by None None (Some m) turns split seven = (5, omega arith, refl)
known_by None None None (Some m) split seven = (3, omega arith, refl)
known_by None None None None (Some m) seven = (4, omega arith, refl)
known_by None None None None None seven = (0, omega arith, refl)

accepted_by : (disk : Option ℕ) (logs : Option Last) (full turns split : Option ℕ) → Refuses logs
    → status_of (last_by disk logs full turns split) ≡ 3 → ⊥
accepted_by (Some m) logs full turns split seven is =
    let tells : 6 ≡ 3 = is in omega (arith, tells)
accepted_by None (Some line) full turns split seven is =
    let tells : status_of line ≡ 3 = is in omega (arith, seven line refl, tells)
accepted_by None None (Some m) turns split seven is =
    let tells : 11 ≡ 3 = is in omega (arith, tells)
accepted_by None None None (Some m) split seven is =
    let tells : 8 ≡ 3 = is in omega (arith, tells)
accepted_by None None None None (Some m) seven is =
    let tells : 9 ≡ 3 = is in omega (arith, tells)
accepted_by None None None None None seven is =
    let tells : 0 ≡ 3 = is in omega (arith, tells)

-- that turns were spent is told where nothing is to be told of disks and logs
unfinished_by : (disk : Option ℕ) (logs : Option Last) (full turns split : Option ℕ) → Refuses logs
    → status_of (last_by disk logs full turns split) ≡ 8
    → (is_some disk ≡ false) × (is_some full ≡ false) × (is_some turns ≡ true)
unfinished_by (Some m) logs full turns split seven is =
    let tells : 6 ≡ 8 = is in absurd (omega (arith, tells))
unfinished_by None (Some line) full turns split seven is =
    let tells : status_of line ≡ 8 = is in absurd (omega (arith, seven line refl, tells))
unfinished_by None None (Some m) turns split seven is =
    let tells : 11 ≡ 8 = is in absurd (omega (arith, tells))
unfinished_by None None None (Some m) split seven is = (refl, refl, refl)
unfinished_by None None None None (Some m) seven is =
    let tells : 9 ≡ 8 = is in absurd (omega (arith, tells))
unfinished_by None None None None None seven is =
    let tells : 0 ≡ 8 = is in absurd (omega (arith, tells))

split_by : (disk : Option ℕ) (logs : Option Last) (full turns split : Option ℕ) → Refuses logs
    → status_of (last_by disk logs full turns split) ≡ 9 → is_some split ≡ true
split_by (Some m) logs full turns split seven is =
    let tells : 6 ≡ 9 = is in absurd (omega (arith, tells))
split_by None (Some line) full turns split seven is =
    let tells : status_of line ≡ 9 = is in absurd (omega (arith, seven line refl, tells))
split_by None None (Some m) turns split seven is =
    let tells : 11 ≡ 9 = is in absurd (omega (arith, tells))
split_by None None None (Some m) split seven is =
    let tells : 8 ≡ 9 = is in absurd (omega (arith, tells))
split_by None None None None (Some m) seven is = refl
split_by None None None None None seven is =
    let tells : 0 ≡ 9 = is in absurd (omega (arith, tells))

-- the line behind these ages, where memory was not wanting
abbrev pub line_of : List AgeEnd → Option Stop → Last
line_of ages stop = last_by (first_told DiskFault ages stop) (refusal_of stop) (first_told LogFull ages stop)
    (first_end Spent ages) (first_end NoMajority ages)

pub line_behind : (ages : List AgeEnd) (stop : Option Stop) (line : Last) → last_of ages stop ≡ Some line
    → (is_memory stop ≡ false) × (line_of ages stop ≡ line)
line_behind ages stop line is = elim (cases_Bool (is_memory stop)) [
  | inl wanting ↦ absurd (none-some line (sym (ap (λ b. if b then None else Some (line_of ages stop)) wanting) ∙ is))
  | inr ample ↦ (
    ample,
    same_Some (line_of ages stop) line (sym (ap (λ b. if b then None else Some (line_of ages stop)) ample) ∙ is),
  )
]

-- its status is one of these
pub run_lasts : (ages : List AgeEnd) (stop : Option Stop) (line : Last) → last_of ages stop ≡ Some line
    → Contains (0 ∷ 6 ∷ 7 ∷ 8 ∷ 9 ∷ 11 ∷ []) (status_of line)
run_lasts ages stop line is = subst (λ (status : ℕ). Contains (0 ∷ 6 ∷ 7 ∷ 8 ∷ 9 ∷ 11 ∷ []) status)
    (ap status_of (line_behind ages stop line is).1) (known_by (first_told DiskFault ages stop) (refusal_of stop)
    (first_told LogFull ages stop) (first_end Spent ages) (first_end NoMajority ages) (refusal_status stop))

accepts : (ages : List AgeEnd) (stop : Option Stop) (last : Option Last) → last ≡ last_of ages stop
    → IfSome last (λ line. status_of line ≢ 3)
accepts ages stop None is = tt
accepts ages stop (Some line) is = λ three. accepted_by
    (first_told DiskFault ages stop) (refusal_of stop) (first_told LogFull ages stop) (first_end Spent ages)
    (first_end NoMajority ages) (refusal_status stop) (ap status_of (line_behind ages stop line (sym is)).1 ∙ three)

-- ---- a script that was played

untimely_by : (play : Playing) (script : Script) (before after : YardState) (ages : List AgeEnd)
    (stop : Option Stop) → HasRun play.mode play.folder (part_in play) script before after ages stop → play.mode ≡ Sim
    → HasAllLogs play.folder script → NamesNobody script.members play.late → last_of ages stop ≡ Some lasts.Unfinished → HasTime script → ⊥
untimely_by play script before after ages stop run sim all prompt is time =
    let parts = unfinished_by (first_told DiskFault ages stop) (refusal_of stop) (first_told LogFull ages stop)
    (first_end Spent ages) (first_end NoMajority ages) (refusal_status stop)
    (ap status_of (line_behind ages stop lasts.Unfinished is).1) in
    let disk : some_so DiskFault ages stop ≡ false = sym (told_so DiskFault ages stop) ∙ parts.0 in
    let full : some_so LogFull ages stop ≡ false = sym (told_so LogFull ages stop) ∙ parts.1 in
    let turns : some_end Spent ages ≡ true = sym (end_so Spent ages) ∙ parts.2 in
    let course = ages_of play.mode play.folder (part_in play) script before after ages stop run in
    true≢false (sym turns ∙ none_spent script (part_in play) play.mode 0 course.0 course.1 ages course.2
    (all_there play.folder script all) prompt sim time
    (or_parts (some_end DiskFault ages) (is_some (stopped_by DiskFault stop)) disk).0
    (or_parts (some_end LogFull ages) (is_some (stopped_by LogFull stop)) full).0)

untrusting_by : (play : Playing) (script : Script) (before after : YardState) (ages : List AgeEnd)
    (stop : Option Stop) → HasRun play.mode play.folder (part_in play) script before after ages stop
    → last_of ages stop ≡ Some lasts.NoMajority → SuspectsNobody script → ⊥
untrusting_by play script before after ages stop run is trusting =
    let split : some_end NoMajority ages ≡ true = sym (end_so NoMajority ages)
    ∙ split_by (first_told DiskFault ages stop) (refusal_of stop) (first_told LogFull ages stop)
    (first_end Spent ages) (first_end NoMajority ages) (refusal_status stop)
    (ap status_of (line_behind ages stop lasts.NoMajority is).1) in
    let course = ages_of play.mode play.folder (part_in play) script before after ages stop run in
    true≢false (sym split ∙ none_split script (part_in play) play.mode 0 course.0 course.1 ages course.2 trusting)

-- where there is a last line, memory was not wanting
not_wanting : (ages : List AgeEnd) (stop : Option Stop) (line : Last) → last_of ages stop ≡ Some line
    → stop ≢ Some OutOfMemory
not_wanting ages stop line is wanting = true≢false (sym (ap is_memory wanting) ∙ (line_behind ages stop line is).0)

-- a disk that failed is told
tells_disks : (mode : Mode) (folder : Option InFolder) (part : Part) (script : Script) (before after : YardState)
    (ages : List AgeEnd) (stop : Option Stop) (last : Option Last)
    → HasRun mode folder part script before after ages stop → last ≡ last_of ages stop → TellsDisks before after last
tells_disks mode folder part script before after ages stop None run is = tt
tells_disks mode None part script before after ages stop (Some line) run is =
    inl (λ m. ap (λ (yard : YardState). yard.faults m) run.0)
tells_disks mode (Some folder) part script before after ages stop (Some line) run is =
    by (first_told DiskFault ages stop) refl
  where
    behind : (is_memory stop ≡ false) × (line_of ages stop ≡ line)
    behind = line_behind ages stop line (sym is)

    by : (disk : Option ℕ) → first_told DiskFault ages stop ≡ disk → NoneFailed before after ⊎ (status_of line ≡ 6)
    by None none = inl (calm_run script part mode before after ages stop run
        (sym (told_so DiskFault ages stop) ∙ ap is_some none) behind.0)
    by (Some m) some =
        let named : line_of ages stop ≡ lasts.DiskFault m = ap (λ d. last_by d (refusal_of stop)
        (first_told LogFull ages stop) (first_end Spent ages) (first_end NoMajority ages)) some in
        inr (ap status_of (sym behind.1 ∙ named))

stays_fit : (mode : Mode) (folder : Option InFolder) (part : Part) (script : Script) (before after : YardState)
    (ages : List AgeEnd) (stop : Option Stop) (last : Option Last)
    → HasRun mode folder part script before after ages stop → last ≡ last_of ages stop
    → AreFit script before → IfSome last (λ line. AreFit script after)
stays_fit mode folder part script before after ages stop None run is fit = tt
stays_fit mode (Some name) part script before after ages stop (Some line) run is fit =
    (run.fit fit).fit (not_wanting ages stop line (sym is))
stays_fit mode None part script before after ages stop (Some line) run is fit = subst (AreFit script) (sym run.0) fit

stays_in_step : (mode : Mode) (folder : Option InFolder) (part : Part) (script : Script) (before after : YardState)
    (ages : List AgeEnd) (stop : Option Stop) (last : Option Last)
    → HasRun mode folder part script before after ages stop → last ≡ last_of ages stop
    → NamesNobody script.members part.missing → AreInStep script before → IfSome last (λ line. AreInStep script after)
stays_in_step mode folder part script before after ages stop None run is all step = tt
stays_in_step mode (Some name) part script before after ages stop (Some line) run is all step =
    (run.in_step all step).in_step (not_wanting ages stop line (sym is))
stays_in_step mode None part script before after ages stop (Some line) run is all step =
    subst (AreInStep script) (sym run.0) step

-- a run that has room for all its ages
room_for_all : (folder : Option InFolder) (script : Script) (before after : YardState)
    → LeavesRoom folder script before after → NamesNobody script.members (missing_of folder)
room_for_all (Some folder) script before after room = room.0
room_for_all None script before after room = λ m below. has_zero m

whole_of : (mode : Mode) (folder : Option InFolder) (part : Part) (script : Script) (before after : YardState)
    (ages : List AgeEnd) (stop : Option Stop) → HasRun mode folder part script before after ages stop
    → NamesNobody script.members part.missing → LeavesRoom folder script before after → is_memory stop ≡ false
    → IsWhole script ages stop
whole_of mode (Some folder) part script before after ages stop run all room ample =
    whole_run script part mode before after ages stop run all room.1 room.2 room.3 ample
whole_of mode None part script before after ages stop run all room ample =
    whole_in_memory script part mode ages stop all run.1 ample

all_ages : (play : Playing) (script : Script) (before after : YardState) (ages : List AgeEnd)
    (stop : Option Stop) (last : Option Last) → HasRun play.mode play.folder (part_in play) script before after ages stop
    → last ≡ last_of ages stop → LeavesRoom play.folder script before after
    → IfSome last (λ line. (length ages ≡ script.ages) × Contains (0 ∷ 8 ∷ 9 ∷ []) (status_of line))
all_ages play script before after ages stop None run is room = tt
all_ages play script before after ages stop (Some line) run is room =
    let ample = (line_behind ages stop line (sym is)).0 in
    let whole = whole_of play.mode play.folder (part_in play) script before after ages stop run
    (room_for_all play.folder script before after room) room ample in
    (whole.ages_all, whole_lasts script ages stop line whole ample (sym is))

pub has_played : (play : Playing) (script : Script) (before after : YardState) (o : Outcome)
    → HasRanges script → HaveSomebodyPrompt script (part_in play)
    → HasRun play.mode play.folder (part_in play) script before after o.ages o.stop
    → o.last ≡ last_of o.ages o.stop → HasPlayed play script before after o
has_played play script before after o ranges prompt run line = record {
  ranges = ranges;
  prompt = prompt;
  run = run;
  line = line;
  accepted = accepts o.ages o.stop o.last line;
  untimely = λ sim all none is. untimely_by play script before after o.ages o.stop run sim all none (sym line ∙ is);
  untrusting = λ is. untrusting_by play script before after o.ages o.stop run (sym line ∙ is);
  told = tells_disks play.mode play.folder (part_in play) script before after o.ages o.stop o.last run line;
  fit = λ fit. stays_fit play.mode play.folder (part_in play) script before after o.ages o.stop o.last run line fit;
  in_step = λ all step. stays_in_step play.mode play.folder (part_in play) script before after o.ages o.stop o.last run
      line (all_there play.folder script all) step;
  complete = λ room. all_ages play script before after o.ages o.stop o.last run line room;
}

-- a run by what the code has of a play is one of the play
pub run_played : {view : Playing} {folder : Option InFolder} (play : Playing) (script : Script)
    (before after : YardState) (o : Outcome) → view ≡ play → view.folder ≡ folder
    → HasRun view.mode folder (part_in play) script before after o.ages o.stop
    → HasRun play.mode play.folder (part_in play) script before after o.ages o.stop
run_played {view = view} play script before after o same is run =
    subst (λ (p : Playing). HasRun p.mode p.folder (part_in play) script before after o.ages o.stop) same
    (subst (λ (f : Option InFolder). HasRun view.mode f (part_in play) script before after o.ages o.stop) (sym is) run)

-- nothing was run in memory, or the run there is one that was played, and every yard is as it was
pub memory_played : {view : Playing} (play : Playing) (script : Script) (yard : YardState) (o : Outcome) → view ≡ play
    → view.folder ≡ None → HasRanges script → HaveSomebodyPrompt script (part_in play) → o.body ≡ bodies.Report
    → ((o.ages ≡ []) × (o.stop ≡ None) × (o.last ≡ None)) ⊎ (IsMemoryRun script (part_in play) view.mode o.ages o.stop
    × (o.last ≡ last_of o.ages o.stop)) → SaysOnly None yard yard o ⊎ HasPlayed play script yard yard o
memory_played play script yard o same none ranges prompt body (inl nothing) =
    inl (says_only None yard o nothing.0 nothing.1 body nothing.2)
memory_played {view = view} play script yard o same none ranges prompt body (inr ran) =
    inr (has_played play script yard yard o ranges prompt (run_played play script yard yard o same none (refl, ran.0))
    ran.1)

-- ---- the last lines of commands

-- a last line is due, and its status is among these
abbrev pub EndsIn : List ℕ → Outcome → Type 0
EndsIn ends o = IsDue o × IfSome o.last (λ line. Contains ends (status_of line))

one_more : (end : ℕ) (ends : List ℕ) (last : Option Last) → IfSome last (λ line. Contains ends (status_of line))
    → IfSome last (λ line. Contains (end ∷ ends) (status_of line))
one_more end ends None is = tt
one_more end ends (Some line) is = contains_more end ends (status_of line) is

refused_ends : (ends : List ℕ) (before after : YardState) (o : Outcome) (line : Last) → status_of line ≡ 3
    → SaysOnly (Some line) before after o → EndsIn (3 ∷ ends) o
refused_ends ends before after o line three says = (
  unrun says.none says.unstopped (subst (λ l. IfSome l (λ line. Contains unrun_ends (status_of line)))
      (sym says.line) (2, omega arith, sym three)),
  subst (λ l. IfSome l (λ line. Contains (3 ∷ ends) (status_of line))) (sym says.line) (0, omega arith, sym three),
)

-- of a text that is to be a script
pub script_ends : (Of : Script → Outcome → Type 0) (ends : List ℕ) (before after : YardState) (o : Outcome)
    → ((script : Script) → Of script o → EndsIn ends o) → (r : Reading) → OfScript Of r before after o
    → EndsIn (3 ∷ ends) o
script_ends Of ends before after o each TooLong says = refused_ends ends before after o lasts.TooLong refl says
script_ends Of ends before after o each NotJson says = refused_ends ends before after o lasts.NotJson refl says
script_ends Of ends before after o each (Wrong rule path) says =
    refused_ends ends before after o (lasts.Rule rule path) refl says
script_ends Of ends before after o each (Reads script) is =
    let has = each script is in (has.0, one_more 3 ends o.last has.1)

-- where the yard is as it was no disk has failed
pub same_tells : (before after : YardState) (last : Option Last) → after ≡ before → TellsDisks before after last
same_tells before after None same = tt
same_tells before after (Some line) same = inl (λ m. ap (λ (yard : YardState). yard.faults m) same)

unrun_tells : (before after : YardState) (o : Outcome) (line : Option Last) → SaysOnly line before after o
    → TellsDisks before after o.last
unrun_tells before after o line says = same_tells before after o.last says.untouched

script_tells : (Of : Script → Outcome → Type 0) (before after : YardState) (o : Outcome)
    → ((script : Script) → Of script o → TellsDisks before after o.last) → (r : Reading)
    → OfScript Of r before after o → TellsDisks before after o.last
script_tells Of before after o each TooLong says = unrun_tells before after o (Some lasts.TooLong) says
script_tells Of before after o each NotJson says = unrun_tells before after o (Some lasts.NotJson) says
script_tells Of before after o each (Wrong rule path) says =
    unrun_tells before after o (Some (lasts.Rule rule path)) says
script_tells Of before after o each (Reads script) is = each script is

-- of a script that was played
pub played_ends : (play : Playing) (script : Script) (before after : YardState) (o : Outcome)
    → HasPlayed play script before after o → EndsIn (ends_over play.folder) o
played_ends play script before after o played = (
  by_run played.line,
  by_folder play.folder o.last played.run (sym played.line),
)
  where
    by_folder : (folder : Option InFolder) (last : Option Last)
        → HasRun play.mode folder (part_in (record play { folder = folder })) script before after o.ages o.stop → last_of o.ages o.stop ≡ last → IfSome last (λ line. Contains (ends_over folder) (status_of line))
    by_folder None None run is = tt
    by_folder (Some name) None run is = tt
    by_folder None (Some line) run is = part_lasts script
        (part_in (record play { folder = None })) play.mode o.ages o.stop line (λ m below. has_zero m) run.1 is
    by_folder (Some name) (Some line) run is = run_lasts o.ages o.stop line is

-- the statuses of a run are among those of a play, and so is that of the usage where somebody is late
with_usage_more : (late : ℕ) (ends : List ℕ) (last : Option Last) → IfSome last (λ line. Contains ends (status_of line))
    → IfSome last (λ line. Contains (with_usage late ends) (status_of line))
with_usage_more zero ends last is = is
with_usage_more (suc late) ends last is = one_more 2 ends last is

usage_ends : (play : Playing) (script : Script) (ends : List ℕ) (late : ℕ) → late ≡ play.late
    → AreAllLate script (part_in play) → Contains (with_usage late ends) 2
usage_ends play script ends zero is all = absurd (none_late script (part_in play) (sym is) all)
usage_ends play script ends (suc late) is all = (0, omega arith, refl)

play_or_not_ends : (play : Playing) (script : Script) (before after : YardState) (o : Outcome)
    → WasPlayedOrNot play script before after o → EndsIn (with_usage play.late (ends_over play.folder)) o
play_or_not_ends play script before after o (inl played) =
    let ends = played_ends play script before after o played.0 in
    (ends.0, with_usage_more play.late (ends_over play.folder) o.last ends.1)
play_or_not_ends play script before after o (inr unplayed) = (
  unrun unplayed.1.none unplayed.1.unstopped (subst (λ l. IfSome l (λ line. Contains unrun_ends (status_of line)))
      (sym unplayed.1.line) (1, omega arith, refl)),
  subst (λ l. IfSome l (λ line. Contains (with_usage play.late (ends_over play.folder)) (status_of line)))
      (sym unplayed.1.line) (usage_ends play script (ends_over play.folder) play.late refl unplayed.0),
)

play_or_not_tells : (play : Playing) (script : Script) (before after : YardState) (o : Outcome)
    → WasPlayedOrNot play script before after o → TellsDisks before after o.last
play_or_not_tells play script before after o (inl played) = played.0.told
play_or_not_tells play script before after o (inr unplayed) = unrun_tells before after o (Some lasts.Usage) unplayed.1

pub play_done : (play : Playing) (bytes : List ℕ) (before after : YardState) (o : Outcome)
    → Plays play bytes before after o → HasDone (Plays play bytes) (play_ends play) before after o
play_done play bytes before after o plays =
    let has = script_ends (λ script result. WasPlayedOrNot play script before after result)
    (with_usage play.late (ends_over play.folder)) before after o
    (λ script is. play_or_not_ends play script before after o is) (reading_of bytes) plays in
    record {
      does = plays;
      due = has.0;
      known = has.1;
      told = script_tells (λ script result. WasPlayedOrNot play script before after result) before after o
          (λ script is. play_or_not_tells play script before after o is) (reading_of bytes) plays;
    }

-- ---- a text that is refused

-- a line alone that is another one by name
as_said : (before after : YardState) (o : Outcome) (line other : Option Last) → line ≡ other
    → SaysOnly line before after o → SaysOnly other before after o
as_said before after o line other same says = subst (λ l. SaysOnly l before after o) same says

-- where there was memory for a line it is that of the refusal
pub refused_of : (Of : Script → Outcome → Type 0) (before after : YardState) (o : Outcome)
    (line : Option Last) (r : Reading) → ((l : Last) → line ≡ Some l → refusal_in r ≡ Some l) → SaysOnly line before after o
    → SaysOnly None before after o ⊎ OfScript Of r before after o
refused_of Of before after o None r refusal says = inl says
refused_of Of before after o (Some l) TooLong refusal says =
    inr (as_said before after o (Some l) (refusal_in TooLong) (sym (refusal l refl)) says)
refused_of Of before after o (Some l) NotJson refusal says =
    inr (as_said before after o (Some l) (refusal_in NotJson) (sym (refusal l refl)) says)
refused_of Of before after o (Some l) (Wrong rule path) refusal says =
    inr (as_said before after o (Some l) (refusal_in (Wrong rule path)) (sym (refusal l refl)) says)
refused_of Of before after o (Some l) (Reads script) refusal says = absurd (none-some l (refusal l refl))

-- the status behind the ages of a run
pub run_rank : (o : Outcome) (status : ℕ) (line : Last) → last_of o.ages o.stop ≡ Some line
    → status ≡ status_of line → Rank o status
run_rank o status line is due = rank_by o status (first_told DiskFault o.ages o.stop) (refusal_of o.stop)
    (first_told LogFull o.ages o.stop) (first_end Spent o.ages) (first_end NoMajority o.ages) refl refl refl refl refl
    (due ∙ sym (ap status_of (line_behind o.ages o.stop line is).1))

-- the usage tells of no ages
run_lacks_usage : (ages : List AgeEnd) (stop : Option Stop) (line : Last) → last_of ages stop ≡ Some line
    → status_of line ≡ 2 → ⊥
run_lacks_usage ages stop line is two = lacks 2 (0 ∷ 6 ∷ 7 ∷ 8 ∷ 9 ∷ 11 ∷ []) (
  λ e. omega (arith, e),
  (
    λ e. omega (arith, e),
    (λ e. omega (arith, e), (λ e. omega (arith, e), (λ e. omega (arith, e), (λ e. omega (arith, e), tt)))),
  ),
) (subst (Contains (0 ∷ 6 ∷ 7 ∷ 8 ∷ 9 ∷ 11 ∷ [])) two (run_lasts ages stop line is))

pub late_reading : (play : Playing) (before after : YardState) (o : Outcome) (line : Last) (r : Reading)
    → OfScript (λ script result. WasPlayedOrNot play script before after result) r before after o
    → o.last ≡ Some line → status_of line ≡ 2 → IsLateReading play r
late_reading play before after o line TooLong says is two =
    absurd (other_line lasts.TooLong line o.last refl says.line is two)
late_reading play before after o line NotJson says is two =
    absurd (other_line lasts.NotJson line o.last refl says.line is two)
late_reading play before after o line (Wrong rule path) says is two =
    absurd (other_line (lasts.Rule rule path) line o.last refl says.line is two)
late_reading play before after o line (Reads script) (inl played) is two =
    absurd (run_lacks_usage o.ages o.stop line (sym played.0.line ∙ is) two)
late_reading play before after o line (Reads script) (inr unplayed) is two = (script, refl, unplayed.0)

-- the last line tells of nothing but turns
pub live_lasts : (ages : List AgeEnd) (line : Last) → All (λ (age : AgeEnd). NoneStopped age.members) ages
    → All (λ (age : AgeEnd). NoneLeft age.members) ages → last_of ages None ≡ Some line
    → Contains (0 ∷ 8 ∷ []) (status_of line)
live_lasts ages line stored calm is = turns_or_none (first_told DiskFault ages None)
    (refusal_of None) (first_told LogFull ages None) (first_end Spent ages)
    (first_end NoMajority ages) line (told_so DiskFault ages None ∙ or_from (some_end DiskFault ages) false
    (none_so DiskFault by_no_disk ages stored calm) refl) refl (told_so LogFull ages None
    ∙ or_from (some_end LogFull ages) false (none_so LogFull by_no_full_log ages stored calm) refl)
    (end_so NoMajority ages ∙ none_so NoMajority by_no_split ages stored calm) (line_behind ages None line is).1
