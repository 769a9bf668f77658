-- Ages that came one after the other are a run.
use Rattle.std.{specs.Prelude.{IfSome, Option, None, Some, slice_get}, proofs.lemmas.Bool.Decides.nat_tests}
use Rattle.std.proofs.Common.{◌≡◌, ◌≢◌, ◌⊎◌, refl, sym, ap, ◌∙◌, subst, inl, inr, ℕ, ◌+◌, ◌^◌, ◌≤◌, arith, false, List, [], ◌∷◌, ◌++◌, append-nil, length, take, get_or, ◌-◌, ◌<◌, ◌&&◌, not, true}
use Rattle.std.proofs.lemmas.{List.Elements.{All-cons, All-nil}, Option.{slice_get-get_or, slice_get_within}}
use Rattle.dr_play.specs.Logged.{NoneFull}
use Rattle.dr_disk.{specs.{Disk.Told, Images.IsLeft}, proofs.{Images.left_so, Moments.Goes-last}}
use Rattle.dr_entry.specs.declared.{end.{AgeEnd.AgeEnd, MemberEnd.MemberEnd}, entry.Entry.Entry}
use Rattle.dr_history.{specs.{History.IsPrefixOf, Members.has}, proofs.Bits.{has_zero, has_ones}}
use Rattle.dr_log.specs.Standing.{HasAllOf, LosesNone}
use Rattle.dr_log.proofs.Ordinary.{entries_kept, has_itself, none_lost, ordinary_keeps}
use Rattle.dr_log_bytes.specs.{Content.OnLog, Grammar.StandFor}
use Rattle.dr_opening.specs.Tries.{IsChosenOf}
use Rattle.dr_program.specs.{Program.end_of, Replica.Replica}
use Rattle.dr_restart.specs.{Groups.first_group_of, declared.start.Start.Start}
use Rattle.dr_script.specs.{Ranges.HasRanges, declared.script.Script.Script}
use Rattle.dr_yard.specs.Yards.{AllTell, AreEmpty, YardState}
use Rattle.dr_words.proofs.Masks.{has_mask_of}
use Rattle.dr_served.{specs.Served.{HasDueBehind, entries_due}, proofs.Served.ordinary_due}
use Rattle.dr_ages.specs.Ages.{AreAges, IsAgeOf, NamesNobody, start_of, starts_of, all_but, taking_part}
use Rattle.dr_ages.specs.{Fit.{AreFit, AreInStep}, Lacking.LackedMemory, declared.stop.Stop.Stop}
use Rattle.dr_ages.specs.{Found.{AreFound, AreRoomy}, declared.{mode.Mode.{Mode, TheVariants.Run}, part.Part.Part}}
use Rattle.dr_ages.specs.{Left.{HasLeft, with_logged}, Passing.{AllBeginWith, AreKeptSince, AreUntouched, PassOn}}
use Rattle.dr_ages.specs.Runs.{HaveEndedWith, HasFinished, HaveLogged, IsFitRun, IsFreshRun, IsKeptRun, IsRoomyRun, IsRunInStep, IsRunOf, with_these}
use Rattle.dr_ages.specs.{Stops.{AreChosenIn, HasKept, HasMounted, HasStopped, IsBadLogs, IsOutside}, Tried.AreTried}
use Rattle.dr_ages.specs.declared.stop.Stop.TheVariants.{OutOfMemory, DiskFault, LogFull, Damaged, Disagree, Foreign, NoQuorum, AgesUsedUp}
use Rattle.dr_ages.proofs.Chain.{ages_pass, ends_with, kept_passes, last_age, passes_none, passes_on, tell_behind}
use Rattle.dr_ages.proofs.Fresh.{IsRoomyAt, fresh_first, fresh_start, roomy_ages, roomy_first, roomy_last, roomy_lasts, roomy_numbers, roomy_stop}
use Rattle.dr_ages.proofs.{Good.{age_never, found_whole}, InStep.{age_step, step_good, step_never, tried_step}}
use Rattle.dr_ages.proofs.{Keeping.{are_kept, behind, ended_over, logged_first, told_there}, Refusals.refused_run}
use Rattle.dr_ages.proofs.{Lasting.{ages_lasting, fit_never, readable_tell, tried_lasting}, Votes.age_told}

-- what an age leaves is not refused
never : (script : Script) (part : Part) (mode : Mode) (before : YardState) (ages : List AgeEnd)
    (last after : YardState) (chosen : List (List Entry)) (stop : Option Stop) → HasRanges script
    → AreAges script part mode 0 before ages last → HasFinished script part last after chosen ages stop
    → AllTell script.members before → ages ≢ [] → IfSome stop (λ s. IsBadLogs s → ⊥)
never script part mode before ages last after chosen None ranges are end tell some = tt
never script part mode before [] last after chosen (Some stop) ranges are end tell some = absurd (some refl)
never script part mode before (one ∷ ages) last after chosen (Some stop) ranges are end tell some =
    let r = last_age script part mode 0 before one ages last are in
    age_never script part r.mode r.nth r.before last after r.age stop ranges r.is
    (tell_behind script part mode 0 before (one ∷ ages) last are tell) end.1

-- an opening that stopped has kept what it mounted, but for entries that these starts lack
abbrev pub IsKeptBy : Script → ℕ → YardState → YardState → List (List Entry) → Stop → Type 0
IsKeptBy script missing last after chosen stop = (k : HasKept script missing last after stop) × (k.starts ≡ chosen)

-- and what it has left on disks that told is as before, or a try, unless memory was wanting
abbrev pub IsTriedBy : Script → ℕ → YardState → YardState → Stop → Type 0
IsTriedBy script missing last after stop =
    AllTell script.members last → stop ≢ OutOfMemory → AreTried script missing last after

few_ages : (script : Script) (part : Part) (last after : YardState) (chosen : List (List Entry)) (ages : List AgeEnd)
    (stop : Option Stop) → HasRanges script → HasFinished script part last after chosen ages stop → length ages ≤ 16
few_ages script part last after chosen ages None ranges end = omega (arith, end.0, ranges.most_ages)
few_ages script part last after chosen ages (Some stop) ranges end = omega (arith, end.0, ranges.most_ages)

-- how the disks of its last opening went
last_passes : (script : Script) (part : Part) (last after : YardState) (chosen : List (List Entry))
    (ages : List AgeEnd) (stop : Option Stop) → HasFinished script part last after chosen ages stop
    → PassOn chosen last after
last_passes script part last after chosen ages None end =
    subst (λ (starts : List (List Entry)). PassOn starts last after) (sym end.2)
    (subst (PassOn [] last) end.1 (passes_none last))
last_passes script part last after chosen ages (Some stop) end = end.3

fresh_run : (script : Script) (part : Part) (mode : Mode) (before : YardState) (ages : List AgeEnd)
    (last after : YardState) (chosen : List (List Entry)) (stop : Option Stop) → HasRanges script
    → AreAges script part mode 0 before ages last → HasFinished script part last after chosen ages stop
    → NamesNobody script.members part.missing → AreEmpty script.members before → IsFreshRun ages stop
fresh_run script part mode before ages last after chosen stop ranges are end none empty = record {
  numbered = λ i age at. omega (arith, (each i age at).0);
  first = λ age at. fresh_start script part mode 0 before ages last age empty are at;
  roomy = λ i d l. (each i (get_or ages i d) (slice_get-get_or ages i d l)).1;
  stopped = stopped stop end;
}
  where
    begun : IsRoomyAt script 9 0 0 before
    begun = fresh_first script before empty

    each : (i : ℕ) (age : AgeEnd) → slice_get ages i ≡ Some age → (age.age ≡ 0 + 0 + i) × NoneFull age.members
    each i age at = roomy_ages script part mode 9 0 0 0 before ages last i age ranges none (omega arith)
        (omega (arith, few_ages script part last after chosen ages stop ranges end)) begun are at

    stopped : (s : Option Stop) → HasFinished script part last after chosen ages s → IfSome s IsOutside
    stopped None is = tt
    stopped (Some s) is =
        let few = few_ages script part last after chosen ages (Some s) ranges is in
        roomy_stop script part 9 0 (0 + length ages) last after s ranges none (omega arith) (omega (arith, few))
        (omega (arith, few)) (roomy_last script part mode 9 0 0 0 before ages last ranges none begun are) is.1

-- where the disks are fit, and their logs are roomy, no log is full, and each age is opened
roomy_run : (script : Script) (part : Part) (mode : Mode) (before : YardState) (ages : List AgeEnd)
    (last after : YardState) (chosen : List (List Entry)) (stop : Option Stop) → HasRanges script
    → AreAges script part mode 0 before ages last → HasFinished script part last after chosen ages stop
    → NamesNobody script.members part.missing → AreInStep script before → AreRoomy script before
    → IsRoomyRun ages stop
roomy_run script part mode before ages last after chosen stop ranges are end none step roomy = record {
  roomy = λ i d l. (each ages are end i (get_or ages i d) (slice_get-get_or ages i d l)).1;
  stopped = stopped stop ages are end;
}
  where
    begins : (contents : List (Option OnLog)) (start : Start) → AreFound script.members part.missing before contents
        → IsChosenOf (first_group_of script).opening contents start → IsRoomyAt script 536870912 start.age 0 before
    begins contents start found is =
        roomy_first script before contents start ranges (readable_tell script.members before step.readable) (step_good script before step) roomy
        (found_whole script.members part.missing before contents none found) is

    numbers : (contents : List (Option OnLog)) (start : Start) → AreFound script.members part.missing before contents
        → IsChosenOf (first_group_of script).opening contents start → start.age + script.ages ≤ 2 ^ 16
    numbers contents start found is = roomy_numbers script before contents start ranges roomy
        (found_whole script.members part.missing before contents none found) is

    each : (ages : List AgeEnd) → AreAges script part mode 0 before ages last
        → HasFinished script part last after chosen ages stop → (i : ℕ) (age : AgeEnd)
        → slice_get ages i ≡ Some age → ℕ × NoneFull age.members
    each [] are end i age at = absurd (omega (arith, slice_get_within [] i age at))
    each (one ∷ ages) are end i age at =
        let r = roomy_ages script part mode 536870912 one.age 0 0 before (one ∷ ages) last i age ranges none
        (omega arith) (omega (arith, few_ages script part last after chosen (one ∷ ages) stop ranges end))
        (begins are.1.contents (start_of script part one) are.1.found are.1.starts) are at in
        (0, r.1)

    early : (s : Stop) → HasStopped script part before after s → IsOutside s
    early OutOfMemory is = tt
    early (DiskFault m) is = tt
    early (LogFull m len) is =
        roomy_stop script part 536870912 is.start.age 0 before after (LogFull m len) ranges none (omega arith)
        (omega arith) (omega (arith, numbers is.contents is.start is.found is.chosen, ranges.some_age))
        (begins is.contents is.start is.found is.chosen) is
    early (Damaged m at) is = step_never script part before after (Damaged m at) ranges.group none step is tt
    early (Disagree a b p) is = step_never script part before after (Disagree a b p) ranges.group none step is tt
    early (Foreign m p) is = step_never script part before after (Foreign m p) ranges.group none step is tt
    early (NoQuorum v h n) is = step_never script part before after (NoQuorum v h n) ranges.group none step is tt
    early AgesUsedUp is = absurd (roomy_lasts script before is.0 ranges roomy
        (found_whole script.members part.missing before is.0 none is.1) is.2)

    stopped : (s : Option Stop) (ages : List AgeEnd) → AreAges script part mode 0 before ages last
        → HasFinished script part last after chosen ages s → IfSome s IsOutside
    stopped None ages are is = tt
    stopped (Some s) [] are is = early s (subst (λ (y : YardState). HasStopped script part y after s) (sym are) is.1)
    stopped (Some s) (one ∷ ages) are is =
        let few = few_ages script part last after chosen (one ∷ ages) (Some s) ranges is in
        roomy_stop script part 536870912 one.age (0 + length (one ∷ ages)) last after s ranges none (omega arith)
        (omega (arith, few))
        (omega (arith, numbers are.1.contents (start_of script part one) are.1.found are.1.starts, is.0))
        (roomy_last script part mode 536870912 one.age 0 0 before (one ∷ ages) last ranges none
        (begins are.1.contents (start_of script part one) are.1.found are.1.starts) are) is.1

-- what was found on the disks is kept
kept_run : (script : Script) (part : Part) (mode : Mode) (before : YardState) (ages : List AgeEnd)
    (last after : YardState) (chosen : List (List Entry)) (stop : Option Stop) → HasRanges script
    → AreAges script part mode 0 before ages last → HasFinished script part last after chosen ages stop
    → IfSome stop (IsKeptBy script part.missing last after chosen)
    → IsKeptRun script part.missing (starts_of ages ++ chosen) before after ages stop
kept_run script part mode before [] last after chosen None ranges are end kept =
    absurd (omega (arith, end.0, ranges.some_age))
kept_run script part mode before [] last after chosen (Some stop) ranges are end kept = record {
  mounted = kept.0.mounted;
  since = subst (λ (starts : List (List Entry)). AreKeptSince script.members part.missing kept.0.mounted starts before after)
      kept.1
      (subst (λ (y : YardState). AreKeptSince script.members part.missing kept.0.mounted kept.0.starts y after) (sym are)
      kept.0.since);
  all = λ some. absurd (some refl);
  count = λ none. subst (λ (y : YardState). HasMounted script.members part.missing y after kept.0.mounted stop)
      (sym are) kept.0.count;
}
kept_run script part mode before (age ∷ ages) last after chosen stop ranges are end kept = record {
  mounted = script.members;
  since = kept_passes script.members part.missing (age.start ∷ []) (starts_of ages ++ chosen) before are.0 after are.1.since
      (passes_on (starts_of ages) chosen are.0 last after (ages_pass script part mode 1 are.0 ages last are.2)
      (last_passes script part last after chosen (age ∷ ages) stop end));
  all = λ some. refl;
  count = λ none. absurd (cc);
}

-- the disks of the missing are as they were
ages_untouched : (script : Script) (part : Part) (mode : Mode) (nth : ℕ) (before : YardState) (ages : List AgeEnd)
    (last : YardState) → AreAges script part mode nth before ages last → AreUntouched part.missing before last
ages_untouched script part mode nth before [] last are m gone =
    subst (λ (y : YardState). (y.told m ≡ before.told m) × (y.faults m ≡ before.faults m)) are (refl, refl)
ages_untouched script part mode nth before (age ∷ ages) last are m gone =
    let one = are.1.untouched m gone in
    let rest = ages_untouched script part mode (nth + 1) are.0 ages last are.2 m gone in
    (rest.0 ∙ one.0, rest.1 ∙ one.1)

run_untouched : (script : Script) (part : Part) (mode : Mode) (before : YardState) (ages : List AgeEnd)
    (last after : YardState) (chosen : List (List Entry)) (stop : Option Stop)
    → AreAges script part mode 0 before ages last → HasFinished script part last after chosen ages stop
    → IfSome stop (IsKeptBy script part.missing last after chosen) → AreUntouched part.missing before after
run_untouched script part mode before ages last after chosen None are end kept m gone =
    subst (AreUntouched part.missing before) end.1 (ages_untouched script part mode 0 before ages last are) m gone
run_untouched script part mode before ages last after chosen (Some stop) are end kept m gone =
    let one = ages_untouched script part mode 0 before ages last are m gone in
    let rest = kept.0.untouched m gone in (rest.0 ∙ one.0, rest.1 ∙ one.1)

-- ---- what was logged in the last age is kept

-- the start that was chosen behind an age has all that its member has logged
chosen_has : (script : Script) (part : Part) (mode : Mode) (nth : ℕ) (before last after : YardState) (age : AgeEnd)
    (chosen : List (List Entry)) (ages : List AgeEnd) (stop : Option Stop) (m : ℕ) (e : MemberEnd)
    → HasRanges script → IsAgeOf script part mode nth before last age → AllTell script.members last
    → HasFinished script part last after chosen ages stop → slice_get age.members m ≡ Some e
    → has part.missing m ≡ false → AllBeginWith (take e.logged e.history) chosen
chosen_has script part mode nth before last after age chosen ages None m e ranges is tell end at there =
    subst (AllBeginWith (take e.logged e.history)) (sym end.2)
    (All-nil (λ (start : List Entry). IsPrefixOf (take e.logged e.history) start))
chosen_has script part mode nth before last after age chosen ages (Some stop) m e ranges is tell end at there =
    by end.2
  where
    by : AreChosenIn script part.missing last chosen → AllBeginWith (take e.logged e.history) chosen
    by (inl none) = subst (AllBeginWith (take e.logged e.history)) (sym none)
        (All-nil (λ (start : List Entry). IsPrefixOf (take e.logged e.history) start))
    by (inr (contents, found, of)) = subst (AllBeginWith (take e.logged e.history)) (sym of.2)
        (All-cons (λ (start : List Entry). IsPrefixOf (take e.logged e.history) start) of.0.entries []
        (logged_first script part last age contents of.0 m e
        (behind script part mode nth before last age ranges is tell contents found) of.1 at there)
        (All-nil (λ (start : List Entry). IsPrefixOf (take e.logged e.history) start)))

left_has : (o : Option Told) (r : Replica) (base first : OnLog) → HasAllOf first (with_logged base r)
    → HasLeft o r base → IsLeft o (LosesNone first)
left_has o r base first has left = by left
  where
    with_due : (after : OnLog) → HasDueBehind r (with_logged base r) after → HasAllOf first after
    with_due after (inl (next, due, is)) = subst (HasAllOf first) (sym is)
        (ordinary_keeps next first (with_logged base r) (ordinary_due r next due) has)
    with_due after (inr is) = subst (HasAllOf first) (sym is)
        (entries_kept (entries_due r) first (with_logged base r) has)

    either : (image : List ℕ) (after : OnLog) → HasDueBehind r (with_logged base r) after
        → StandFor image (with_logged base r) ⊎ StandFor image after → LosesNone first image
    either image after due (inl is) = none_lost first (with_logged base r) image has is
    either image after due (inr is) = none_lost first after image (with_due after due) is

    by : HasLeft o r base → IsLeft o (LosesNone first)
    by (inl safe) = left_so o (λ image. StandFor image (with_logged base r)) (LosesNone first)
        (λ image is. none_lost first (with_logged base r) image has is) safe
    by (inr broken) = left_so o (λ image. StandFor image (with_logged base r) ⊎ StandFor image broken.after)
        (LosesNone first) (λ image is. either image broken.after broken.due is) broken.left

-- a log with what the member has logged has these entries
has_logged : (r : Replica) (base : OnLog) → HasAllOf (with_these (take r.logged r.history)) (with_logged base r)
has_logged r base = record {
  more_entries = [];
  more_votes = base.votes ++ r.votes;
  more_age_votes = base.age_votes;
  entries = sym (append-nil (take r.logged r.history));
  votes = refl;
  age_votes = refl;
}

logged_kept : (script : Script) (part : Part) (mode : Mode) (before : YardState) (ages : List AgeEnd)
    (last after : YardState) (chosen : List (List Entry)) (stop : Option Stop) → HasRanges script
    → AreAges script part mode 0 before ages last → HasFinished script part last after chosen ages stop
    → AllTell script.members before → HaveLogged part.missing ages after
logged_kept script part mode before ages last after chosen stop ranges are end tell earlier age m e is at there =
    let a = ends_with script part mode 0 before ages last earlier age are is in
    let x = ended_over script part mode a.0 a.1 last age a.2 m e at there in
    let logged = with_these (take e.logged e.history) in
    Goes-last (last.told m) (after.told m) (LosesNone logged)
    ((last_passes script part last after chosen ages stop end m).stays logged
    (chosen_has script part mode a.0 a.1 last after age chosen ages stop m e ranges a.2
    (tell_behind script part mode 0 before ages last are tell) end at there)
    (subst (λ (end : MemberEnd). IsLeft (last.told m) (LosesNone (with_these (take end.logged end.history)))) x.is
    (left_has (last.told m) x.r.replica (a.2.begun m) (with_these (take x.r.replica.logged x.r.replica.history))
    (has_logged x.r.replica (a.2.begun m)) (a.2.left m x.r x.at))))

-- and so are the votes
voted_kept : (script : Script) (part : Part) (mode : Mode) (before : YardState) (ages : List AgeEnd)
    (last after : YardState) (chosen : List (List Entry)) (stop : Option Stop) → HasRanges script
    → AreAges script part mode 0 before ages last → HasFinished script part last after chosen ages stop
    → AllTell script.members before → HaveEndedWith script part mode ages last after
voted_kept script part mode before ages last after chosen stop ranges are end tell earlier age nth start same is m r at =
    let x = age_told mode script (start_of script part age) nth age is.played m r at in
    let logged = with_logged (is.begun m) r.replica in
    Goes-last (last.told m) (after.told m) (LosesNone logged)
    ((last_passes script part last after chosen ages stop end m).stays logged
    (chosen_has script part mode nth start last after age chosen ages stop m (end_of r) ranges is
    (tell_behind script part mode 0 before ages last are tell) end x
    (told_there script part mode nth start last age ranges is m r at))
    (left_has (last.told m) r.replica (is.begun m) logged (has_itself logged) (is.left m r at)))

-- ---- fit disks stay fit, and those in step stay so

tried_run : (script : Script) (part : Part) (mode : Mode) (before : YardState) (ages : List AgeEnd)
    (last after : YardState) (stop : Option Stop) → AreAges script part mode 0 before ages last
    → IfSome stop (IsTriedBy script part.missing last after) → AllTell script.members before
    → IfSome stop (λ s. s ≢ OutOfMemory → AreTried script part.missing last after)
tried_run script part mode before ages last after None are tried tell = tt
tried_run script part mode before ages last after (Some stop) are tried tell =
    tried (tell_behind script part mode 0 before ages last are tell)

fit_run : (script : Script) (part : Part) (mode : Mode) (before : YardState) (ages : List AgeEnd)
    (last after : YardState) (chosen : List (List Entry)) (stop : Option Stop) → HasRanges script
    → AreAges script part mode 0 before ages last → HasFinished script part last after chosen ages stop
    → IfSome stop (IsTriedBy script part.missing last after) → AreFit script before → IsFitRun script part after stop
fit_run script part mode before ages last after chosen None ranges are end tried fit = record {
  never = λ none. tt;
  fit = λ other. subst (AreFit script) end.1 (ages_lasting script part mode 0 before ages last [] ranges are fit);
}
fit_run script part mode before ages last after chosen (Some stop) ranges are end tried fit =
    let now = ages_lasting script part mode 0 before ages last [] ranges are fit in
    record {
      never = λ none. fit_never script part last after stop ranges.group none now end.1;
      fit = λ other. tried_lasting script part.missing last after []
          (tried (readable_tell script.members last now.readable) (λ same. other (ap Some same))) now;
    }

step_last : (script : Script) (part : Part) (mode : Mode) (before : YardState) (ages : List AgeEnd) (last : YardState)
    → HasRanges script → NamesNobody script.members part.missing → AreAges script part mode 0 before ages last
    → AreInStep script before → AreInStep script last
step_last script part mode before [] last ranges none are step = subst (AreInStep script) are step
step_last script part mode before (one ∷ ages) last ranges none are step =
    let r = last_age script part mode 0 before one ages last are in
    age_step script part r.mode r.nth r.before last r.age ranges none r.is
    (tell_behind script part mode 0 before (one ∷ ages) last are (readable_tell script.members before step.readable))

step_run : (script : Script) (part : Part) (mode : Mode) (before : YardState) (ages : List AgeEnd)
    (last after : YardState) (chosen : List (List Entry)) (stop : Option Stop) → HasRanges script
    → AreAges script part mode 0 before ages last → HasFinished script part last after chosen ages stop
    → IfSome stop (IsTriedBy script part.missing last after) → NamesNobody script.members part.missing
    → AreInStep script before → IsRunInStep script after stop
step_run script part mode before ages last after chosen None ranges are end tried none step = record {
  never = tt;
  in_step = λ other. subst (AreInStep script) end.1 (step_last script part mode before ages last ranges none are step);
}
step_run script part mode before ages last after chosen (Some stop) ranges are end tried none step =
    let now = step_last script part mode before ages last ranges none are step in
    record {
      never = step_never script part last after stop ranges.group none now end.1;
      in_step = λ other. tried_step script part.missing last after ranges.group none
          (tried (readable_tell script.members last now.readable) (λ same. other (ap Some same))) now;
    }

pub a_run : (script : Script) (part : Part) (mode : Mode) (before : YardState) (ages : List AgeEnd)
    (last after : YardState) (stop : Option Stop) (chosen : List (List Entry)) → HasRanges script
    → AreAges script part mode 0 before ages last → HasFinished script part last after chosen ages stop
    → IfSome stop (IsKeptBy script part.missing last after chosen) → IfSome stop (IsTriedBy script part.missing last after)
    → (stop ≡ Some OutOfMemory → LackedMemory script part mode last after)
    → IsRunOf script part mode before after ages stop
a_run script part mode before ages last after stop chosen ranges are end kept tried lacked = record {
  last = last;
  course = are;
  chosen = chosen;
  finish = end;
  lacked = lacked;
  passes = passes_on (starts_of ages) chosen before last after (ages_pass script part mode 0 before ages last are)
      (last_passes script part last after chosen ages stop end);
  untouched = run_untouched script part mode before ages last after chosen stop are end kept;
  kept = are_kept script part mode before ages last ranges are;
  never = never script part mode before ages last after chosen stop ranges are end;
  fresh = fresh_run script part mode before ages last after chosen stop ranges are end;
  since = kept_run script part mode before ages last after chosen stop ranges are end kept;
  logged = logged_kept script part mode before ages last after chosen stop ranges are end;
  voted = voted_kept script part mode before ages last after chosen stop ranges are end;
  tried = tried_run script part mode before ages last after stop are tried;
  fit = fit_run script part mode before ages last after chosen stop ranges are end tried;
  in_step = step_run script part mode before ages last after chosen stop ranges are end tried;
  roomy = roomy_run script part mode before ages last after chosen stop ranges are end;
  refused = λ tell. refused_run script part mode before ages last after chosen stop ranges are end
      (never script part mode before ages last after chosen stop ranges are end tell) tell;
}

-- no log is missing
pub none_lacks : (n : ℕ) → NamesNobody n 0
none_lacks n m below = has_zero m

pub one_age : (script : Script) (before after : YardState) (ages : List AgeEnd) (age : AgeEnd)
    → IsRunOf script (all_but 0) Run before after ages None → ages ≡ age ∷ []
    → IsAgeOf script (all_but 0) Run 0 before after age
one_age script before after ages age run is =
    let one = subst (λ (l : List AgeEnd). AreAges script (all_but 0) Run 0 before l run.last) is run.course in
    subst (λ (y : YardState). IsAgeOf script (all_but 0) Run 0 before y age) (one.2 ∙ run.finish.1) one.1

-- who is not missing takes part
pub there_takes_part : (script : Script) (missing m : ℕ) → script.members ≤ 16 → m < script.members
    → has missing m ≡ false → has (taking_part script missing) m ≡ true
there_takes_part script missing m few below there = grind (
  arith,
  nat_tests,
  has_mask_of (λ k. has (2 ^ script.members - 1) k && not (has missing k)) m,
  has_ones script.members m,
  below,
  few,
  there,
)
