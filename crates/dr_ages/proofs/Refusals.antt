-- For what the logs of a run are refused.
use Rattle.std.specs.Prelude.{IfSome, IsSomeAnd, IsTrue, Option, None, Some, is_some}
use Rattle.std.proofs.Common.{◌≡◌, ◌≢◌, ◌⊎◌, refl, sym, ap, ◌∙◌, subst, inl, inr, ℕ, ◌<◌, arith, not, List, [], ◌∷◌, ◌++◌, length}
use Rattle.dr_disk.specs.Disk.{Told, content_of}
use Rattle.dr_entry.specs.declared.{end.AgeEnd.AgeEnd, entry.Entry.Entry}
use Rattle.dr_kept.proofs.Returning.{refused_behind}
use Rattle.dr_log_bytes.{specs.{Content.OnLog, Grammar.IsDamaged}, proofs.Grammars.some_there}
use Rattle.dr_opening.specs.{Lists.all_as_lists, Tries.{IsChosenOf, content_at}}
use Rattle.dr_quorum.specs.Handing.{handed_by}
use Rattle.dr_restart.specs.{Groups.first_group_of, Refusing.Refusal, declared.start.Start.Start}
use Rattle.dr_restart.proofs.Refusals.{no-refusal, one-refusal}
use Rattle.dr_script.specs.{Ranges.HasRanges, declared.script.Script.Script}
use Rattle.dr_log.proofs.Standing.{readable, one_place}
use Rattle.dr_yard.{specs.Yards.{AllTell, YardState}, proofs.YardStates.fewer_tell}
use Rattle.dr_ages.specs.{Ages.{AreAges, start_of}, Found.AreFound}
use Rattle.dr_ages.specs.{Refused.{AreRead, AreReadSo, IsFirstDamaged, IsRefusal}, declared.mode.Mode.Mode}
use Rattle.dr_ages.{specs.Runs.{HasFinished, IsRightlyRefused, IsStoppedBy}, proofs.Reading.{found_read, read_once}}
use Rattle.dr_ages.specs.Stops.{AreRefusedFor, HasStopped, IsBadLogs, IsOfLogs, IsOutside, ReadsDamaged}
use Rattle.dr_ages.{specs.declared.{part.Part.Part, stop.Stop.Stop}, proofs.Chain.{ends_with, tell_behind}}
use Rattle.dr_ages.specs.declared.stop.Stop.TheVariants.{OutOfMemory, DiskFault, LogFull, Damaged, Disagree, Foreign, NoQuorum, AgesUsedUp}
use Rattle.dr_ages.proofs.Keeping.{IsBehind, age_next, behind, left_from, of_choice, over_behind}

-- ---- what was found is refused as it reads

-- logs that are found so read so
found_so : (script : Script) (missing : ℕ) (before : YardState) (why : Refusal) → AllTell script.members before
    → (is : (contents : List (Option OnLog)) × AreFound script.members missing before contents
    × AreRefusedFor script why contents) → AreReadSo script missing before (AreRefusedFor script why)
found_so script missing before why tell is = (is.0, found_read script.members missing before is.0 tell is.1, is.2)

pub stop_refusal : (script : Script) (part : Part) (before after : YardState) (s : Stop)
    → AllTell script.members before → HasStopped script part before after s → IsOfLogs s
    → IsRefusal script part.missing before s
stop_refusal script part before after (Damaged m at) tell is of = record {
  below = is.below;
  there = is.there;
  damaged = damaged (before.told m) (tell m is.below) is.damaged;
  contents = is.contents;
  read = found_read m part.missing before is.contents
      (fewer_tell m script.members before (omega (arith, is.below)) tell) is.found;
}
  where
    damaged : (o : Option Told) → IsTrue (is_some o) → IfSome o (ReadsDamaged at)
        → IsSomeAnd o (λ t. IsDamaged (content_of t) at)
    damaged None some reads = absurd (cc)
    damaged (Some t) some reads = reads.damaged
stop_refusal script part before after (Disagree a b p) tell is of =
    found_so script part.missing before (Refusal.Disagree a b p) tell is
stop_refusal script part before after (Foreign m p) tell is of =
    found_so script part.missing before (Refusal.Foreign m p) tell is
stop_refusal script part before after (NoQuorum v h n) tell is of =
    found_so script part.missing before (Refusal.NoQuorum v h n) tell is
stop_refusal script part before after AgesUsedUp tell is of =
    found_so script part.missing before Refusal.AgesUsedUp tell is
stop_refusal script part before after OutOfMemory tell is of = absurd of
stop_refusal script part before after (DiskFault m) tell is of = absurd of
stop_refusal script part before after (LogFull m len) tell is of = absurd of

-- ---- there is one refusal

-- why a run stops at logs that can be read
abbrev stop_by : Refusal → Stop
stop_by (Refusal.Foreign m p) = Foreign m p
stop_by (Refusal.NoQuorum v h n) = NoQuorum v h n
stop_by (Refusal.Disagree a b p) = Disagree a b p
stop_by Refusal.AgesUsedUp = AgesUsedUp

-- damaged bytes, or logs that make no start
record ForBytes (script : Script) (missing : ℕ) (yard : YardState) (s : Stop) : Type 0 where
  member : ℕ
  at : ℕ
  is : s ≡ Damaged member at
  first : IsFirstDamaged script.members missing yard member at

record ForLists (script : Script) (missing : ℕ) (yard : YardState) (s : Stop) : Type 0 where
  why : Refusal
  is : s ≡ stop_by why
  contents : List (Option OnLog)
  read : AreRead script.members missing yard contents
  refused : AreRefusedFor script why contents

sorted : (script : Script) (missing : ℕ) (yard : YardState) (s : Stop) → IsRefusal script missing yard s
    → ForBytes script missing yard s ⊎ ForLists script missing yard s
sorted script missing yard (Damaged m at) is = inl (record { member = m; at = at; is = refl; first = is })
sorted script missing yard (Foreign m p) is =
    inr (record { why = Refusal.Foreign m p; is = refl; contents = is.0; read = is.1; refused = is.2 })
sorted script missing yard (NoQuorum v h n) is =
    inr (record { why = Refusal.NoQuorum v h n; is = refl; contents = is.0; read = is.1; refused = is.2 })
sorted script missing yard (Disagree a b p) is =
    inr (record { why = Refusal.Disagree a b p; is = refl; contents = is.0; read = is.1; refused = is.2 })
sorted script missing yard AgesUsedUp is =
    inr (record { why = Refusal.AgesUsedUp; is = refl; contents = is.0; read = is.1; refused = is.2 })
sorted script missing yard OutOfMemory is = absurd is
sorted script missing yard (DiskFault m) is = absurd is
sorted script missing yard (LogFull m len) is = absurd is

read_undamaged : (n k missing : ℕ) (yard : YardState) (contents : List (Option OnLog)) (m at : ℕ)
    → AreRead k missing yard contents → m < k → IsFirstDamaged n missing yard m at → ⊥
read_undamaged n k missing yard contents m at read l is =
    let c = some_there (content_at contents m) (read.there m l ∙ ap not is.there) in
    readable (yard.told m) c.0 at (read.each m c.0 c.1) is.damaged

one_damaged : (n missing : ℕ) (yard : YardState) (m at k to : ℕ) → IsFirstDamaged n missing yard m at
    → IsFirstDamaged n missing yard k to → (m ≡ k) × (at ≡ to)
one_damaged n missing yard m at k to a b = by (apart m k)
  where
    apart : (i j : ℕ) → (i < j) ⊎ ((i ≡ j) ⊎ (j < i))
    apart i j = grind arith

    by : (m < k) ⊎ ((m ≡ k) ⊎ (k < m)) → (m ≡ k) × (at ≡ to)
    by (inl l) = absurd (read_undamaged n k missing yard b.contents m at b.read l a)
    by (inr (inl e)) = (
      e,
      one_place (yard.told m) at to a.damaged
          (subst (λ (j : ℕ). IsSomeAnd (yard.told j) (λ t. IsDamaged (content_of t) to)) (sym e) b.damaged),
    )
    by (inr (inr l)) = absurd (read_undamaged n m missing yard a.contents k to a.read l b)

-- logs that read so are refused for one reason
one_reason : (script : Script) (missing : ℕ) (yard : YardState) (xs ys : List (Option OnLog)) (why other : Refusal)
    → AreRead script.members missing yard xs → AreRead script.members missing yard ys
    → AreRefusedFor script why xs → AreRefusedFor script other ys → why ≡ other
one_reason script missing yard xs ys why other a b is has =
    one-refusal (first_group_of script).opening (handed_by (all_as_lists xs)) why other is
    (subst (AreRefusedFor script other) (read_once script.members missing yard ys xs b a) has)

pub one_refusal : (script : Script) (missing : ℕ) (yard : YardState) (s t : Stop) → IsRefusal script missing yard s
    → IsRefusal script missing yard t → t ≡ s
one_refusal script missing yard s t a b = by (sorted script missing yard s a) (sorted script missing yard t b)
  where
    by : ForBytes script missing yard s ⊎ ForLists script missing yard s
        → ForBytes script missing yard t ⊎ ForLists script missing yard t → t ≡ s
    by (inl x) (inl y) =
        let same = one_damaged script.members missing yard y.member y.at x.member x.at y.first x.first in
        y.is ∙ (ap (λ (m : ℕ). Damaged m y.at) same.0 ∙ ap (Damaged x.member) same.1) ∙ sym x.is
    by (inl x) (inr y) = absurd (read_undamaged script.members script.members missing yard y.contents x.member x.at
        y.read x.first.below x.first)
    by (inr x) (inl y) = absurd (read_undamaged script.members script.members missing yard x.contents y.member y.at
        x.read y.first.below y.first)
    by (inr x) (inr y) =
        y.is ∙ ap stop_by (one_reason script missing yard y.contents x.contents y.why x.why y.read x.read y.refused
        x.refused) ∙ sym x.is

-- logs that make a start are not refused
pub started : (script : Script) (missing : ℕ) (yard : YardState) (s : Stop) (contents : List (Option OnLog))
    (start : Start) → IsRefusal script missing yard s → AreRead script.members missing yard contents
    → IsChosenOf (first_group_of script).opening contents start → ⊥
started script missing yard s contents start is read starts = by (sorted script missing yard s is)
  where
    by : ForBytes script missing yard s ⊎ ForLists script missing yard s → ⊥
    by (inl x) = read_undamaged script.members script.members missing yard contents x.member x.at read x.first.below
        x.first
    by (inr x) = no-refusal (first_group_of script).opening
        (handed_by (all_as_lists contents)) start x.why starts.chosen (subst (AreRefusedFor script x.why)
        (read_once script.members missing yard x.contents contents x.read read) x.refused)

-- ---- a run

-- a stop that is no other
first_stop : (script : Script) (part : Part) (before after : YardState) (s t : Stop) → AllTell script.members before
    → IsRefusal script part.missing before s → HasStopped script part before after t → (t ≡ s) ⊎ IsOutside t
first_stop script part before after s OutOfMemory tell due is = inr tt
first_stop script part before after s (DiskFault m) tell due is = inr tt
first_stop script part before after s (LogFull m len) tell due is =
    absurd (started script part.missing before s is.contents is.start due
    (found_read script.members part.missing before is.contents tell is.found) is.chosen)
first_stop script part before after s (Damaged m at) tell due is = inl (one_refusal script part.missing before s
    (Damaged m at) due (stop_refusal script part before after (Damaged m at) tell is tt))
first_stop script part before after s (Disagree a b p) tell due is = inl (one_refusal script part.missing before s
    (Disagree a b p) due (stop_refusal script part before after (Disagree a b p) tell is tt))
first_stop script part before after s (Foreign m p) tell due is = inl (one_refusal script part.missing before s
    (Foreign m p) due (stop_refusal script part before after (Foreign m p) tell is tt))
first_stop script part before after s (NoQuorum v h n) tell due is = inl (one_refusal script part.missing before s
    (NoQuorum v h n) due (stop_refusal script part before after (NoQuorum v h n) tell is tt))
first_stop script part before after s AgesUsedUp tell due is =
    inl (one_refusal script part.missing before s AgesUsedUp due
    (stop_refusal script part before after AgesUsedUp tell is tt))

-- of logs that are not bad
used_up_alone : (s : Stop) → (IsBadLogs s → ⊥) → IsOfLogs s → s ≡ AgesUsedUp
used_up_alone (Damaged m at) good of = absurd (good tt)
used_up_alone (Disagree a b p) good of = absurd (good tt)
used_up_alone (Foreign m p) good of = absurd (good tt)
used_up_alone (NoQuorum v h n) good of = absurd (good tt)
used_up_alone AgesUsedUp good of = refl
used_up_alone OutOfMemory good of = absurd of
used_up_alone (DiskFault m) good of = absurd of
used_up_alone (LogFull m len) good of = absurd of

-- behind the last age no start has a number
last_stop : (script : Script) (part : Part) (last after : YardState) (s : Stop) → (IsBadLogs s → ⊥)
    → ((contents : List (Option OnLog)) (start : Start) → AreFound script.members part.missing last contents
    → IsChosenOf (first_group_of script).opening contents start → start.age ≡ 65536)
    → HasStopped script part last after s → (s ≡ AgesUsedUp) ⊎ IsOutside s
last_stop script part last after OutOfMemory good next is = inr tt
last_stop script part last after (DiskFault m) good next is = inr tt
last_stop script part last after (LogFull m len) good next is =
    absurd (omega (arith, is.chosen.chosen.left, next is.contents is.start is.found is.chosen))
last_stop script part last after (Damaged m at) good next is = absurd (good tt)
last_stop script part last after (Disagree a b p) good next is = absurd (good tt)
last_stop script part last after (Foreign m p) good next is = absurd (good tt)
last_stop script part last after (NoQuorum v h n) good next is = absurd (good tt)
last_stop script part last after AgesUsedUp good next is = inl refl

-- what an age leaves is refused only behind the last number
pub refused_after : (script : Script) (part : Part) (yard : YardState) (age : AgeEnd) (contents : List (Option OnLog))
    (why : Refusal) → (b : IsBehind script part yard age contents) → AreRefusedFor script why contents
    → (why ≡ Refusal.AgesUsedUp) × (age.age ≡ 65535)
refused_after script part yard age contents why b refused = refused_behind script
    (start_of script part age) b.nth b.is.contents contents (over_behind b) why b.ranges.group b.ranges.some_turn
    (of_choice script part b.mode b.nth b.before yard age b.is) (left_from script part yard age contents b) refused

pub refused_run : (script : Script) (part : Part) (mode : Mode) (before : YardState) (ages : List AgeEnd)
    (last after : YardState) (chosen : List (List Entry)) (stop : Option Stop) → HasRanges script
    → AreAges script part mode 0 before ages last → HasFinished script part last after chosen ages stop
    → (ages ≢ [] → IfSome stop (λ s. IsBadLogs s → ⊥)) → AllTell script.members before
    → IsRightlyRefused script part.missing before ages stop
refused_run script part mode before ages last after chosen stop ranges are end good tell = record {
  first = first ages stop are end;
  due = λ s is. due s is ages stop are end;
  later = λ some. later stop (good some);
  used_up = λ earlier age is by. used_up earlier age is stop by end;
  no_more = λ earlier age is number. no_more earlier age is number stop end (good (λ none. empty earlier age (sym is ∙ none)));
}
  where
    empty : (earlier : List AgeEnd) (age : AgeEnd) → earlier ++ age ∷ [] ≡ [] → ⊥
    empty [] age same = cc
    empty (x ∷ earlier) age same = cc

    first : (ages : List AgeEnd) (stop : Option Stop) → AreAges script part mode 0 before ages last
        → HasFinished script part last after chosen ages stop → ages ≡ []
        → IfSome stop (λ s. IsOfLogs s → IsRefusal script part.missing before s)
    first ages None are end none = tt
    first [] (Some s) are end none = λ of. stop_refusal script part before after s tell
        (subst (λ (y : YardState). HasStopped script part y after s) (sym are) end.1) of
    first (age ∷ ages) (Some s) are end none = absurd (cc)

    due : (s : Stop) → IsRefusal script part.missing before s → (ages : List AgeEnd) (stop : Option Stop)
        → AreAges script part mode 0 before ages last → HasFinished script part last after chosen ages stop
        → (ages ≡ []) × IsStoppedBy s stop
    due s is [] None are end = absurd (omega (arith, end.0, ranges.some_age))
    due s is [] (Some t) are end = (
      refl,
      first_stop script part before after s t tell is
          (subst (λ (y : YardState). HasStopped script part y after t) (sym are) end.1),
    )
    due s is (age ∷ ages) stop are end =
        absurd (started script part.missing before s are.1.contents (start_of script part age) is
        (found_read script.members part.missing before are.1.contents tell are.1.found) are.1.starts)

    later : (stop : Option Stop) → IfSome stop (λ s. IsBadLogs s → ⊥) → IfSome stop (λ s. IsOfLogs s → s ≡ AgesUsedUp)
    later None good = tt
    later (Some s) good = used_up_alone s good

    -- what the last age leaves
    tell_last : AllTell script.members last
    tell_last = tell_behind script part mode 0 before ages last are tell

    used_up : (earlier : List AgeEnd) (age : AgeEnd) → ages ≡ earlier ++ age ∷ [] → (stop : Option Stop)
        → stop ≡ Some AgesUsedUp → HasFinished script part last after chosen ages stop → age.age ≡ 65535
    used_up earlier age is stop by end =
        let r = ends_with script part mode 0 before ages last earlier age are is in
        let found = (subst (HasFinished script part last after chosen ages) by end).1 in
        (refused_after script part last age found.0 Refusal.AgesUsedUp
        (behind script part mode r.0 r.1 last age ranges r.2 tell_last found.0 found.1) found.2).1

    no_more : (earlier : List AgeEnd) (age : AgeEnd) → ages ≡ earlier ++ age ∷ [] → age.age ≡ 65535
        → (stop : Option Stop) → HasFinished script part last after chosen ages stop
        → IfSome stop (λ s. IsBadLogs s → ⊥) → (length ages ≡ script.ages) ⊎ IsStoppedBy AgesUsedUp stop
    no_more earlier age is number None end good = inl end.0
    no_more earlier age is number (Some s) end good =
        let r = ends_with script part mode 0 before ages last earlier age are is in
        inr (last_stop script part last after s good (λ contents start found starts. omega (
          arith,
          age_next script part last age contents start
              (behind script part mode r.0 r.1 last age ranges r.2 tell_last contents found) starts,
          number,
        )) end.1)
