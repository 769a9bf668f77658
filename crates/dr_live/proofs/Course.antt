-- The ages of a live group, from the first on.
use Rattle.std.{specs.Prelude.{All, Option}, proofs.Math.Path.fun_ext}
use Rattle.std.proofs.Common.{◌≡◌, refl, sym, ap, ◌∙◌, subst, ℕ, zero, suc, ◌+◌, ◌<◌, ◌≤◌, arith, le_trans, le_refl, List, [], ◌∷◌, ◌++◌, length, Some, slice_get}
use Rattle.std.proofs.lemmas.{List.Elements.{All-append, All-cons, All-head, All-nil, All-tail}, Option.same_Some}
use Rattle.dr_play.specs.Logged.{NoneFull}
use Rattle.dr_ages.specs.{Ages.{AreAges, IsAgeOf, all_but, opening_of, start_of}, Runs.HasFinished}
use Rattle.dr_ages.specs.{Stops.{HasStopped, IsOutside}, declared.{mode.Mode.TheVariants.Run, stop.Stop.Stop}}
use Rattle.dr_ages.specs.declared.stop.Stop.TheVariants.{OutOfMemory, DiskFault, LogFull, Damaged, Disagree, Foreign, NoQuorum, AgesUsedUp}
use Rattle.dr_ages.proofs.Fresh.{IsRoomyAt, fresh_first, fresh_start, roomy_ages, roomy_next, roomy_stop}
use Rattle.dr_ages.proofs.{Keeping.{IsBehind, behind, left_from, of_choice, over_behind}, Runs.none_lacks}
use Rattle.dr_disk.specs.{Calls.at_rest, Disk.{Now, Told}, Memory.CalmState}
use Rattle.dr_entry.specs.declared.end.{AgeEnd.AgeEnd, MemberEnd.MemberEnd}
use Rattle.dr_history.specs.{Agreement.accounts_of, Restarting.Kept}
use Rattle.dr_kept.proofs.Following.{next_keeps}
use Rattle.dr_script.specs.{Ranges.HasRanges, declared.script.Script.Script}
use Rattle.dr_senders.{specs.Senders.{HaveGrown, Lists}, proofs.Growth.grown_same}
use Rattle.dr_yard.specs.{Places.place_told, Yards.{YardState, empty_yard}}
use Rattle.dr_live.specs.Live.{AreGrowing, AreLiveAges, AreReadyFor, AreUnderWay, AreUpTo, BeginsAnew, KeepEachOther, OpensAlways, calm_yard, plan_with}
use Rattle.dr_live.proofs.Choosing.{chosen_before}
use Rattle.dr_live.proofs.Growing.{growing_last, growing_more, growing_one, growing_tail, roomy_grown}

-- the messages that were taken can be those of a script
abbrev pub AreInRange : Script → List Lists → Type 0
AreInRange plan taken = All (λ lists. HasRanges (plan_with plan lists)) taken

range_head : (plan : Script) (lists : Lists) (taken : List Lists) → AreInRange plan (lists ∷ taken)
    → HasRanges (plan_with plan lists)
range_head plan lists taken fit = All-head (λ (l : Lists). HasRanges (plan_with plan l)) lists taken fit

range_tail : (plan : Script) (lists : Lists) (taken : List Lists) → AreInRange plan (lists ∷ taken)
    → AreInRange plan taken
range_tail plan lists taken fit = All-tail (λ (l : Lists). HasRanges (plan_with plan l)) lists taken fit

pub range_at : (plan : Script) (taken : List Lists) (i : ℕ) (lists : Lists) → AreInRange plan taken
    → slice_get taken i ≡ Some lists → HasRanges (plan_with plan lists)
range_at plan [] i lists fit at = absurd (cc)
range_at plan (l ∷ taken) zero lists fit at =
    subst (λ (x : Lists). HasRanges (plan_with plan x)) (same_Some l lists at) (range_head plan l taken fit)
range_at plan (l ∷ taken) (suc i) lists fit at = range_at plan taken i lists (range_tail plan l taken fit) at

-- the logs of the disks have room, with the messages of the first of these lists
abbrev pub HaveRoom : Script → List Lists → ℕ → YardState → Type 0
HaveRoom plan taken k yard =
    (lists : Lists) → slice_get taken 0 ≡ Some lists → IsRoomyAt (plan_with plan lists) 9 0 k yard

-- so have empty ones
pub empty_rooms : (plan : Script) (taken : List Lists) → HaveRoom plan taken 0 empty_yard
empty_rooms plan taken lists at = fresh_first (plan_with plan lists) empty_yard (λ m l. refl)

-- and those behind one more age
room_next : (plan : Script) (lists : Lists) (taken : List Lists) (k : ℕ) (before after : YardState) (age : AgeEnd)
    → HasRanges (plan_with plan lists) → AreGrowing (lists ∷ taken) → HaveRoom plan (lists ∷ taken) k before
    → IsAgeOf (plan_with plan lists) (all_but 0) Run 0 before after age → HaveRoom plan taken (k + 1) after
room_next plan lists taken k before after age ranges growing room is next at = roomy_grown plan lists next
    (k + 1) after (growing 0 lists next refl at) (roomy_next (plan_with plan lists)
    (all_but 0) Run 9 0 k 0 before after age ranges (none_lacks plan.members) (room lists refl) is)

-- no fault goes
pub later_on : (plan : Script) (taken : List Lists) (ages : List AgeEnd) (start after : YardState)
    → AreLiveAges plan start taken ages after → (m : ℕ) → start.faults m ≤ after.faults m
later_on plan [] [] start after are m =
    subst (λ (y : YardState). start.faults m ≤ y.faults m) are (le_refl (start.faults m))
later_on plan [] (age ∷ ages) start after are m = absurd are
later_on plan (lists ∷ taken) [] start after are m = absurd are
later_on plan (lists ∷ taken) (age ∷ ages) start after are m =
    le_trans (are.1.passes m).later (later_on plan taken ages are.0 after are.2 m)

pub as_many : (plan : Script) (taken : List Lists) (ages : List AgeEnd) (start after : YardState)
    → AreLiveAges plan start taken ages after → length taken ≡ length ages
as_many plan [] [] start after are = refl
as_many plan [] (age ∷ ages) start after are = absurd are
as_many plan (lists ∷ taken) [] start after are = absurd are
as_many plan (lists ∷ taken) (age ∷ ages) start after are = omega (arith, as_many plan taken ages are.0 after are.2)

-- ---- one of them

-- the age of this number, with these messages, before which the logs had room
pub record IsLiveAge (plan : Script) (k : ℕ) (lists : Lists) (last : YardState) (age : AgeEnd) : Type 0 where
  pub before : YardState
  pub after : YardState
  pub is : IsAgeOf (plan_with plan lists) (all_but 0) Run 0 before after age
  pub roomy : IsRoomyAt (plan_with plan lists) 9 0 k before
  pub later : (m : ℕ) → after.faults m ≤ last.faults m

pub live_at : (plan : Script) (taken : List Lists) (ages : List AgeEnd) (start last : YardState) (k i : ℕ)
    (lists : Lists) (age : AgeEnd) → AreInRange plan taken → AreGrowing taken → HaveRoom plan taken k start
    → AreLiveAges plan start taken ages last → slice_get taken i ≡ Some lists → slice_get ages i ≡ Some age
    → IsLiveAge plan (k + i) lists last age
live_at plan [] ages start last k i lists age fit growing room are at there = absurd (cc)
live_at plan (l ∷ taken) [] start last k i lists age fit growing room are at there = absurd are
live_at plan (l ∷ taken) (a ∷ ages) start last k zero lists age fit growing room are at there =
    subst (λ (x : Lists). IsLiveAge plan (k + 0) x last age) (same_Some l lists at)
    (subst (IsLiveAge plan (k + 0) l last) (same_Some a age there) (record {
      before = start;
      after = are.0;
      is = are.1;
      roomy = subst (λ (n : ℕ). IsRoomyAt (plan_with plan l) 9 0 n start) (omega arith) (room l refl);
      later = later_on plan taken ages are.0 last are.2;
    }))
live_at plan (l ∷ taken) (a ∷ ages) start last k (suc i) lists age fit growing room are at there =
    subst (λ (n : ℕ). IsLiveAge plan n lists last age) (omega arith)
    (live_at plan taken ages are.0 last (k + 1) i lists age (range_tail plan l taken fit)
    (growing_tail l taken growing)
    (room_next plan l taken k start are.0 a (range_head plan l taken fit) growing room are.1) are.2 at there)

-- of those of a live group
pub age_at : (plan : Script) (taken : List Lists) (ages : List AgeEnd) (last : YardState) (i : ℕ)
    (lists : Lists) (age : AgeEnd) → AreUnderWay plan taken ages last → slice_get taken i ≡ Some lists
    → slice_get ages i ≡ Some age → IsLiveAge plan (0 + i) lists last age
age_at plan taken ages last i lists age way at there =
    live_at plan taken ages empty_yard last 0 i lists age way.ranges way.growing (empty_rooms plan taken) way.course
    at there

-- ---- the next one

-- the logs have room for it
room_on : (plan : Script) (taken : List Lists) (ages : List AgeEnd) (start last : YardState) (k : ℕ) (lists : Lists)
    → AreInRange plan taken → AreGrowing (taken ++ lists ∷ []) → HaveRoom plan (taken ++ lists ∷ []) k start
    → AreLiveAges plan start taken ages last → IsRoomyAt (plan_with plan lists) 9 0 (k + length ages) last
room_on plan [] [] start last k lists fit growing room are = subst (IsRoomyAt (plan_with plan lists) 9 0 (k + 0)) are
    (subst (λ (n : ℕ). IsRoomyAt (plan_with plan lists) 9 0 n start) (omega arith) (room lists refl))
room_on plan [] (age ∷ ages) start last k lists fit growing room are = absurd are
room_on plan (l ∷ taken) [] start last k lists fit growing room are = absurd are
room_on plan (l ∷ taken) (age ∷ ages) start last k lists fit growing room are = subst (λ (n : ℕ). IsRoomyAt
    (plan_with plan lists) 9 0 n last) (omega arith) (room_on plan taken ages are.0 last
    (k + 1) lists (range_tail plan l taken fit) (growing_tail l (taken ++ lists ∷ []) growing)
    (room_next plan l (taken ++ lists ∷ []) k start are.0 age (range_head plan l taken fit) growing room are.1) are.2)

-- so it is opened, unless memory is wanting
pub opens_always : (plan : Script) (lists : Lists) (ages : List AgeEnd) (yard : YardState)
    → AreReadyFor plan lists ages yard → HasRanges (plan_with plan lists) → plan.ages ≡ 1 → length ages < 16
    → OpensAlways (plan_with plan lists) yard
opens_always plan lists ages yard ready ranges one few after run stop calm is = by run is.course is.finish
  where
    roomy : IsRoomyAt (plan_with plan lists) 9 0 (0 + length ages) yard
    roomy = room_on plan ready.taken ages empty_yard yard 0 lists ready.way.ranges ready.growing
        (empty_rooms plan (ready.taken ++ lists ∷ [])) ready.way.course

    outside : (s : Stop) → IsOutside s → HasStopped (plan_with plan lists) (all_but 0) yard after s → s ≡ OutOfMemory
    outside OutOfMemory out stopped = refl
    outside (DiskFault m) out stopped = absurd (omega (arith, stopped.rose, calm m, ready.way.calm m))
    outside (LogFull m len) out stopped = absurd out
    outside (Damaged m at) out stopped = absurd out
    outside (Disagree a b p) out stopped = absurd out
    outside (Foreign m p) out stopped = absurd out
    outside (NoQuorum view have need) out stopped = absurd out
    outside AgesUsedUp out stopped = absurd out

    by : (ran : List AgeEnd) → AreAges (plan_with plan lists) (all_but 0) Run 0 yard ran is.last
        → HasFinished (plan_with plan lists) (all_but 0) is.last after is.chosen ran (Some stop) → stop ≡ OutOfMemory
    by [] are end =
        let script = plan_with plan lists in
        let stopped = subst (λ (y : YardState). HasStopped script (all_but 0) y after stop) (sym are) end.1 in
        outside stop (roomy_stop script (all_but 0) 9 0 (0 + length ages) yard after stop ranges
        (none_lacks plan.members) (omega arith) (omega (arith, few)) (omega (arith, few)) roomy stopped) stopped
    by (age ∷ more) are end = absurd (omega (arith, end.0, one))

live_more : (plan : Script) (taken : List Lists) (ages : List AgeEnd) (start mid after : YardState)
    (lists : Lists) (age : AgeEnd) → AreLiveAges plan start taken ages mid
    → IsAgeOf (plan_with plan lists) (all_but 0) Run 0 mid after age
    → AreLiveAges plan start (taken ++ lists ∷ []) (ages ++ age ∷ []) after
live_more plan [] [] start mid after lists age are is =
    (after, subst (λ (y : YardState). IsAgeOf (plan_with plan lists) (all_but 0) Run 0 y after age) (sym are) is, refl)
live_more plan [] (a ∷ ages) start mid after lists age are is = absurd are
live_more plan (l ∷ taken) [] start mid after lists age are is = absurd are
live_more plan (l ∷ taken) (a ∷ ages) start mid after lists age are is =
    (are.0, are.1, live_more plan taken ages are.0 mid after lists age are.2 is)

pub up_to_next : (plan : Script) (lists : Lists) (ages : List AgeEnd) (mid after : YardState) (age : AgeEnd)
    → AreReadyFor plan lists ages mid → HasRanges (plan_with plan lists)
    → IsAgeOf (plan_with plan lists) (all_but 0) Run 0 mid after age → ((m : ℕ) → after.faults m ≡ 0)
    → AreUpTo plan lists (ages ++ age ∷ []) after
up_to_next plan lists ages mid after age ready ranges is calm = record {
  taken = ready.taken;
  way = record {
    course = live_more plan ready.taken ages empty_yard mid after lists age ready.way.course is;
    growing = ready.growing;
    ranges = All-append (λ (l : Lists). HasRanges (plan_with plan l)) ready.taken (lists ∷ []) ready.way.ranges
        (All-cons (λ (l : Lists). HasRanges (plan_with plan l)) lists [] ranges
        (All-nil (λ (l : Lists). HasRanges (plan_with plan l))));
    calm = calm;
  };
}

-- ---- the first one

pub first_age : (plan : Script) (taken : List Lists) (ages : List AgeEnd) (last : YardState) (age : AgeEnd)
    → AreUnderWay plan taken ages last → length ages ≤ 16 → slice_get ages 0 ≡ Some age → BeginsAnew age
first_age plan [] [] last age way few at = absurd (cc)
first_age plan [] (a ∷ ages) last age way few at = absurd way.course
first_age plan (lists ∷ taken) [] last age way few at = absurd (cc)
first_age plan (lists ∷ taken) (a ∷ ages) last age way few at = subst BeginsAnew (same_Some a age at) (record {
  number = omega (arith, number.0);
  start = fresh_start (plan_with plan lists) (all_but 0) Run 0 empty_yard (a ∷ []) way.course.0 a (λ m l. refl)
      one refl;
})
  where
    one : AreAges (plan_with plan lists) (all_but 0) Run 0 empty_yard (a ∷ []) way.course.0
    one = (way.course.0, way.course.1, refl)

    number : (a.age ≡ 0 + 0 + 0) × NoneFull a.members
    number = roomy_ages (plan_with plan lists) (all_but 0) Run 9 0 0 0 empty_yard (a ∷ []) way.course.0 0 a
        (range_head plan lists taken way.ranges) (none_lacks plan.members) (omega arith) (omega arith)
        (empty_rooms plan (lists ∷ taken) lists refl) one refl

-- ---- two beside one another

-- an age of these messages, and the one right behind it, of those; the disks that the first leaves have room
pub record AreLivePair (plan : Script) (old new : Lists) (a b : AgeEnd) : Type 0 where
  pub before : YardState
  pub mid : YardState
  pub after : YardState
  pub first : IsAgeOf (plan_with plan old) (all_but 0) Run 0 before mid a
  pub second : IsAgeOf (plan_with plan new) (all_but 0) Run 0 mid after b
  pub number : ℕ
  pub roomy : IsRoomyAt (plan_with plan old) 9 0 number mid

pair_at : (plan : Script) (taken : List Lists) (ages : List AgeEnd) (start last : YardState) (k i : ℕ)
    (a b : AgeEnd) (old new : Lists) → AreInRange plan taken → AreGrowing taken → HaveRoom plan taken k start
    → AreLiveAges plan start taken ages last → slice_get ages i ≡ Some a → slice_get ages (i + 1) ≡ Some b
    → slice_get taken i ≡ Some old → slice_get taken (i + 1) ≡ Some new → AreLivePair plan old new a b
pair_at plan [] ages start last k i a b old new fit growing room are at_a at_b at_old at_new = absurd (cc)
pair_at plan (l ∷ taken) [] start last k i a b old new fit growing room are at_a at_b at_old at_new = absurd are
pair_at plan (l ∷ []) (one ∷ ages) start last k zero a b old new fit growing room are at_a at_b at_old at_new =
    absurd (cc)
pair_at plan (l ∷ m ∷ taken) (one ∷ []) start last k zero a b old new fit growing room are at_a at_b at_old at_new =
    absurd are.2
pair_at plan (l ∷ m ∷ taken) (one ∷ two ∷ ages) start last k zero a b old new fit growing room are at_a at_b at_old at_new =
    record {
      before = start;
      mid = are.0;
      after = are.2.0;
      first = subst (λ (x : Lists). IsAgeOf (plan_with plan x) (all_but 0) Run 0 start are.0 a) (same_Some l old at_old)
          (subst (IsAgeOf (plan_with plan l) (all_but 0) Run 0 start are.0) (same_Some one a at_a) are.1);
      second = subst (λ (x : Lists). IsAgeOf (plan_with plan x) (all_but 0) Run 0 are.0 are.2.0 b)
          (same_Some m new at_new)
          (subst (IsAgeOf (plan_with plan m) (all_but 0) Run 0 are.0 are.2.0) (same_Some two b at_b) are.2.1);
      number = k + 1;
      roomy = subst (λ (x : Lists). IsRoomyAt (plan_with plan x) 9 0 (k + 1) are.0) (same_Some l old at_old)
          (roomy_next (plan_with plan l) (all_but 0) Run 9 0 k 0 start are.0 one (range_head plan l (m ∷ taken) fit)
          (none_lacks plan.members) (room l refl) are.1);
    }
pair_at plan (l ∷ taken) (one ∷ ages) start last k (suc i) a b old new fit growing room are at_a at_b at_old at_new =
    let e : suc (i + 1) ≡ suc i + 1 = omega arith in
    pair_at plan taken ages are.0 last (k + 1) i a b old new (range_tail plan l taken fit)
    (growing_tail l taken growing)
    (room_next plan l taken k start are.0 one (range_head plan l taken fit) growing room are.1) are.2 at_a
    (ap (λ (k : ℕ). slice_get (one ∷ ages) k) e ∙ at_b) at_old (ap (λ (k : ℕ). slice_get (l ∷ taken) k) e ∙ at_new)

pair_keeps : (plan : Script) (old new : Lists) (a b : AgeEnd) → HasRanges (plan_with plan old)
    → HasRanges (plan_with plan new) → AreLivePair plan old new a b → Kept (opening_of (plan_with plan old)
    (all_but 0) a) (accounts_of a.members) (opening_of (plan_with plan new) (all_but 0) b)
pair_keeps plan old new a b ranges more r =
    record { later = kept.later; delivered = kept.delivered; durable = kept.durable }
  where
    first : Script
    first = plan_with plan old

    left : IsBehind first (all_but 0) r.mid a r.second.contents
    left = behind first (all_but 0) Run 0 r.before r.mid a ranges r.first r.roomy.tell r.second.contents r.second.found

    kept : Kept (opening_of first (all_but 0) a) (accounts_of a.members) (opening_of first (all_but 0) b)
    kept = subst (λ (ends : List MemberEnd).
        Kept (opening_of first (all_but 0) a) (accounts_of ends) (opening_of first (all_but 0) b))
        (sym (ap (λ (x : AgeEnd). x.members) r.first.played.run.told)) (next_keeps first
        (start_of first (all_but 0) a) (start_of first (all_but 0) b) 0 r.first.contents r.second.contents
        (over_behind left) ranges.group ranges.some_turn (of_choice first (all_but 0) Run 0 r.before r.mid a r.first)
        (left_from first (all_but 0) r.mid a r.second.contents left)
        (chosen_before plan old new r.mid r.second.contents (start_of first (all_but 0) b)
        (more.group.lists ∙ sym ranges.group.lists) r.roomy.good r.second.found r.second.starts))

pub keep_each_other : (plan : Script) (taken : List Lists) (ages : List AgeEnd) (last : YardState)
    → AreUnderWay plan taken ages last → KeepEachOther plan taken ages
keep_each_other plan taken ages last way i a b old new at_a at_b at_old at_new = pair_keeps plan old new a b
    (range_at plan taken i old way.ranges at_old) (range_at plan taken (i + 1) new way.ranges at_new)
    (pair_at plan taken ages empty_yard last 0 i a b old new way.ranges way.growing
    (empty_rooms plan taken) way.course at_a at_b at_old at_new)

-- ---- before the first one

pub none_yet : (plan : Script) (lists : Lists) (places : List (Option CalmState))
    → ((m : ℕ) → place_told places m ≡ Some (Now (at_rest []))) → AreReadyFor plan lists [] (calm_yard places)
none_yet plan lists places empty = record {
  taken = [];
  way = record {
    course = ap (λ (told : ℕ → Option Told). record { told = told; faults = λ m. 0 }) (fun_ext (λ m. sym (empty m)));
    growing = λ i old new at_old at_new. absurd (cc);
    ranges = All-nil (λ (l : Lists). HasRanges (plan_with plan l));
    calm = λ m. refl;
  };
  growing = growing_one lists;
}

-- ---- before the next one

-- its messages may grow
pub ready_grown : (plan : Script) (old new : Lists) (ages : List AgeEnd) (yard : YardState)
    → AreReadyFor plan old ages yard → HaveGrown old new → AreReadyFor plan new ages yard
ready_grown plan old new ages yard ready grown = record {
  taken = ready.taken;
  way = ready.way;
  growing = growing_last ready.taken old new ready.growing grown;
}

-- they may be those of the last one
pub ready_next : (plan : Script) (lists : Lists) (ages : List AgeEnd) (yard : YardState)
    → AreUpTo plan lists ages yard → AreReadyFor plan lists ages yard
ready_next plan lists ages yard up = record {
  taken = up.taken ++ lists ∷ [];
  way = up.way;
  growing = growing_more up.taken lists lists up.way.growing (grown_same lists);
}

-- ---- the one age of a run
