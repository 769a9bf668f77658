-- What the members of a live group deliver, and how they end.
use Rattle.std.specs.{List.enumerate_from, Option.option_map_or, Prelude.{All, None, Option}}
use Rattle.std.proofs.Common.{◌≡◌, refl, sym, ap, ◌∙◌, subst, ℕ, ◌+◌, ◌-◌, ◌<◌, ◌≤◌, ◌⊎◌, inl, inr, arith, true, false, List, [], ◌∷◌, ◌++◌, get_or, length, length-append, map, Some, slice_get}
use Rattle.std.proofs.lemmas.{Bool.cases_lt, List.{get_or_past, Elements.{All-nil, All-cons}}}
use Rattle.std.proofs.lemmas.Option.{get_or_from_slice_get, slice_get-get_or, slice_get_within}
use Rattle.dr_play.{specs.Logged.{NoneFull, NoneStopped}, proofs.LoggedMembers.unstopped}
use Rattle.dr_ages.specs.{Ages.{AreAges, all_but, opening_of}, declared.mode.Mode.TheVariants.Run}
use Rattle.dr_ages.proofs.{Fresh.roomy_ages, Prompt.nobody_late, Runs.{none_lacks, there_takes_part}}
use Rattle.dr_entry.specs.declared.{end.{AgeEnd.AgeEnd, MemberEnd.MemberEnd}, entry.Entry.{Entry, TheVariants.Msg}}
use Rattle.dr_entry.specs.declared.limits.TheConstants.{MAX_MEMBERS}
use Rattle.dr_entry.proofs.ListPlaces.{slice_get-seam, slice_get-some}
use Rattle.dr_entry.specs.declared.end.End.TheVariants as ends
use Rattle.dr_history.specs.{History.IsPrefixOf, Members.has, Order.{IsLateIn, messages_from, numbered_messages}}
use Rattle.dr_history.{specs.{Soundness.IsPresentIn, declared.opening.Opening.Opening}, proofs.Bits.has_zero}
use Rattle.dr_history.proofs.{Keeping.both_ways, Lists.prefix-trans}
use Rattle.dr_program_laws.{specs.{Ended.{HasEnded, IsWhole}, Trusting.NoneLeft}, proofs.Endings.done_whole}
use Rattle.dr_restart.specs.{Groups.first_group_of, Setups.{crashes_of, suspicion_in}}
use Rattle.dr_script.specs.{Ranges.{HasGroupRanges, HasRanges}, declared.script.{Fault.Fault, Script.Script}}
use Rattle.dr_senders.{specs.Senders.{HaveGrown, Lists}, proofs.Growth.numbered_grown}
use Rattle.dr_yard.specs.Yards.{YardState, empty_yard}
use Rattle.dr_live.specs.Live.{AreUnderWay, AreUpTo, DeliversAll, DeliversPushed, EndAsDone, IsLastOf, HasLived, IsLivePlan, plan_with, pushed_by, AreLiveAges}
use Rattle.dr_live.proofs.Course.{IsLiveAge, age_at, as_many, first_age, keep_each_other, range_at}
use Rattle.dr_live.proofs.Growing.{grown_to_last}

-- ---- ends

-- no log of a live group stops a member
pub live_stored : (plan : Script) (k : ℕ) (lists : Lists) (last : YardState) (age : AgeEnd)
    → HasRanges (plan_with plan lists) → k < 16 → ((m : ℕ) → last.faults m ≡ 0)
    → IsLiveAge plan k lists last age → NoneStopped age.members
live_stored plan k lists last age ranges few calm live m d within =
    let e = get_or age.members m d in
    let at : slice_get age.members m ≡ Some e = slice_get-get_or age.members m d within in
    unstopped e.end (full.1 m d within) (λ broken. omega (arith, live.is.failed m e at broken, live.later m, calm m))
  where
    one : AreAges (plan_with plan lists) (all_but 0) Run 0 live.before (age ∷ []) live.after
    one = (live.after, live.is, refl)

    full : (age.age ≡ 0 + k + 0) × NoneFull age.members
    full = roomy_ages (plan_with plan lists) (all_but 0) Run 9 0 k 0 live.before (age ∷ []) live.after 0 age ranges
        (none_lacks plan.members) (omega arith) (omega (arith, few)) live.roomy one refl

pub live_trusting : (plan : Script) (k : ℕ) (lists : Lists) (last : YardState) (age : AgeEnd)
    → IsLivePlan plan → IsLiveAge plan k lists last age → NoneLeft age.members
live_trusting plan k lists last age is live = live.is.played.trusting (record {
  patient = is.patient;
  unscripted = subst (All (λ (f : Fault). suspicion_in f.what ≡ None)) (sym is.no_faults)
      (All-nil (λ (f : Fault). suspicion_in f.what ≡ None));
})

-- ---- what is delivered

-- each member takes part
takes_part : (plan : Script) (k : ℕ) (lists : Lists) (last : YardState) (age : AgeEnd) (m : ℕ) (e : MemberEnd)
    → HasGroupRanges (plan_with plan lists) → IsLiveAge plan k lists last age → slice_get age.members m ≡ Some e
    → IsPresentIn (opening_of (plan_with plan lists) (all_but 0) age) m
takes_part plan k lists last age m e ranges live at = there_takes_part (plan_with plan lists) 0 m ranges.most_members
    (omega (arith, slice_get_within age.members m e at, live.is.played.roster)) (has_zero m)

-- a history has first parts of the messages of the age
numbered_in : (plan : Script) (k : ℕ) (lists : Lists) (last : YardState) (age : AgeEnd) (m : ℕ) (e : MemberEnd)
    (s : ℕ) → HasGroupRanges (plan_with plan lists) → IsLiveAge plan k lists last age
    → slice_get age.members m ≡ Some e
    → IsPrefixOf (messages_from s e.history) (numbered_messages (opening_of (plan_with plan lists) (all_but 0) age) s)
numbered_in plan k lists last age m e s ranges live at =
    let o = opening_of (plan_with plan lists) (all_but 0) age in
    let there = takes_part plan k lists last age m e ranges live at in
    subst (λ (end : Option MemberEnd).
    IsPrefixOf (messages_from s (option_map_or (λ (x : MemberEnd). x.history) end [])) (numbered_messages o s)) at
    ((live.is.played.agreed.agreed.ordered m there).numbered s)

pub live_delivers : (plan : Script) (k : ℕ) (lists pushed : Lists) (last : YardState) (age : AgeEnd)
    → HasGroupRanges (plan_with plan lists) → HaveGrown lists pushed → IsLiveAge plan k lists last age
    → DeliversPushed plan pushed age.members
live_delivers plan k lists pushed last age ranges grown live m d within s =
    let e = get_or age.members m d in
    prefix-trans (messages_from s e.history) (numbered_messages (opening_of (plan_with plan lists) (all_but 0) age) s)
    (pushed_by plan pushed s) (numbered_in plan k lists last age m e s ranges live
    (slice_get-get_or age.members m d within)) (numbered_grown (opening_of (plan_with plan lists) (all_but 0) age)
    (first_group_of (plan_with plan pushed)).opening s grown)

-- where all are done all have all messages
pub live_whole : (plan : Script) (k : ℕ) (lists : Lists) (last : YardState) (age : AgeEnd)
    → HasGroupRanges (plan_with plan lists) → IsLiveAge plan k lists last age → EndAsDone age.members
    → DeliversAll plan lists age.members
live_whole plan k lists last age ranges live done m d within s = both_ways (messages_from s e.history)
    (numbered_messages o s) (numbered_in plan k lists last age m e s ranges live at) (by (cases_lt s (length lists)))
  where
    o : Opening
    o = opening_of (plan_with plan lists) (all_but 0) age

    e : MemberEnd
    e = get_or age.members m d

    at : slice_get age.members m ≡ Some e
    at = slice_get-get_or age.members m d within

    end_at : (i : ℕ) (x : MemberEnd) → slice_get age.members i ≡ Some x → x.end ≡ ends.Done
    end_at i x there = subst (λ (y : MemberEnd). y.end ≡ ends.Done) (get_or_from_slice_get age.members i x x there)
        (done i x (slice_get_within age.members i x there))

    ended_at : (i : ℕ) (x : MemberEnd) (there : slice_get age.members i ≡ Some x)
        → HasEnded o age.members plan.turns i (crashes_of plan.faults 0 i) x
    ended_at i x there = live.is.played.ended.each i x there (takes_part plan k lists last age i x ranges live there)

    whole_at : (i : ℕ) (x : MemberEnd) (there : slice_get age.members i ≡ Some x)
        → IsWhole o age.members (ended_at i x there).number (ended_at i x there).members x
    whole_at i x there =
        let ended = ended_at i x there in
        done_whole o age.members ended.number ended.members plan.turns i _ x (end_at i x there) ended.reason

    prompt : (i : ℕ) → ¬ IsLateIn o i
    prompt i late =
        let no : true ≡ false =
        sym late.0 ∙ ap (λ (mask : ℕ). has mask i) (sym (nobody_late (plan_with plan lists) 0 age)) ∙ late.1 in
        cc

    in_view : (i number members : ℕ) → (has members i ≡ true) ⊎ (IsLateIn o i × (number ≡ 0)) → has members i ≡ true
    in_view i number members (inl own) = own
    in_view i number members (inr late) = absurd (prompt i late.0)

    own_at : (i : ℕ) (x : MemberEnd) (there : slice_get age.members i ≡ Some x)
        → has (ended_at i x there).members i ≡ true
    own_at i x there =
        let ended = ended_at i x there in in_view i ended.number ended.members ended.own

    by : (s < length lists) ⊎ (length lists ≤ s) → IsPrefixOf (numbered_messages o s) (messages_from s e.history)
    by (inl l) =
        let x = slice_get-some age.members s (omega (arith, l, ranges.lists, live.is.played.roster)) in
        let own = (whole_at s x.0 x.1).whole s (own_at s x.0 x.1) in
        let in_place = slice_get_within age.members s x.0 x.1 in
        let same = get_or_from_slice_get age.members s x.0 x.0 x.1 in
        subst (λ (l : List Entry). IsPrefixOf l (messages_from s e.history)) own
        (subst (λ (y : MemberEnd). IsPrefixOf (messages_from s y.history) (messages_from s e.history)) same
        ((whole_at m e at).lacks_none s (inl (prompt s)) s x.0 in_place))
    by (inr past) =
        let none : numbered_messages o s ≡ [] = ap (λ (l : List (List ℕ)). map
        (λ (t : ℕ × List ℕ). Msg s t.0 t.1) (enumerate_from 0 l)) (get_or_past lists s [] past) in
        (messages_from s e.history, ap (λ (l : List Entry). l ++ messages_from s e.history) none)

-- ---- the ages of a live group

pub all_stored : (plan : Script) (taken : List Lists) (ages : List AgeEnd) (last : YardState)
    → AreUnderWay plan taken ages last → length ages ≤ 16 → All (λ (age : AgeEnd). NoneStopped age.members) ages
all_stored plan taken ages last way few i d l =
    let lists = slice_get-some taken i (omega (arith, l, as_many plan taken ages empty_yard last way.course)) in
    live_stored plan (0 + i) lists.0 last (get_or ages i d) (range_at plan taken i lists.0 way.ranges lists.1)
    (omega (arith, l, few)) way.calm
    (age_at plan taken ages last i lists.0 (get_or ages i d) way lists.1 (slice_get-get_or ages i d l))

pub all_trusting : (plan : Script) (taken : List Lists) (ages : List AgeEnd) (last : YardState)
    → IsLivePlan plan → AreUnderWay plan taken ages last → All (λ (age : AgeEnd). NoneLeft age.members) ages
all_trusting plan taken ages last is way i d l =
    let lists = slice_get-some taken i (omega (arith, l, as_many plan taken ages empty_yard last way.course)) in
    live_trusting plan (0 + i) lists.0 last (get_or ages i d) is
    (age_at plan taken ages last i lists.0 (get_or ages i d) way lists.1 (slice_get-get_or ages i d l))

pub all_deliver : (plan : Script) (taken : List Lists) (ages : List AgeEnd) (last : YardState) (pushed : Lists)
    → AreUnderWay plan taken ages last → IsLastOf pushed taken
    → All (λ (age : AgeEnd). DeliversPushed plan pushed age.members) ages
all_deliver plan taken ages last pushed way ends i d l =
    let lists = slice_get-some taken i (omega (arith, l, as_many plan taken ages empty_yard last way.course)) in
    live_delivers plan (0 + i) lists.0 pushed last (get_or ages i d)
    (range_at plan taken i lists.0 way.ranges lists.1).group
    (grown_to_last taken i lists.0 pushed way.growing lists.1 ends)
    (age_at plan taken ages last i lists.0 (get_or ages i d) way lists.1 (slice_get-get_or ages i d l))

pub last_whole : (plan : Script) (taken : List Lists) (ages : List AgeEnd) (last : YardState) (pushed : Lists)
    (n : ℕ) (age : AgeEnd) → AreUnderWay plan taken ages last → IsLastOf pushed taken → length ages ≡ n + 1
    → IsLastOf age ages → EndAsDone age.members → DeliversAll plan pushed age.members
last_whole plan taken ages last pushed n age way ends long at done =
    let there = ends n (as_many plan taken ages empty_yard last way.course ∙ long) in
    live_whole plan (0 + n) pushed last age (range_at plan taken n pushed way.ranges there).group
    (age_at plan taken ages last n pushed age way there (at n long)) done

ends_in : (taken : List Lists) (pushed : Lists) → IsLastOf pushed (taken ++ pushed ∷ [])
ends_in taken pushed n long =
    let at : n ≡ length taken = omega (arith, long, length-append taken (pushed ∷ [])) in
    ap (slice_get (taken ++ pushed ∷ [])) at ∙ slice_get-seam taken pushed []

-- so this comes of it
pub lived : (plan : Script) (rounds : ℕ) (pushed : Lists) (ages : List AgeEnd) (last : YardState) → IsLivePlan plan
    → rounds ≤ 15 → length ages ≡ rounds + 1 → AreUpTo plan pushed ages last → HasLived plan rounds pushed ages
lived plan rounds pushed ages last is few count up = record {
  count = count;
  first = λ age at. first_age plan all ages last age up.way most at;
  live = record {
    taken = all;
    after = last;
    way = up.way;
    all = ends;
    kept = keep_each_other plan all ages last up.way;
  };
  delivered = all_deliver plan all ages last pushed up.way ends;
  whole = λ age at done. last_whole plan all ages last pushed rounds age up.way ends count at done;
  stored = all_stored plan all ages last up.way most;
  trusting = all_trusting plan all ages last is up.way;
}
  where
    all : List Lists
    all = up.taken ++ pushed ∷ []

    most : length ages ≤ 16
    most = omega (arith, count, few)

    ends : IsLastOf pushed all
    ends = ends_in up.taken pushed

-- each age has as many members as the plan
few_live : (plan : Script) (before after : YardState) (taken : List (List (List (List ℕ)))) (ages : List AgeEnd)
    → plan.members ≤ MAX_MEMBERS → AreLiveAges plan before taken ages after
    → All (λ (age : AgeEnd). length age.members ≤ MAX_MEMBERS) ages
few_live plan before after [] [] few are = All-nil (λ (age : AgeEnd). length age.members ≤ MAX_MEMBERS)
few_live plan before after [] (age ∷ ages) few are = absurd are
few_live plan before after (lists ∷ taken) [] few are = absurd are
few_live plan before after (lists ∷ taken) (age ∷ ages) few (between, is, rest) =
    All-cons (λ (age : AgeEnd). length age.members ≤ MAX_MEMBERS) age ages (omega (arith, is.played.roster, few))
    (few_live plan between after taken ages few rest)

pub all_few : (plan : Script) (rounds : ℕ) (pushed : List (List (List ℕ))) (ages : List AgeEnd) → IsLivePlan plan
    → HasLived plan rounds pushed ages → All (λ (age : AgeEnd). length age.members ≤ MAX_MEMBERS) ages
all_few plan rounds pushed ages live lived =
    few_live plan empty_yard lived.live.after lived.live.taken ages live.ranges.group.most_members
    lived.live.way.course
