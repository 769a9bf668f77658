-- An age that was run over logs that were mounted and opened for it.
use Rattle.std.{specs.Option.option_map_or, proofs.Math.Nat.max-le}
use Rattle.std.specs.Prelude.{IfOk, OnErr, Option, None, Some, Result, Ok, Err, is_some, slice_get, unwrap_or}
use Rattle.std.proofs.Common.{◌≡◌, ◌≢◌, ◌⊎◌, ◌↔◌, refl, sym, ap, ◌∙◌, subst, ℕ, ◌+◌, ◌-◌, ◌^◌, ◌<◌, ◌≤◌, ◌&&◌, nat_lt, not, inl, inr, arith, le_refl, le_trans, Bool, true, false, true≢false, List, [], ◌∷◌, ◌++◌, length, length-append, take, drop, drop_at}
use Rattle.std.proofs.lemmas.{Bool.{cases_Bool, Decides.nat_tests}, Option.{same_Some, slice_get_within}}
use Rattle.dr_disk.{specs.{Disk.Told, Images.{Goes, IsLeft}}, proofs.{DiskCalls.goes_tells, Images.lasts_goes}}
use Rattle.dr_disk.proofs.Moments.{Goes-weaken, stays_at}
use Rattle.dr_entry.specs.declared.{end.{AgeEnd.AgeEnd, End.End, MemberEnd.MemberEnd}, entry.Entry.Entry}
use Rattle.dr_entry.specs.{declared.entry.Entry.TheVariants.View, declared.record.Record.Record}
use Rattle.dr_entry.proofs.{ListPlaces.slice_get-some, OptionFacts.some_map}
use Rattle.dr_history.{specs.{History.IsPrefixOf, Members.has}, proofs.{Bits.has_ones, Masks.same_masks}}
use Rattle.dr_io.{specs.Faults.Rose, proofs.KnownLemmas.rose_since}
use Rattle.dr_log.specs.Standing.{HasAllOf, LosesNone, entries_length, votes_length}
use Rattle.dr_log.{specs.State.LogState, proofs.Ordinary.{has_through, less_lost}}
use Rattle.dr_log_bytes.specs.{Content.{OnLog, block_length, empty_of}, Grammar.StandFor}
use Rattle.dr_served.specs.Served.{BrokeOff, HasCome, HasDueBehind, HaveSamePlaces, IsFull, IsRecordDue, IsSafe, WentSo}
use Rattle.dr_served.proofs.{Served.places_both, Serving.has_base}
use Rattle.dr_machine.{specs.Group.{AllPresent, IsGroup, IsPresent}, proofs.{Groups.banks-small, Presence.in_roster}}
use Rattle.dr_opening.specs.{CatchingUp.opened_with, Contents.{IsOpenFor, voted_for}}
use Rattle.dr_opening.specs.Lists.{SomebodyPrompt, all_as_lists, as_lists, contents_of, log_of}
use Rattle.dr_opening.specs.{Logs.{GotStart, GotVote, WereOpened}, Tries.{IsChosenOf, content_at}}
use Rattle.dr_opening.proofs.{Choosing.{chosen_group, opened_short}, Contents.open_long}
use Rattle.dr_opening.proofs.Lists.{stays_there, was_there, content_at_log, contents_there, log_of_content}
use Rattle.dr_opening.proofs.{Logs.{opened_places, together_some}, Ways.open_entries}
use Rattle.dr_program.specs.{Presence.present_at, Program.{Program, end_of}, Replica.Replica, Running.Running}
use Rattle.dr_program.{specs.declared.outcome.LogWhy.LogWhy, proofs.Present.{present_map, present_within}}
use Rattle.dr_quorum.specs.Handing.{handed_by}
use Rattle.dr_restart.specs.{Choosing.handed_of, Groups.{first_group_of, group_of}, Setups.crashes_of}
use Rattle.dr_restart.specs.declared.start.Start.{Start}
use Rattle.dr_script.specs.{Ranges.HasRanges, declared.script.Script.Script}
use Rattle.dr_play.{specs.Age.{IsAge, IsAgeOn}, proofs.LoggedMembers.ended_by_disk}
use Rattle.dr_play.specs.Logged.{AreAmple, AreAsBefore, AreCalm, AreOpened, HaveCome, why_ended}
use Rattle.dr_threads.specs.Logs.{AreLonger}
use Rattle.dr_words.{specs.Masks.without, proofs.Masks.has_mask_of}
use Rattle.dr_yard.specs.Yards.{YardState}
use Rattle.dr_program_laws.proofs.Endings.{not_away}
use Rattle.dr_ages.specs.Ages.{HaveSomebodyPrompt, IsAgeFrom, IsAgeOf, IsPlayed, NamesNobody, start_of, taking_part}
use Rattle.dr_ages.specs.{Found.AreFew, Left.{HasLeft, IsFullAt, with_logged}}
use Rattle.dr_ages.specs.{Lent.{AreAllBut, AreMounted, IsMounted, with_logs}, Opened.{AreLater, IsLater}}
use Rattle.dr_ages.specs.{Passing.AreKeptSince, declared.{mode.Mode.{Mode, TheVariants.Sim}, part.Part.Part}}
use Rattle.dr_ages.proofs.Backs.{faults_at, kept_back, log_at, not_missing, passed_with, told_at, untouched_with}
use Rattle.dr_ages.proofs.{Completing.complete_in, Loans.are_found, Opening.{are_opened, opened_on}}
use Rattle.dr_ages.proofs.Staying.{alike_same, later_by_all, later_then, on_same}
use Rattle.dr_kept.proofs.Short.{found_short}
use Rattle.dr_ages.proofs.{Stopping.IsOpeningOn, Votes.{EndsSo, few_cast, member_over, over_form, told_by}}
use Rattle.dr_entry.specs.declared.end.End.TheVariants as ends
use Rattle.dr_program.specs.declared.outcome.LogWhy.TheVariants as logs

-- ---- the logs go on

come_on : {D : Type 0} (told : D → Option Told) (faults : D → ℕ) (base log : LogState D) (r : Replica)
    (why : Option LogWhy) → HasCome told faults base log r why → IsLater told faults [] base log
come_on told faults base log r why come = record {
  has = λ first all has. has_through first base.content log.content has (has_base told faults base log r why come);
  tells = goes_tells (told base.disk) (told log.disk) (λ s. LosesNone base.content) come.moments;
  later = come.later;
  stays = λ first all part left.
      lasts_goes (told base.disk) (told log.disk) (LosesNone first) (come.lasting first) left;
}

later_by_come : {D : Type 0} (told : D → Option Told) (faults : D → ℕ) (olds news : List (Option (LogState D)))
    (members : List (Option Running)) → ((m : ℕ) (old : LogState D) → log_of olds m ≡ Some old → (r : Running)
    × (present_at members m ≡ Some r)) → HaveCome told faults olds news members → AreLater told faults [] olds news
later_by_come told faults olds news members all come m old new there here =
    let r = all m old there in
    come_on told faults old new r.0.replica (why_ended (end_of r.0).end) (come m old new r.0 there here r.1)

pub later_by_calm : {D : Type 0} (told : D → Option Told) (faults : D → ℕ) (olds news : List (Option (LogState D)))
    → AreAsBefore olds news → AreCalm told faults olds news → AreLater told faults [] olds news
later_by_calm told faults olds news kept calm m old new there here =
    let is = kept m old new there here in
    let still = calm m old new there here in
    record {
      has = λ first all has. subst (HasAllOf first) (sym is) has;
      tells = ap (λ o. is_some o) (sym still.0);
      later = omega (arith, still.1);
      stays = λ first all part left. subst (λ (o : Option Told). Goes (told old.disk) o (λ s. LosesNone first))
          (sym still.0) (stays_at (told old.disk) (λ s. LosesNone first) left);
    }

pub later_by_longer : {D : Type 0} (told : D → Option Told) (faults : D → ℕ) (olds news : List (Option (LogState D)))
    → AreLonger told faults olds news → AreLater told faults [] olds news
later_by_longer told faults olds news longer m old new there here =
    let is = longer.each m old new there here in
    record {
      has = λ first all has. has_through first old.content new.content has is.has;
      tells = tells is.moments;
      later = is.later;
      stays = λ first all part left. stays first part left is.moments;
    }
  where
    tells : (told new.disk ≡ told old.disk) ⊎ Goes (told old.disk) (told new.disk) (λ s. LosesNone old.content)
        → is_some (told old.disk) ≡ is_some (told new.disk)
    tells (inl same) = ap (λ o. is_some o) (sym same)
    tells (inr goes) = goes_tells (told old.disk) (told new.disk) (λ s. LosesNone old.content) goes

    stays : (first : OnLog) → HasAllOf first old.content → IsLeft (told old.disk) (LosesNone first)
        → (told new.disk ≡ told old.disk) ⊎ Goes (told old.disk) (told new.disk) (λ s. LosesNone old.content)
        → Goes (told old.disk) (told new.disk) (λ s. LosesNone first)
    stays first part left (inl same) = subst (λ (o : Option Told). Goes (told old.disk) o (λ s. LosesNone first))
        (sym same) (stays_at (told old.disk) (λ s. LosesNone first) left)
    stays first part left (inr goes) = Goes-weaken (told old.disk) (told new.disk)
        (λ s. LosesNone old.content) (λ s. LosesNone first) (λ s image. less_lost first old.content image part) goes

-- whoever is there stands in its program
stands_over : (mode : Mode) (script : Script) (start : Start) (nth : ℕ) (age : AgeEnd) → HasRanges script
    → IsGroup (group_of script start) → (is : IsAge (IsPlayed mode) script start nth age) → (m : ℕ)
    → IsPresent (group_of script start) m → (r : Running) × (present_at is.over.members m ≡ Some r)
stands_over mode script start nth age ranges group is m here =
    (over_form mode script start nth age ranges group is).there m
    (in_roster (group_of script start) m group here) here

pub later_by_run : {D : Type 0} (told : D → Option Told) (faults : D → ℕ) (script : Script) (start : Start)
    (nth : ℕ) (age : AgeEnd) (mode : Mode) (olds news : List (Option (LogState D))) → HasRanges script
    → IsGroup (group_of script start) → AreOpened (group_of script start) olds
    → IsAgeOn (IsPlayed mode) told faults script start nth olds news age → AreLater told faults [] olds news
later_by_run told faults script start nth age mode olds news ranges group opened is =
    later_by_come told faults olds news is.played.over.members
    (λ m old there. stands_over mode script start nth age ranges group is.played m (opened.each m old there).0)
    is.logged

-- an age that ran, or that had no memory to begin
pub later_by_result : {D E : Type 0} (tells : D → Option Told) (faults : D → ℕ) (script : Script)
    (start : Start) (nth : ℕ) (mode : Mode) (olds news : List (Option (LogState D))) (result : Result AgeEnd E)
    → HasRanges script → IsGroup (group_of script start) → AreOpened (group_of script start) olds
    → IfOk result (IsAgeOn (IsPlayed mode) tells faults script start nth olds news)
    → OnErr result (AreAsBefore olds news)
    → OnErr result (AreCalm tells faults olds news) → AreLater tells faults [] olds news
later_by_result tells faults script start nth mode olds news (Ok age) ranges group opened is kept calm =
    later_by_run tells faults script start nth age mode olds news ranges group opened is
later_by_result tells faults script start nth mode olds news (Err error) ranges group opened is kept calm =
    later_by_calm tells faults olds news kept calm

-- a simulated age that had no memory to begin has left all as it was
pub still_by_result : {D E : Type 0} (tells : D → Option Told) (faults : D → ℕ) (mode : Mode)
    (olds news : List (Option (LogState D))) (result : Result AgeEnd E)
    → OnErr result (AreAsBefore olds news) → OnErr result (AreCalm tells faults olds news)
    → OnErr result (mode ≡ Sim → AreAsBefore olds news × AreCalm tells faults olds news)
still_by_result tells faults mode olds news (Ok age) kept calm = tt
still_by_result tells faults mode olds news (Err error) kept calm = λ simulated. (kept, calm)

pub later_on : {D : Type 0} (tells : D → Option Told) (faults : D → ℕ) (starts : List (List Entry))
    (olds mids news : List (Option (LogState D))) → HaveSamePlaces olds mids → AreLater tells faults starts olds mids
    → AreLater tells faults starts mids news → AreLater tells faults starts olds news
later_on tells faults starts olds mids news places first next m old new there here =
    let mid = stays_there olds mids m old places there in
    later_then tells faults starts old mid.0 new (first m old mid.0 there mid.1) (next m mid.0 new mid.1 here)

-- ---- what is left on a disk

left_by : {D : Type 0} (tells : D → Option Told) (faults : D → ℕ) (base log : LogState D) (r : Running)
    (found : OnLog) → HasCome tells faults base log r.replica (why_ended (end_of r).end)
    → log.content ≡ with_logged found r.replica → HasLeft (tells log.disk) r.replica found
left_by {D} tells faults base log r found come kept = by (why_ended (end_of r).end) refl come.last
  where
    safe : IsSafe tells log → HasLeft (tells log.disk) r.replica found
    safe is = inl (subst (λ (c : OnLog). IsLeft (tells log.disk) (λ image. StandFor image c)) kept is)

    by : (why : Option LogWhy) → why_ended (end_of r).end ≡ why
        → WentSo tells faults base log r.replica why → HasLeft (tells log.disk) r.replica found
    by None is went = safe went.1
    by (Some (logs.LogFull len)) is went = safe went.2.safe
    by (Some logs.DiskFault) is went = inr (record {
      failed = ended_by_disk r.replica.end is;
      after = went.0;
      due = subst (λ (c : OnLog). HasDueBehind r.replica c went.0) kept went.1;
      left = subst (λ (c : OnLog). IsLeft (tells log.disk) (λ image. StandFor image c ⊎ StandFor image went.0)) kept
          went.2.left;
    })

-- what has come of a log in an age, by what was on it as the age began
content_of_come : {D : Type 0} (tells : D → Option Told) (faults : D → ℕ) (base new : LogState D) (r : Replica)
    (why : Option LogWhy) → HasCome tells faults base new r why → new.content ≡ with_logged base.content r
content_of_come {D} tells faults base new r why come = λ i. record {
  entries = come.entries i;
  votes = come.voted i;
  age_votes = come.age_votes i;
  newer = come.newer i;
  length = long i;
}
  where
    rest : drop (length base.content.entries) (take r.logged r.history) ≡ come.more.0
    rest = ap (drop (length base.content.entries)) (sym come.entries ∙ come.more.1)
        ∙ drop_at base.content.entries come.more.0 (length base.content.entries) refl

    long : new.content.length ≡ base.content.length
        + (entries_length (drop (length base.content.entries) (take r.logged r.history)) + votes_length r.votes)
    long = omega (arith, come.long, ap entries_length rest)

-- ---- who takes part

-- the members whose logs are handed in are those that are not missing
handed_are : (script : Script) (missing : ℕ) (contents : List (Option OnLog))
    → length script.messages ≡ script.members
    → ((m : ℕ) → m < script.members → is_some (content_at contents m) ≡ not (has missing m))
    → handed_of (handed_by (all_as_lists contents)) (2 ^ length script.messages - 1) ≡ taking_part script missing
handed_are script missing contents lists there = same_masks (handed_of (handed_by (all_as_lists contents))
    (2 ^ length script.messages - 1)) (taking_part script missing)
    (λ i. has_mask_of (λ m. has (2 ^ length script.messages - 1) m && is_some (handed_by (all_as_lists contents) m)) i
    ∙ ap (λ b. nat_lt i 16 && b) (each i)
    ∙ sym (has_mask_of (λ m. has (2 ^ script.members - 1) m && not (has missing m)) i))
  where
    full : (i : ℕ) → has (2 ^ length script.messages - 1) i ≡ has (2 ^ script.members - 1) i
    full i = ap (λ n. has (2 ^ n - 1) i) lists

    each : (i : ℕ) → (has (2 ^ length script.messages - 1) i && is_some (handed_by (all_as_lists contents) i))
        ≡ (has (2 ^ script.members - 1) i && not (has missing i))
    each i = by (has (2 ^ script.members - 1) i) refl
      where
        by : (b : Bool) → has (2 ^ script.members - 1) i ≡ b
            → (has (2 ^ length script.messages - 1) i && is_some (handed_by (all_as_lists contents) i))
            ≡ (has (2 ^ script.members - 1) i && not (has missing i))
        by true e =
            let below : i < script.members = grind (arith, nat_tests, sym (has_ones script.members i) ∙ e) in
            ap (λ b. b && is_some (handed_by (all_as_lists contents) i)) (full i ∙ e)
            ∙ ap (λ o. is_some o) (present_map as_lists contents i)
            ∙ some_map as_lists (content_at contents i) ∙ there i below ∙ sym (ap (λ b. b && not (has missing i)) e)
        by false e = ap (λ b. b && is_some (handed_by (all_as_lists contents) i)) (full i ∙ e)
            ∙ sym (ap (λ b. b && not (has missing i)) e)

-- who takes part is of the roster, and not missing
takes_part : (script : Script) (missing m : ℕ) → has (taking_part script missing) m ≡ true → has missing m ≡ false
takes_part script missing m here =
    grind (arith, has_mask_of (λ k. has (2 ^ script.members - 1) k && not (has missing k)) m, here)

part_of : (script : Script) (missing m : ℕ) → script.members ≤ 16 → m < script.members
    → has missing m ≡ false → has (taking_part script missing) m ≡ true
part_of script missing m few below there = grind (
  arith,
  nat_tests,
  has_mask_of (λ k. has (2 ^ script.members - 1) k && not (has missing k)) m,
  has_ones script.members m,
  below,
  few,
  there,
)

-- where none is missing all do
pub all_take_part : (script : Script) (missing : ℕ) → script.members ≤ 16 → NamesNobody script.members missing
    → taking_part script missing ≡ 2 ^ script.members - 1
all_take_part script missing few none = same_masks (taking_part script missing) (2 ^ script.members - 1)
    (λ i. by i (has (2 ^ script.members - 1) i) refl)
  where
    by : (i : ℕ) (b : Bool) → has (2 ^ script.members - 1) i ≡ b
        → has (taking_part script missing) i ≡ has (2 ^ script.members - 1) i
    by i true e =
        let below : i < script.members = grind (arith, nat_tests, sym (has_ones script.members i) ∙ e) in
        part_of script missing i few below (none i below) ∙ sym e
    by i false e = has_mask_of (λ k. has (2 ^ script.members - 1) k && not (has missing k)) i ∙ grind (arith, e)

-- of the logs that are there that of somebody who isn't late is one
pub somebody_prompt : {D : Type 0} (script : Script) (part : Part) (logs : List (Option (LogState D))) (m : ℕ)
    (log : LogState D) → length logs ≡ script.members → AreAllBut part.missing logs → HaveSomebodyPrompt script part
    → log_of logs m ≡ Some log → SomebodyPrompt part.late logs
somebody_prompt script part logs m log all but some at =
    let l = present_within logs m log at in
    let k = some m (omega (arith, l, all)) (not_missing part.missing logs m log but at) in
    let other = log_at part.missing logs k.0 but (omega (arith, k.1, all)) k.2 in (k.0, other.0, other.1, k.3)

-- ---- the age

-- its start is the one that its end tells
pub same_start : (mode : Mode) (script : Script) (part : Part) (contents : List (Option OnLog)) (start : Start)
    (nth : ℕ) (age : AgeEnd) → length script.messages ≡ script.members
    → ((m : ℕ) → m < script.members → is_some (content_at contents m) ≡ not (has part.missing m))
    → IsChosenOf (first_group_of script).opening contents start → start.members ≡ without start.present part.late
    → IsAge (IsPlayed mode) script start nth age → start ≡ start_of script part age
same_start mode script part contents start nth age lists there starts late is = λ i. record {
  age = sym (ap (λ (a : AgeEnd). a.age) (told_by mode script start nth age is)) i;
  members = (late ∙ ap (λ (all : ℕ). without all part.late) present) i;
  present = present i;
  entries = sym (ap (λ (a : AgeEnd). a.start) (told_by mode script start nth age is)) i;
}
  where
    present : start.present ≡ taking_part script part.missing
    present = starts.chosen.present ∙ handed_are script part.missing contents lists there

-- a log, and a log that it was as its age began
pub record IsOpenLog {D : Type 0} (tells : D → Option Told) (faults : D → ℕ) (start : Start)
    (yard : YardState) (olds mids : List (Option (LogState D))) (m : ℕ) : Type 0 where
  pub old : LogState D
  pub voted : LogState D
  pub mid : LogState D
  pub from : log_of olds m ≡ Some old
  pub by : log_of mids m ≡ Some mid
  pub mounted : IsMounted tells faults (yard.told m) (yard.faults m) old
  pub vote : GotVote tells faults start old voted
  pub begun : GotStart tells faults start voted mid

pub open_log : {D : Type 0} (tells : D → Option Told) (faults : D → ℕ) (start : Start) (yard : YardState)
    (olds mids : List (Option (LogState D))) (m : ℕ) (old : LogState D) → AreMounted tells faults yard olds
    → WereOpened tells faults start olds mids → log_of olds m ≡ Some old
    → IsOpenLog tells faults start yard olds mids m
open_log tells faults start yard olds mids m old mounted (votes, first, next) from =
    let within = present_within olds m old from in
    let voted = together_some (GotVote tells faults start) (log_of olds m) (log_of votes m) old from
    (first.below m within) in
    let mid = together_some (GotStart tells faults start) (log_of votes m) (log_of mids m) voted.0 voted.1
    (next.below m within) in
    record {
      old = old;
      voted = voted.0;
      mid = mid.0;
      from = from;
      by = mid.1;
      mounted = mounted m old from;
      vote = voted.2;
      begun = mid.2;
    }

-- it is open for the age
pub is_open : {D : Type 0} (tells : D → Option Told) (faults : D → ℕ) (start : Start) (yard : YardState)
    (olds mids : List (Option (LogState D))) (m : ℕ) (x : IsOpenLog tells faults start yard olds mids m)
    → IsOpenFor start (voted_for start x.old.content) x.mid.content
is_open tells faults start yard olds mids m x =
    subst (λ c. IsOpenFor start c x.mid.content) x.vote.0.content x.begun.content

-- a member of it, with its log
record IsOf {D : Type 0} (tells : D → Option Told) (faults : D → ℕ) (start : Start) (yard : YardState)
    (olds mids news : List (Option (LogState D))) (m : ℕ) (r : Running) : Type 0 where
  open_one : IsOpenLog tells faults start yard olds mids m
  new : LogState D
  to : log_of news m ≡ Some new
  come : HasCome tells faults open_one.mid new r.replica (why_ended (end_of r).end)

is_of : {D : Type 0} (tells : D → Option Told) (faults : D → ℕ) (script : Script) (part : Part) (mode : Mode)
    (nth : ℕ) (before : YardState) (start : Start) (olds mids news : List (Option (LogState D))) (age : AgeEnd)
    (m : ℕ) (r : Running) → HasRanges script → IsOpeningOn tells faults script part before start olds
    → WereOpened tells faults start olds mids
    → (is : IsAgeOn (IsPlayed mode) tells faults script start nth mids news age)
    → start.present ≡ taking_part script part.missing → IsGroup (group_of script start)
    → present_at is.played.over.members m ≡ Some r → IsOf tells faults start before olds mids news m r
is_of tells faults script part mode nth before start olds mids news age m r ranges on opened is present group at =
    let form = over_form mode script start nth age ranges group is.played in
    let below : m < length olds = omega (
      arith,
      present_within is.played.over.members m r at,
      form.all,
      ranges.group.lists,
      on.all,
    ) in
    let gone = takes_part script part.missing m
    (subst (λ mask. has mask m ≡ true) present (form.of m r at).present) in
    let old = log_at part.missing olds m on.but below gone in
    let x = open_log tells faults start before olds mids m old.0 on.mounted opened old.1 in
    let new = stays_there mids news m x.mid is.places x.by in
    record { open_one = x; new = new.0; to = new.1; come = is.logged m x.mid new.0 r x.by new.1 at }

-- what is on the log of each member
abbrev pub content_on : {D : Type 0} → List (Option (LogState D)) → ℕ → OnLog
content_on {D} logs m = option_map_or (λ (log : LogState D). log.content) (log_of logs m) (empty_of true)

pub is_age : {D : Type 0} (tells : D → Option Told) (faults : D → ℕ) (script : Script) (part : Part) (mode : Mode)
    (nth : ℕ) (before : YardState) (start : Start) (olds mids news : List (Option (LogState D))) (age : AgeEnd)
    → HasRanges script → IsOpeningOn tells faults script part before start olds
    → WereOpened tells faults start olds mids → IsAgeOn (IsPlayed mode) tells faults script start nth mids news age
    → IsAgeOf script part mode nth before (with_logs tells faults before news) age
is_age {D} tells faults script part mode nth before start olds mids news age ranges on were is =
    subst (λ (s : Start). IsAgeFrom s script part mode nth before (with_logs tells faults before news) age) same
    (record {
      contents = contents_of olds;
      found = are_found tells faults part.missing before olds script.members on.mounted on.but on.all;
      starts = on.chosen;
      begun = content_on mids;
      begins = begins;
      played = is.played;
      complete = λ none. complete_in mode script start nth age group ranges is.played (whole none);
      absent = absent;
      few = few_cast mode script start nth age ranges group is.played;
      opened = opened;
      left = left;
      within = within;
      failed = failed;
      calm = calm;
      full = full;
      ample = λ few. is.ample (ample few);
      passes = passed_with tells faults (start.entries ∷ []) before before olds news on.mounted later places
          (λ m none. on_same (start.entries ∷ []) (before.told m) (before.told m) (before.faults m) (before.faults m)
          refl (le_refl (before.faults m)));
      since = subst (λ (k : ℕ). AreKeptSince script.members part.missing k (start.entries ∷ []) before
          (with_logs tells faults before news)) on.all
          (kept_back tells faults script.members part.missing (start.entries ∷ []) before before
          (with_logs tells faults before news) olds news on.mounted on.but later places
          (λ m none. alike_same (before.told m) (before.told m) (before.faults m) (before.faults m) refl
          (le_refl (before.faults m))) (λ m. (refl, refl)));
      untouched = untouched_with tells faults part.missing before olds news on.but places;
    })
  where
    content_here : (m : ℕ) (log : LogState D) → log_of mids m ≡ Some log → content_on mids m ≡ log.content
    content_here m log there =
        ap (λ (o : Option (LogState D)). option_map_or (λ (l : LogState D). l.content) o (empty_of true)) there

    group : IsGroup (group_of script start)
    group = chosen_group script (contents_of olds) start ranges.group on.chosen

    there : (m : ℕ) → m < script.members → is_some (content_at (contents_of olds) m) ≡ not (has part.missing m)
    there m below = contents_there olds m ∙ on.but m (omega (arith, below, on.all))

    same : start ≡ start_of script part age
    same = same_start mode script part (contents_of olds) start nth age ranges.group.lists there on.chosen on.members
        is.played

    present : start.present ≡ taking_part script part.missing
    present = ap (λ (s : Start). s.present) same

    began : HaveSamePlaces olds mids
    began = opened_places tells faults start olds mids were

    places : HaveSamePlaces olds news
    places = places_both olds mids news began is.places

    over : Program
    over = is.played.over

    -- the logs are later behind it
    later : AreLater tells faults (start.entries ∷ []) olds news
    later = later_on tells faults (start.entries ∷ []) olds mids news began
        (opened_on tells faults start olds mids were) (λ m old new from to. later_by_all tells faults
        (start.entries ∷ []) old new (later_by_run tells faults script start nth age mode mids news ranges group
        (are_opened tells faults script start olds mids ranges.group.lists ranges.group.most_members on.all on.chosen
        were) is m old new from to))

    whole : NamesNobody script.members part.missing → AllPresent (group_of script start)
    whole none = present ∙ all_take_part script part.missing ranges.group.most_members none
        ∙ ap (λ n. 2 ^ n - 1) (sym ranges.group.lists)

    begins : (m : ℕ) (c : OnLog) → content_at (contents_of olds) m ≡ Some c
        → IsOpenFor start (voted_for start c) (content_on mids m)
    begins m c at =
        let old = log_of_content olds m c at in
        let x = open_log tells faults start before olds mids m old.0 on.mounted were old.1 in
        subst (λ b. IsOpenFor start (voted_for start b) (content_on mids m)) (ap (λ (l : LogState D). l.content)
        (same_Some x.old old.0 (sym x.from ∙ old.1)) ∙ old.2) (subst (IsOpenFor start (voted_for start x.old.content))
        (sym (content_here m x.mid x.by)) (is_open tells faults start before olds mids m x))

    one : (m : ℕ) (r : Running) → present_at over.members m ≡ Some r
        → IsOf tells faults start before olds mids news m r
    one m r at =
        is_of tells faults script part mode nth before start olds mids news age m r ranges on were is present group at

    -- ---- who is absent

    takes : (m : ℕ) → has start.present m ≡ has (taking_part script part.missing) m
    takes m = ap (λ (mask : ℕ). has mask m) present

    below : (m : ℕ) (e : MemberEnd) → slice_get age.members m ≡ Some e → m < script.members
    below m e at = omega (arith, slice_get_within age.members m e at, is.played.roster)

    absent : (m : ℕ) (e : MemberEnd) → slice_get age.members m ≡ Some e
        → (e.end ≡ ends.Absent) ↔ (has part.missing m ≡ true)
    absent m e at = elim (cases_Bool (has part.missing m)) [
      | inl gone ↦ (
        λ away. gone,
        λ _. ap (λ (x : MemberEnd). x.end) (is.played.ended.absent m e at
            (λ here. true≢false (sym gone ∙ takes_part script part.missing m (sym (takes m) ∙ here)))),
      )
      | inr stays ↦ (
        λ away. absurd (not_away (group_of script start).opening age.members script.turns m
            (crashes_of script.faults nth m) e
            (is.played.ended.each m e at
            (takes m ∙ part_of script part.missing m ranges.group.most_members (below m e at) stays)) away),
        λ gone. absurd (true≢false (sym gone ∙ stays)),
      )
    ]

    -- by how its member ended, where it is not missing
    who : (m : ℕ) (e : MemberEnd) → slice_get age.members m ≡ Some e → e.end ≢ ends.Absent → EndsSo over m e
    who m e at apart = elim (member_over mode script start nth age is.played m e at) [
      | inl ends ↦ ends
      | inr lacks ↦ absurd (apart (sym (ap (λ (x : MemberEnd). x.end) lacks.is)))
    ]

    opened : (m : ℕ) (e : MemberEnd) → slice_get age.members m ≡ Some e → has part.missing m ≡ false
        → IsPrefixOf (opened_with start start.members) (take e.logged e.history)
    opened m e at stays =
        let end = who m e at (λ away. true≢false (sym ((absent m e at).0 away) ∙ stays)) in
        let x = one m end.r end.at in
        let y = x.open_one in
        subst (λ (e : MemberEnd). IsPrefixOf (opened_with start start.members) (take e.logged e.history)) end.is (
          x.come.more.0,
          ap (λ (l : List Entry). l ++ x.come.more.0)
              (sym (open_entries start (voted_for start y.old.content) y.mid.content
              (is_open tells faults start before olds mids m y))) ∙ (sym x.come.more.1 ∙ x.come.entries),
        )

    -- ---- what is on a log then

    content : (m : ℕ) (r : Running) (at : present_at over.members m ≡ Some r)
        → (one m r at).new.content ≡ with_logged (content_on mids m) r.replica
    content m r at =
        let x = one m r at in
        subst (λ (c : OnLog). x.new.content ≡ with_logged c r.replica)
        (sym (content_here m x.open_one.mid x.open_one.by))
        (content_of_come tells faults x.open_one.mid x.new r.replica (why_ended (end_of r).end) x.come)

    left : (m : ℕ) (r : Running) → present_at over.members m ≡ Some r
        → HasLeft ((with_logs tells faults before news).told m) r.replica (content_on mids m)
    left m r at =
        let x = one m r at in
        subst (λ (o : Option Told). HasLeft o r.replica (content_on mids m))
        (sym (told_at tells faults before news m x.new x.to))
        (left_by tells faults x.open_one.mid x.new r (content_on mids m) x.come (content m r at))

    limit : (m : ℕ) (y : IsOpenLog tells faults start before olds mids m) → y.mid.limit ≡ 2147483648
    limit m y = y.begun.limit ∙ y.vote.0.limit ∙ y.mounted.limit

    -- it was within its limit as it opened, and no append has gone over it
    within : (m : ℕ) (r : Running) → present_at over.members m ≡ Some r
        → (with_logged (content_on mids m) r.replica).length ≤ 2147483648
    within m r at =
        let x = one m r at in
        let y = x.open_one in
        subst (λ (c : OnLog). c.length ≤ 2147483648) (content m r at)
        (le_trans x.come.within (max-le (omega (arith, x.come.limit, limit m y))
        (omega (arith, y.begun.within, y.vote.0.limit, y.mounted.limit))))

    full : (m : ℕ) (r : Running) → present_at over.members m ≡ Some r → (len : ℕ)
        → r.replica.end ≡ Some (ends.LogFull len) → IsFullAt r.replica (content_on mids m) len
    full m r at len end =
        let x = one m r at in
        let went : (next : Record) × (IsRecordDue r.replica next) × IsFull tells x.new len next =
        subst (λ (o : Option End). WentSo tells faults x.open_one.mid x.new r.replica
        (why_ended (unwrap_or o ends.Done))) end x.come.last in
        record {
          long = went.2.long ∙ ap (λ (c : OnLog). c.length) (content m r at);
          next = went.0;
          due = went.1;
          over = subst (λ (n : ℕ). n < len + block_length went.0) (x.come.limit ∙ limit m x.open_one) went.2.over;
        }

    -- ---- faults of disks

    counted : (m : ℕ) (y : IsOpenLog tells faults start before olds mids m) → faults y.mid.disk ≡ before.faults m
    counted m y = y.begun.well.calm ∙ y.vote.0.well.calm ∙ y.mounted.calm

    failed : (m : ℕ) (e : MemberEnd) → slice_get age.members m ≡ Some e → e.end ≡ ends.DiskFault
        → Rose (before.faults m) ((with_logs tells faults before news).faults m)
    failed m e at end =
        let by = who m e at (λ away. absurd (cc (end, away))) in
        let x = one m by.r by.at in
        let went : (after : OnLog) × HasDueBehind by.r.replica x.new.content after
        × BrokeOff tells faults x.open_one.mid x.new after =
        subst (λ (y : End). WentSo tells faults x.open_one.mid x.new by.r.replica (why_ended y))
        (ap (λ (x : MemberEnd). x.end) by.is ∙ end) x.come.last in
        subst (Rose (before.faults m)) (sym (faults_at tells faults before news m x.new x.to))
        (rose_since (before.faults m) (faults x.open_one.mid.disk) (faults x.new.disk)
        (omega (arith, counted m x.open_one)) went.2.rose)

    -- a member that its disk has not ended was ended by no fault
    unless_disk : (end : End) → end ≢ ends.DiskFault → why_ended end ≢ Some logs.DiskFault
    unless_disk ends.DiskFault other = absurd (other refl)
    unless_disk (ends.LogFull len) other = λ e. absurd (cc e)
    unless_disk ends.Done other = λ e. absurd (cc e)
    unless_disk ends.Crashed other = λ e. absurd (cc e)
    unless_disk (ends.Suspected by) other = λ e. absurd (cc e)
    unless_disk (ends.Excluded view) other = λ e. absurd (cc e)
    unless_disk (ends.NoMajority mask) other = λ e. absurd (cc e)
    unless_disk (ends.Spent turns) other = λ e. absurd (cc e)
    unless_disk ends.Absent other = λ e. absurd (cc e)

    calm : (m : ℕ) → ((e : MemberEnd) → slice_get age.members m ≡ Some e → e.end ≢ ends.DiskFault)
        → (with_logs tells faults before news).faults m ≡ before.faults m
    calm m other = by (log_of news m) refl
      where
        by : (o : Option (LogState D)) → log_of news m ≡ o
            → option_map_or (λ (log : LogState D). faults log.disk) o (before.faults m) ≡ before.faults m
        by None at = refl
        by (Some new) at =
            let old = was_there olds news m new places at in
            let stays = not_missing part.missing olds m old.0 on.but old.1 in
            let e = slice_get-some age.members m (omega (
              arith,
              present_within olds m old.0 old.1,
              on.all,
              is.played.roster,
            )) in
            let by = who m e.0 e.1 (λ away. true≢false (sym ((absent m e.0 e.1).0 away) ∙ stays)) in
            let x = one m by.r by.at in
            ap (λ (log : LogState D). faults log.disk) (same_Some new x.new (sym at ∙ x.to))
            ∙ (x.come.calm (subst (λ (y : End). why_ended y ≢ Some logs.DiskFault)
            (sym (ap (λ (x : MemberEnd). x.end) by.is)) (unless_disk e.0.end (other e.0 e.1))) ∙ counted m x.open_one)

    -- ---- room

    ample : ((m : ℕ) (c : OnLog) → content_at (contents_of olds) m ≡ Some c → AreFew c)
        → AreAmple (group_of script start) mids
    ample few m log there =
        let old = was_there olds mids m log began there in
        let x = open_log tells faults start before olds mids m old.0 on.mounted were old.1 in
        let at = content_at_log olds m x.old x.from in
        let is = same_Some log x.mid (sym there ∙ x.by) in
        record {
          limit = omega (
            arith,
            ap (λ (l : LogState D). l.content.length) is,
            ap (λ (l : LogState D). length l.content.entries) is,
            ap (λ (l : LogState D). l.limit) is,
            ap length (open_entries start (voted_for start x.old.content) x.mid.content
                (is_open tells faults start before olds mids m x)),
            length-append start.entries (View start.age 0 start.members ∷ []),
            open_long start x.old.content x.mid.content (is_open tells faults start before olds mids m x),
            (few m x.old.content at).few,
            found_short script (contents_of olds) start m x.old.content ranges.group on.chosen at,
            opened_short script (contents_of olds) start ranges.group on.chosen,
            limit m x,
            banks-small (group_of script start) group,
            group.most_members,
          );
        }
