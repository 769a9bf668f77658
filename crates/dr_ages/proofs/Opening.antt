-- Logs on which an age was opened, or on which its opening stopped.
use Rattle.std.{specs.Prelude.{Option, None, Some}, proofs.lemmas.Option.same_Some}
use Rattle.std.proofs.Common.{◌≡◌, refl, sym, ◌∙◌, subst, inl, inr, ℕ, ◌≤◌, arith, List, [], ◌∷◌, length}
use Rattle.dr_play.specs.Logged.{AreOpened, IsOpened}
use Rattle.dr_disk.{specs.{Disk.Told, Images.Goes}, proofs.{DiskCalls.goes_tells, Moments.{goes_so, goes_both}}}
use Rattle.dr_entry.specs.declared.entry.Entry.{Entry}
use Rattle.dr_log.specs.{Standing.LosesNone, State.LogState}
use Rattle.dr_log_bytes.specs.Content.{OnLog}
use Rattle.dr_served.specs.Served.{HaveSamePlaces}
use Rattle.dr_machine.specs.Group.{IsPresent}
use Rattle.dr_opening.specs.{Contents.{IsRising, IsVoting, StandSo}, declared.catching_up.CatchFault.CatchFault}
use Rattle.dr_opening.specs.{Lists.{contents_of, log_of}, Unopened.IsWhyUnopened}
use Rattle.dr_opening.specs.Logs.{GotStart, GotVote, LacksStart, LacksVote, WereNotOpened, WereOpened}
use Rattle.dr_opening.{specs.{Tries.IsChosenOf, declared.age.NotOpened.NotOpened}, proofs.Trying.{in_set, out_of_set}}
use Rattle.dr_opening.specs.declared.{age.NotOpened.TheVariants.{Unchosen, Unfinished}, opening.OpenFault.OpenFault}
use Rattle.dr_opening.proofs.{Contents.{step_voting, step_rising}, Logs.{all_raised, in_stop, opened_places}}
use Rattle.dr_opening.proofs.{Lists.{stays_there, was_there, content_at_log, content_none}, Ways.open_entries}
use Rattle.dr_opening.proofs.Losing.{rising_has_all, voting_has_all, voting_loses_none, rising_loses_none}
use Rattle.dr_kept.proofs.OpenLogs.{come_mid, in_come}
use Rattle.dr_restart.specs.{Groups.{first_group_of, group_of}, declared.start.Start.Start}
use Rattle.dr_script.specs.declared.script.Script.{Script}
use Rattle.dr_ages.{specs.Opened.{AreLater, HaveGoneOn, IsLater}, proofs.Staying.{later_same, of_one_start}}

-- ---- one log

-- a log in the first phase has gone on
voting_later : {D : Type 0} (told : D → Option Told) (faults : D → ℕ) (start : Start) (old new : LogState D)
    → IsVoting start old.content new.content
    → Goes (told old.disk) (told new.disk) (λ s. StandSo (IsVoting start old.content))
    → faults old.disk ≤ faults new.disk → IsLater told faults (start.entries ∷ []) old new
voting_later told faults start old new way moments later = record {
  has = λ first all has. voting_has_all start first old.content new.content has way;
  tells = goes_tells (told old.disk) (told new.disk) (λ s. StandSo (IsVoting start old.content)) moments;
  later = later;
  stays = λ first all has left. goes_so (told old.disk) (told new.disk) (StandSo (IsVoting start old.content))
      (LosesNone first) (λ image so. voting_loses_none start first old.content image has so) moments;
}

pub voted_later : {D : Type 0} (told : D → Option Told) (faults : D → ℕ) (start : Start) (old new : LogState D)
    → GotVote told faults start old new → IsLater told faults (start.entries ∷ []) old new
voted_later told faults start old new got =
    voting_later told faults start old new (inr (inr got.0.content)) got.0.moments (omega (arith, got.0.well.calm))

unvoted_later : {D : Type 0} (told : D → Option Told) (faults : D → ℕ) (start : Start) (old new : LogState D)
    (why : CatchFault) → LacksVote told faults start old new why → IsLater told faults (start.entries ∷ []) old new
unvoted_later told faults start old new why lacks = voting_later told faults start old new
    (step_voting start old.content new.content lacks.next lacks.step) lacks.moments lacks.later

-- and one in the second, which got its vote before
rising_later : {D : Type 0} (told : D → Option Told) (faults : D → ℕ) (start : Start) (old mid new : LogState D)
    → GotVote told faults start old mid → IsRising start mid.content new.content
    → Goes (told mid.disk) (told new.disk) (λ s. StandSo (IsRising start mid.content))
    → faults mid.disk ≤ faults new.disk → IsLater told faults (start.entries ∷ []) old new
rising_later told faults start old mid new got way moments later = record {
  has = λ first all has. rising_has_all start first old.content new.content has
      (of_one_start first.entries start.entries all)
      (subst (λ (v : OnLog). IsRising start v new.content) got.0.content way);
  tells = voted.tells
      ∙ goes_tells (told mid.disk) (told new.disk) (λ s. StandSo (IsRising start mid.content)) moments;
  later = omega (arith, voted.later, later);
  stays = λ first all has left. goes_both (told old.disk) (told mid.disk) (told new.disk) (LosesNone first)
      (voted.stays first all has left) (goes_so (told mid.disk) (told new.disk) (StandSo (IsRising start mid.content))
      (LosesNone first) (λ image so. rising_loses_none start first old.content mid.content image got.0.content has
      (of_one_start first.entries start.entries all) so) moments);
}
  where
    voted : IsLater told faults (start.entries ∷ []) old mid
    voted = voted_later told faults start old mid got

open_later : {D : Type 0} (told : D → Option Told) (faults : D → ℕ) (start : Start) (old mid new : LogState D)
    → GotVote told faults start old mid → GotStart told faults start mid new
    → IsLater told faults (start.entries ∷ []) old new
open_later told faults start old mid new got came = rising_later told faults start old mid new got
    (inr (inr came.content)) came.moments (omega (arith, came.well.calm))

unopened_later : {D : Type 0} (told : D → Option Told) (faults : D → ℕ) (start : Start) (old mid new : LogState D)
    (why : CatchFault) → GotVote told faults start old mid → LacksStart told faults start mid new why
    → IsLater told faults (start.entries ∷ []) old new
unopened_later told faults start old mid new why got lacks = rising_later told faults start old mid new got
    (step_rising start mid.content new.content lacks.next lacks.step) lacks.moments lacks.later

-- ---- they have gone on

pub opened_on : {D : Type 0} (told : D → Option Told) (faults : D → ℕ) (start : Start)
    (olds news : List (Option (LogState D))) → WereOpened told faults start olds news
    → AreLater told faults (start.entries ∷ []) olds news
opened_on told faults start olds news (mids, voted, raised) m old new there here =
    let mid = come_mid (GotVote told faults start) olds mids m old voted there in
    open_later told faults start old mid.0 new
    (in_come (GotVote told faults start) olds mids m old mid.0 voted there mid.1)
    (in_come (GotStart told faults start) mids news m mid.0 new
    (all_raised told faults start olds mids news voted.all raised) mid.1 here)

pub unopened_on : {D : Type 0} (told : D → Option Told) (faults : D → ℕ) (start : Start)
    (olds news : List (Option (LogState D))) (fault : OpenFault) → WereNotOpened told faults start olds news fault
    → AreLater told faults (start.entries ∷ []) olds news
unopened_on {D} told faults start olds news fault (inl stop) m old new there here =
    in_stop (GotVote told faults start) (λ old new. LacksVote told faults start old new fault.why)
    (IsLater told faults (start.entries ∷ []) old new) olds news fault.member m old new stop there here
    (λ l got. voted_later told faults start old new got)
    (λ at lacks. unvoted_later told faults start old new fault.why lacks)
    (λ l same. subst (IsLater told faults (start.entries ∷ []) old) (sym same)
    (later_same told faults (start.entries ∷ []) old))
unopened_on {D} told faults start olds news fault (inr (mids, voted, stop)) m old new there here =
    let mid = come_mid (GotVote told faults start) olds mids m old voted there in
    let got = in_come (GotVote told faults start) olds mids m old mid.0 voted there mid.1 in
    in_stop (GotStart told faults start) (λ old new. LacksStart told faults start old new fault.why)
    (IsLater told faults (start.entries ∷ []) old new) mids news fault.member m mid.0 new stop mid.1 here
    (λ l came. open_later told faults start old mid.0 new got came)
    (λ at lacks. unopened_later told faults start old mid.0 new fault.why got lacks) (λ l same. subst
    (IsLater told faults (start.entries ∷ []) old) (sym same) (voted_later told faults start old mid.0 got))

-- logs that are as they were have
pub on_still : {D : Type 0} (told : D → Option Told) (faults : D → ℕ) (starts : List (List Entry))
    (logs : List (Option (LogState D))) → AreLater told faults starts logs logs
on_still told faults starts logs m old new there here =
    subst (IsLater told faults starts old) (same_Some old new (sym there ∙ here)) (later_same told faults starts old)

pub gone_on : {D : Type 0} (told : D → Option Told) (faults : D → ℕ) (script : Script) (late : ℕ)
    (olds news : List (Option (LogState D))) (why : NotOpened) → IsWhyUnopened told faults script late olds news why
    → HaveGoneOn told faults script (contents_of olds) olds news
gone_on told faults script late olds news (Unchosen fault) is = (
  [],
  inl refl,
  subst (AreLater told faults [] olds) (sym is.1) (on_still told faults [] olds),
)
gone_on told faults script late olds news (Unfinished fault) is = (
  is.0.entries ∷ [],
  inr (is.0, is.1, refl),
  unopened_on told faults is.0 olds news fault is.3,
)

-- ---- the age begins on them

pub are_opened : {D : Type 0} (told : D → Option Told) (faults : D → ℕ) (script : Script) (start : Start)
    (olds news : List (Option (LogState D))) → length script.messages ≡ script.members → script.members ≤ 16
    → length olds ≡ script.members → IsChosenOf (first_group_of script).opening (contents_of olds) start
    → WereOpened told faults start olds news → AreOpened (group_of script start) news
are_opened {D} told faults script start olds news lists few all chosen opened = record {
  all = places.all ∙ (all ∙ sym lists);
  each = λ m new here. each m new here;
  there = λ m l present. there m present (log_of olds m) refl;
}
  where
    places : HaveSamePlaces olds news
    places = opened_places told faults start olds news opened

    small : length (first_group_of script).opening.messages ≤ 16
    small = omega (arith, lists, few)

    each : (m : ℕ) (new : LogState D) → log_of news m ≡ Some new
        → IsPresent (group_of script start) m × IsOpened (group_of script start) new
    each m new here =
        let old = was_there olds news m new places here in
        let mid = come_mid (GotVote told faults start) olds opened.0 m old.0 opened.1 old.1 in
        let got = in_come (GotStart told faults start) opened.0 news m mid.0 new
        (all_raised told faults start olds opened.0 news opened.1.all opened.2) mid.1 here in (
          in_set (first_group_of script).opening (contents_of olds) start m old.0.content chosen small
              (content_at_log olds m old.0 old.1),
          record { entries = open_entries start mid.0.content new.content got.content; whole = got.well.unfailed },
        )

    there : (m : ℕ) → IsPresent (group_of script start) m → (o : Option (LogState D)) → log_of olds m ≡ o
        → (new : LogState D) × (log_of news m ≡ Some new)
    there m present None at = absurd (cc (
      present,
      out_of_set (first_group_of script).opening (contents_of olds) start m chosen small (content_none olds m at),
    ))
    there m present (Some old) at = stays_there olds news m old places at
