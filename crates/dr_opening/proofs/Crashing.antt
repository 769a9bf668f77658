-- What a crash leaves of logs on which an age was opened, or on which its opening stopped.
use Rattle.std.{specs.Prelude.slice_get, proofs.lemmas.{Bool.{cases_eq, cases_lt}, Option.same_Some}}
use Rattle.std.proofs.Common.{◌≡◌, refl, ap, sym, ◌∙◌, subst, inl, inr, ⊎_elim, ℕ, ◌<◌, ◌≤◌, arith, List, length, Option, None, Some, ◌⊎◌}
use Rattle.dr_entry.proofs.ListPlaces.{within_places}
use Rattle.dr_disk.{specs.{Disk.{Told, state_of}, Images.{AllImages, IsLeft}}, proofs.Moments.Goes-last}
use Rattle.dr_log.{specs.State.LogState, proofs.Standing.{voted_newer, content_there, no_content}}
use Rattle.dr_log_bytes.{specs.{Content.OnLog, Grammar.StandFor}, proofs.Meaning.content_once}
use Rattle.dr_restart.specs.{Trying.age_vote_of, declared.{lists.LogLists.LogLists, start.Start.Start}}
use Rattle.dr_opening.specs.{Contents.{IsRising, IsVoting, StandSo, voted_for}, Lists.{as_lists, contents_of, log_of}}
use Rattle.dr_opening.specs.Logs.{ComeBelow, GotStart, GotVote, IsReadyToRise, LacksStart, LacksVote, StopAt, Together, WereOpened, WereNotOpened}
use Rattle.dr_opening.specs.{Tries.{AreLeftOn, AreSafe, CameSo, IsLeftOn}, declared.catching_up.CatchFault.CatchFault}
use Rattle.dr_opening.{specs.declared.opening.OpenFault.OpenFault, proofs.Lists.content_is}
use Rattle.dr_opening.proofs.Placing.{came_from, came_to, none_to}

-- what is so of each log by its number: where there was one there is one, and each image of it stands for what is so
pub record AreSo {D : Type 0} (told : D → Option Told) (P : OnLog → OnLog → Type 0)
    (olds news : List (Option (LogState D))) : Type 0 where
  pub each : (m : ℕ) (old : LogState D) → log_of olds m ≡ Some old
      → (new : LogState D) × (log_of news m ≡ Some new) × IsLeft (told new.disk) (StandSo (P old.content))
  pub none : (m : ℕ) → log_of olds m ≡ None → log_of news m ≡ None

-- lists that an image gives are of what is so
so_left : {D : Type 0} (told : D → Option Told) (P : OnLog → Type 0) (new : LogState D) (lists : LogLists)
    → IsLeft (told new.disk) (StandSo P) → IsLeftOn told new lists → (now : OnLog) × P now × (lists ≡ as_lists now)
so_left told P new lists left is =
    let here : AllImages (state_of is.tells) (StandSo P) = subst (λ o. IsLeft o (StandSo P)) is.told_so left in
    let one = here is.image is.left in (
      one.0,
      one.1,
      is.are ∙ ap as_lists (content_once is.image is.content one.0 is.stands one.2),
    )

one_left : {D : Type 0} (told : D → Option Told) (P : OnLog → OnLog → Type 0) (after : List LogLists) (m : ℕ)
    (c : OnLog) (old new : LogState D) (lists : LogLists) → old.content ≡ c
    → IsLeft (told new.disk) (StandSo (P old.content)) → slice_get after m ≡ Some lists → IsLeftOn told new lists
    → (now : OnLog) × P c now × (slice_get after m ≡ Some (as_lists now))
one_left told P after m c old new lists same left at is = by (so_left told (P old.content) new lists left is)
  where
    by : (now : OnLog) × P old.content now × (lists ≡ as_lists now)
        → (now : OnLog) × P c now × (slice_get after m ≡ Some (as_lists now))
    by (now, way, are) = (now, subst (λ d. P d now) same way, at ∙ ap Some are)

pub left_so_far : {D : Type 0} (told : D → Option Told) (P : OnLog → OnLog → Type 0)
    (olds news : List (Option (LogState D))) (before after : List LogLists) → AreSo told P olds news
    → AreLeftOn told news before after → CameSo P (contents_of olds) before after
left_so_far {D} told P olds news before after are left = record {
  all = left.all;
  each = λ m c at.
      let old = content_there (log_of olds m) c (sym (content_is olds m) ∙ at) in
      let new = are.each m old.0 old.1 in
      let one = left.each m new.0 new.1 in one_left told P after m c old.0 new.0 one.0 old.2 new.2 one.1 one.2;
  others = λ m at. left.others m (are.none m (no_content (log_of olds m) (sym (content_is olds m) ∙ at)));
}

-- ---- by where it stopped

-- a log that is there is below the end of the list
below_end : {D : Type 0} (logs : List (Option (LogState D))) (m : ℕ) (log : LogState D) → log_of logs m ≡ Some log
    → m < length logs
below_end logs m log at = within_places logs m log at

-- so is one that has come to something
come_there : {D : Type 0} (P : LogState D → LogState D → Type 0) (olds news : List (Option (LogState D)))
    (m : ℕ) (old : LogState D) → ComeBelow P olds news (length olds) → log_of olds m ≡ Some old
    → (new : LogState D) × (log_of news m ≡ Some new) × P old new
come_there P olds news m old come at = came_to P old (log_of news m)
    (subst (λ o. Together P o (log_of news m)) at (come.below m (below_end olds m old at)))

come_none : {D : Type 0} (P : LogState D → LogState D → Type 0) (olds news : List (Option (LogState D)))
    (m : ℕ) → ComeBelow P olds news (length olds) → log_of olds m ≡ None → log_of news m ≡ None
come_none P olds news m come at = ⊎_elim (λ (l : m < length olds). none_to P (log_of olds m)
    (log_of news m) at (come.below m l)) (λ (g : length olds ≤ m). come.others m g ∙ at) (cases_lt m (length olds))

-- what is so of a log in each of the three places
stop_there : {D : Type 0} (P Q R : LogState D → LogState D → Type 0) (olds news : List (Option (LogState D)))
    (k m : ℕ) (old : LogState D) → StopAt P Q olds news k → log_of olds m ≡ Some old
    → ((old new : LogState D) → P old new → R old new) → ((old new : LogState D) → Q old new → R old new)
    → ((x : LogState D) → log_of olds m ≡ Some x → R x x)
    → (new : LogState D) × (log_of news m ≡ Some new) × R old new
stop_there {D} P Q R olds news k m old stop at by_p by_q by_r = ⊎_elim (λ (l : m < k).
    let one = came_to P old (log_of news m) (subst (λ o. Together P o (log_of news m)) at (stop.below m l)) in
    (one.0, one.1, by_p old one.0 one.2)) (λ (g : k ≤ m). elim (cases_eq m k) [
      | inl same ↦
          let at_k = ap (log_of olds) (sym same) ∙ at in
          let mine : stop.stop.0 ≡ old = same_Some stop.stop.0 old (sym stop.stop.2 ∙ at_k) in (
            stop.stop.1,
            ap (log_of news) same ∙ stop.stop.3,
            subst (λ x. R x stop.stop.1) mine (by_q stop.stop.0 stop.stop.1 stop.stop.4),
          )
      | inr other ↦ (old, stop.others m (omega (arith, g, other)) ∙ at, by_r old at)
    ]) (cases_lt m k)

stop_none : {D : Type 0} (P Q : LogState D → LogState D → Type 0) (olds news : List (Option (LogState D)))
    (k m : ℕ) → StopAt P Q olds news k → log_of olds m ≡ None → log_of news m ≡ None
stop_none P Q olds news k m stop at = ⊎_elim (λ (l : m < k). none_to P
    (log_of olds m) (log_of news m) at (stop.below m l)) (λ (g : k ≤ m). elim (cases_eq m k) [
      | inl same ↦ absurd (let e = sym at ∙ ap (log_of olds) same ∙ stop.stop.2 in cc)
      | inr other ↦ stop.others m (omega (arith, g, other)) ∙ at
    ]) (cases_lt m k)

-- what is safe is one of what may stand there
safe_so : (o : Option Told) (P : OnLog → Type 0) (c : OnLog) → P c → IsLeft o (λ image. StandFor image c)
    → IsLeft o (StandSo P)
safe_so None P c is left = tt
safe_so (Some t) P c is left = λ image here. (c, is, left image here)

-- ---- the first phase

pub so_voting : {D : Type 0} (told : D → Option Told) (faults : D → ℕ) (start : Start)
    (olds news : List (Option (LogState D))) (k : ℕ) (why : CatchFault) → AreSafe told olds
    → StopAt (GotVote told faults start) (λ old new. LacksVote told faults start old new why) olds news k
    → AreSo told (IsVoting start) olds news
so_voting {D} told faults start olds news k why safe stop = record {
  each = λ m old at. stop_there (GotVote told faults start) (λ old new. LacksVote told faults start old new why)
      (λ old new. IsLeft (told new.disk) (StandSo (IsVoting start old.content))) olds news k m old stop at
      (λ a b got. Goes-last (told a.disk) (told b.disk) (StandSo (IsVoting start a.content)) got.0.moments)
      (λ a b stuck. Goes-last (told a.disk) (told b.disk) (StandSo (IsVoting start a.content)) stuck.moments)
      (λ x there. safe_so (told x.disk) (IsVoting start x.content) x.content (inl refl) (safe m x there));
  none = λ m at. stop_none (GotVote told faults start) (λ old new. LacksVote told faults start old new why) olds
      news k m stop at;
}

-- ---- the second phase

-- a log that has got its vote is ready for it
pub ready_by : {D : Type 0} (told : D → Option Told) (faults : D → ℕ) (start : Start)
    (olds mids : List (Option (LogState D))) (m : ℕ) (mid : LogState D)
    → ComeBelow (GotVote told faults start) olds mids (length olds) → log_of mids m ≡ Some mid
    → IsReadyToRise told mid
ready_by {D} told faults start olds mids m mid voted at =
    let one = came_from (GotVote told faults start) (log_of olds m) mid
    (subst (Together (GotVote told faults start) (log_of olds m)) at
    (voted.below m (omega (arith, below_end mids m mid at, voted.all)))) in
    record {
      newer = ap (λ (c : OnLog). c.newer) one.2.0.content ∙ voted_newer (age_vote_of start) one.0.content;
      spare = one.2.1;
      whole = one.2.0.well.unfailed;
      safe = one.2.0.well.safe;
    }

-- over logs that have the vote
so_rising : {D : Type 0} (told : D → Option Told) (faults : D → ℕ) (start : Start)
    (olds mids news : List (Option (LogState D))) → ComeBelow (GotVote told faults start) olds mids (length olds)
    → AreSo told (IsRising start) mids news → AreSo told (λ c now. IsRising start (voted_for start c) now) olds news
so_rising {D} told faults start olds mids news voted are = record {
  each = λ m old at.
      let mid = come_there (GotVote told faults start) olds mids m old voted at in
      let new = are.each m mid.0 mid.1 in (
        new.0,
        new.1,
        subst (λ c. IsLeft (told new.0.disk) (StandSo (IsRising start c))) mid.2.0.content new.2,
      );
  none = λ m at. are.none m (come_none (GotVote told faults start) olds mids m voted at);
}

pub so_opened : {D : Type 0} (told : D → Option Told) (faults : D → ℕ) (start : Start)
    (olds news : List (Option (LogState D))) → WereOpened told faults start olds news
    → AreSo told (λ c now. IsRising start (voted_for start c) now) olds news
so_opened {D} told faults start olds news (mids, voted, raised) =
    so_rising told faults start olds mids news voted (record {
      each = λ m mid at.
          let new = come_there (GotStart told faults start) mids news m mid come at in (
            new.0,
            new.1,
            Goes-last (told mid.disk) (told new.0.disk) (StandSo (IsRising start mid.content)) new.2.moments,
          );
      none = λ m at. come_none (GotStart told faults start) mids news m come at;
    })
  where
    come : ComeBelow (GotStart told faults start) mids news (length mids)
    come = subst (ComeBelow (GotStart told faults start) mids news) (sym voted.all) raised

pub so_stopped : {D : Type 0} (told : D → Option Told) (faults : D → ℕ) (start : Start)
    (olds mids news : List (Option (LogState D))) (k : ℕ) (why : CatchFault)
    → ComeBelow (GotVote told faults start) olds mids (length olds)
    → StopAt (GotStart told faults start) (λ old new. LacksStart told faults start old new why) mids news k
    → AreSo told (λ c now. IsRising start (voted_for start c) now) olds news
so_stopped {D} told faults start olds mids news k why voted stop =
    so_rising told faults start olds mids news voted (record {
      each = λ m mid at. stop_there (GotStart told faults start) (λ old new. LacksStart told faults start old new why)
          (λ old new. IsLeft (told new.disk) (StandSo (IsRising start old.content))) mids news k m mid stop at
          (λ a b got. Goes-last (told a.disk) (told b.disk) (StandSo (IsRising start a.content)) got.moments)
          (λ a b stuck. Goes-last (told a.disk) (told b.disk) (StandSo (IsRising start a.content)) stuck.moments)
          (λ x there. safe_so (told x.disk) (IsRising start x.content) x.content (inl refl)
          (ready_by told faults start olds mids m x voted there).safe);
      none = λ m at. stop_none (GotStart told faults start)
          (λ old new. LacksStart told faults start old new why) mids news k m stop at;
    })

-- what came of each log: it is in the first phase, or in the second
abbrev pub AreOnWay : {D : Type 0} (tells : D → Option Told) (start : Start) (olds news : List (Option (LogState D))) → Type 0
AreOnWay tells start olds news = AreSo tells (IsVoting start) olds news
    ⊎ AreSo tells (λ c now. IsRising start (voted_for start c) now) olds news

pub on_way : {D : Type 0} (tells : D → Option Told) (faults : D → ℕ) (start : Start)
    (olds news : List (Option (LogState D))) (fault : OpenFault) → AreSafe tells olds
    → WereNotOpened tells faults start olds news fault → AreOnWay tells start olds news
on_way tells faults start olds news fault safe (inl stop) =
    inl (so_voting tells faults start olds news fault.member fault.why safe stop)
on_way tells faults start olds news fault safe (inr (mids, voted, stop)) =
    inr (so_stopped tells faults start olds mids news fault.member fault.why voted stop)
