-- Logs on which an age was opened, or on which its opening stopped.
use Rattle.std.specs.Prelude.{Option, None, Some, is_some}
use Rattle.std.proofs.Common.{◌≡◌, refl, ap, ⊎_elim, ◌<◌, ◌≤◌, List, length, sym, ◌∙◌, subst, inl, inr, ℕ, arith, []}
use Rattle.std.proofs.lemmas.{Bool.{cases_lt, cases_eq}, Option.same_Some}
use Rattle.dr_disk.specs.Disk.{Told}
use Rattle.dr_script.specs.declared.script.Script.{Script}
use Rattle.dr_log.specs.State.{LogState}
use Rattle.dr_restart.specs.declared.start.Start.{Start}
use Rattle.dr_served.{specs.Served.HaveSamePlaces, proofs.Served.{places_both, places_same}}
use Rattle.dr_opening.specs.{Lists.log_of, Unopened.IsWhyUnopened, declared.age.NotOpened.NotOpened}
use Rattle.dr_opening.specs.Logs.{Together, ComeBelow, StopAt, GotStart, GotVote, WereOpened, LacksStart, LacksVote, WereNotOpened}
use Rattle.dr_opening.specs.declared.{age.NotOpened.TheVariants.{Unchosen, Unfinished}, opening.OpenFault.OpenFault}

-- where one is there both are
together_places : {D : Type 0} (P : LogState D → LogState D → Type 0) (o p : Option (LogState D))
    → Together P o p → is_some p ≡ is_some o
together_places P None None come = refl
together_places P None (Some new) come = absurd come
together_places P (Some old) None come = absurd come
together_places P (Some old) (Some new) come = refl

pub come_places : {D : Type 0} (P : LogState D → LogState D → Type 0) (olds news : List (Option (LogState D)))
    → ComeBelow P olds news (length olds) → HaveSamePlaces olds news
come_places {D} P olds news come = record {
  all = come.all;
  each = λ m. ⊎_elim (λ (l : m < length olds). together_places P (log_of olds m) (log_of news m) (come.below m l))
      (λ (g : length olds ≤ m). ap (λ (o : Option (LogState D)). is_some o) (come.others m g))
      (cases_lt m (length olds));
}

-- a log in each of the three places
pub in_stop : {D : Type 0} (P Q : LogState D → LogState D → Type 0) (R : Type 0)
    (olds news : List (Option (LogState D))) (k m : ℕ) (old new : LogState D) → StopAt P Q olds news k
    → log_of olds m ≡ Some old → log_of news m ≡ Some new → (m < k → P old new → R) → (m ≡ k → Q old new → R)
    → (k < m → new ≡ old → R) → R
in_stop {D} P Q R olds news k m old new stop there here by_p by_q by_same = ⊎_elim
    (λ (l : m < k). by_p l (subst (λ (o : Option (LogState D)). Together P (Some old) o) here
    (subst (λ (o : Option (LogState D)). Together P o (log_of news m)) there (stop.below m l))))
    (λ (g : k ≤ m). elim (cases_eq m k) [
      | inl same ↦
          let one : stop.stop.0 ≡ old =
          same_Some stop.stop.0 old (sym stop.stop.2 ∙ (ap (log_of olds) (sym same) ∙ there)) in
          let other : stop.stop.1 ≡ new =
          same_Some stop.stop.1 new (sym stop.stop.3 ∙ (ap (log_of news) (sym same) ∙ here)) in
          by_q same (subst (λ (x : LogState D). Q x new) one (subst (Q stop.stop.0) other stop.stop.4))
      | inr apart ↦
          let l : k < m = omega (arith, g, apart) in
          by_same l (same_Some new old (sym here ∙ (stop.others m l ∙ there)))
    ]) (cases_lt m k)

pub below_stop : {D : Type 0} (P Q : LogState D → LogState D → Type 0) (olds news : List (Option (LogState D)))
    (k m : ℕ) (old new : LogState D) → StopAt P Q olds news k → m < k → log_of olds m ≡ Some old
    → log_of news m ≡ Some new → P old new
below_stop {D} P Q olds news k m old new stop l there here = subst (λ (o : Option (LogState D)). Together P
    (Some old) o) here (subst (λ (o : Option (LogState D)). Together P o (log_of news m)) there (stop.below m l))

pub stop_places : {D : Type 0} (P Q : LogState D → LogState D → Type 0) (olds news : List (Option (LogState D)))
    (k : ℕ) → StopAt P Q olds news k → HaveSamePlaces olds news
stop_places {D} P Q olds news k stop = record {
  all = stop.all;
  each = λ m. ⊎_elim (λ (l : m < k). together_places P (log_of olds m) (log_of news m) (stop.below m l))
      (λ (g : k ≤ m). elim (cases_eq m k) [
        | inl same ↦ ap (λ (o : Option (LogState D)). is_some o) (ap (log_of news) same ∙ stop.stop.3)
            ∙ ap (λ (o : Option (LogState D)). is_some o) (sym (ap (log_of olds) same ∙ stop.stop.2))
        | inr apart ↦ ap (λ (o : Option (LogState D)). is_some o) (stop.others m (omega (arith, g, apart)))
      ]) (cases_lt m k);
}

-- those of the second phase are as many as of the first
pub all_raised : {D : Type 0} (told : D → Option Told) (faults : D → ℕ) (start : Start)
    (olds mids news : List (Option (LogState D))) → length mids ≡ length olds
    → ComeBelow (GotStart told faults start) mids news (length olds)
    → ComeBelow (GotStart told faults start) mids news (length mids)
all_raised told faults start olds mids news all = subst (ComeBelow (GotStart told faults start) mids news) (sym all)

pub opened_places : {D : Type 0} (told : D → Option Told) (faults : D → ℕ) (start : Start)
    (olds news : List (Option (LogState D))) → WereOpened told faults start olds news → HaveSamePlaces olds news
opened_places told faults start olds news (mids, voted, raised) =
    places_both olds mids news (come_places (GotVote told faults start) olds mids voted)
    (come_places (GotStart told faults start) mids news (all_raised told faults start olds mids news voted.all raised))

pub unopened_places : {D : Type 0} (told : D → Option Told) (faults : D → ℕ) (start : Start)
    (olds news : List (Option (LogState D))) (fault : OpenFault) → WereNotOpened told faults start olds news fault
    → HaveSamePlaces olds news
unopened_places told faults start olds news fault (inl stop) = stop_places (GotVote told faults start)
    (λ old new. LacksVote told faults start old new fault.why) olds news fault.member stop
unopened_places told faults start olds news fault (inr (mids, voted, stop)) = places_both olds mids news
    (come_places (GotVote told faults start) olds mids voted) (stop_places (GotStart told faults start)
    (λ old new. LacksStart told faults start old new fault.why) mids news fault.member stop)

pub why_places : {D : Type 0} (told : D → Option Told) (faults : D → ℕ) (script : Script) (late : ℕ)
    (olds news : List (Option (LogState D))) (why : NotOpened) → IsWhyUnopened told faults script late olds news why
    → HaveSamePlaces olds news
why_places told faults script late olds news (Unchosen fault) is =
    subst (HaveSamePlaces olds) (sym is.1) (places_same olds)
why_places told faults script late olds news (Unfinished fault) is =
    unopened_places told faults is.0 olds news fault is.3

-- what came of a log that was there
pub together_some : {D : Type 0} (P : LogState D → LogState D → Type 0) (o p : Option (LogState D)) (old : LogState D)
    → o ≡ Some old → Together P o p → (new : LogState D) × (p ≡ Some new) × P old new
together_some P None p old is both = absurd (cc is)
together_some P (Some x) None old is both = absurd both
together_some P (Some x) (Some new) old is both = (new, refl, subst (λ y. P y new) (same_Some x old is) both)
