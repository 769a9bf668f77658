-- A member's log at its place: what other deeds than appends leave, and what stands there of ready logs.
use Rattle.std.{specs.Prelude.{Option, None, Some, is_some}, proofs.lemmas.{List.get_or_default, Option.same_Some}}
use Rattle.std.proofs.Common.{◌≡◌, sym, ◌∙◌, subst, ℕ, ◌<◌, ◌≤◌, false, List, length, get_or, arith}
use Rattle.dr_disk.specs.Disk.{Told}
use Rattle.dr_entry.specs.declared.entry.Entry.{Entry}
use Rattle.dr_log.specs.State.{LogState}
use Rattle.dr_served.specs.{Appended.is_append, Served.{AreReady, HaveServed, IsReady, LetterGoesOn}}
use Rattle.dr_served.proofs.Serving.{other_ready, other_served, took_served, took_stays_ready}
use Rattle.dr_program.{specs.Presence.present_at, proofs.Present.present_within}
use Rattle.dr_program.specs.Running.{AsksForLetter, Running, after_step, next_step, settled, took_letter}
use Rattle.dr_sim.specs.Places.{HasServedAt, IsReadyAt}

-- a deed that is no append leaves it ready, and it has served the member still
pub ready_still : {D : Type 0} (place : Option (LogState D)) (word : ℕ) (r : Running)
    → is_append (next_step r) ≡ false → IsReadyAt place r → IsReadyAt place (after_step word r)
ready_still place word r other (log, at, ready) = (log, at, other_ready log word r other ready)

pub served_still : {D : Type 0} (told : D → Option Told) (faults : D → ℕ) (base : LogState D)
    (place : Option (LogState D)) (word : ℕ) (r : Running) → is_append (next_step r) ≡ false
    → r.replica.end ≡ None → r.replica.logged ≤ length r.replica.history
    → HasServedAt told faults base place r → HasServedAt told faults base place (after_step word r)
served_still told faults base place word r other none within served = λ log at.
    other_served told faults base log word r other none within (served log at)

-- nor does a take
pub ready_took : {D : Type 0} (place : Option (LogState D)) (letter : Option (List Entry)) (r : Running)
    → IsReadyAt place r → IsReadyAt place (settled (took_letter letter r))
ready_took place letter r (log, at, ready) = (log, at, took_stays_ready log letter r ready)

pub served_took : {D : Type 0} (told : D → Option Told)
    (faults : D → ℕ) (base : LogState D) (place : Option (LogState D)) (letter : Option (List Entry)) (r : Running)
    → AsksForLetter r → r.replica.logged ≤ length r.replica.history → LetterGoesOn r.replica.history letter
    → HasServedAt told faults base place r → HasServedAt told faults base place (settled (took_letter letter r))
served_took told faults base place letter r asks within on served = λ log at.
    took_served told faults base log letter r asks within on (served log at)

-- each member's log is ready at the place that is read at its number, and has served it
pub ready_at : {D : Type 0} (logs : List (Option (LogState D))) (members : List (Option Running)) (m : ℕ)
    (x : Option (LogState D)) (r : Running) → AreReady logs members → present_at members m ≡ Some r
    → IsReadyAt (get_or logs m x) r
ready_at logs members m x r ready there =
    let log = ready.there m r there in (
      log.0,
      get_or_default logs m x None (present_within logs m log.0 log.1) ∙ log.1,
      ready.each m log.0 r log.1 there,
    )

pub served_at : {D : Type 0} (told : D → Option Told) (faults : D → ℕ) (bases logs : List (Option (LogState D)))
    (members : List (Option Running)) (m : ℕ) (x : Option (LogState D)) (base : LogState D) (r : Running)
    → m < length logs → HaveServed told faults bases logs members → present_at bases m ≡ Some base
    → present_at members m ≡ Some r → HasServedAt told faults base (get_or logs m x) r
served_at told faults bases logs members m x base r within served from there = λ log at.
    served m base log r from (get_or_default logs m None x within ∙ at) there

-- where two logs are ready at their places, both places have one
pub same_place : {D : Type 0} (old new : Option (LogState D)) (r q : Running) → IsReadyAt old r
    → IsReadyAt new q → is_some new ≡ is_some old
same_place old new r q (x, was, before) (y, is, after) = grind (arith, was, is)

-- the log that is read there is ready, and there is one
pub here_ready : {D : Type 0} (place : Option (LogState D)) (log : LogState D) (r : Running)
    → place ≡ Some log → IsReadyAt place r → IsReady log r
here_ready place log r read (now, at, ready) = subst (λ x. IsReady x r) (same_Some now log (sym at ∙ read)) ready

pub no_ready : {D : Type 0} (place : Option (LogState D)) (r : Running) → place ≡ None → IsReadyAt place r → ⊥
no_ready place r none (now, at, ready) = absurd (cc (none, at))
