-- The run of one member, sweep by sweep and deed by deed.
use Rattle.std.specs.Prelude.{Option, None, Some}
use Rattle.std.proofs.Common.{◌≡◌, refl, sym, ◌∙◌, subst, ℕ, false, List, [], ◌∷◌}
use Rattle.dr_disk.specs.Disk.{Told}
use Rattle.dr_entry.specs.declared.entry.Entry.{Entry}
use Rattle.dr_log.specs.State.{LogState}
use Rattle.dr_served.specs.{Appended.is_append, Served.{AppendsWell, LetterGoesOn}}
use Rattle.dr_served.proofs.Serving.{other_ready, other_served, took_served, took_stays_ready}
use Rattle.dr_program.specs.Running.{Running, after_step, next_deed, next_step, settled, took_letter}
use Rattle.dr_program.{specs.declared.deed.Deed.Deed, proofs.{Accepting.took_told, Fixed.after_told, StepsAt.taking}}
use Rattle.dr_program.specs.declared.deed.Deed.TheVariants as deeds
use Rattle.dr_play.proofs.{Deeds.{at_look, at_push, at_take, deed_tells}, Sound.appends_well}
use Rattle.dr_program_laws.proofs.Letters.{letters_are}
use Rattle.dr_table.specs.{Cards.HasAskedForLetter, Rule.number, Steps.{IsReachedMember, MayTake}}
use Rattle.dr_table.{specs.Sweeps.{HasSwept, HasTaken, IsSwept}, proofs.{Cards.reached_form, Deeds.same_number}}
use Rattle.dr_table.proofs.Sweeps.{swept_going}
use Rattle.dr_threads.specs.Course.{HasGone}

-- ---- a member that is reached

-- what it appends is a valid record
pub reached_well : (r : Running) → IsReachedMember r → AppendsWell r
reached_well r (g, p, is) = appends_well g p (number r) r is.sound is.there

-- a letter that it may take goes on from its history
takes_on : (r : Running) (letter : Option (List Entry)) → next_deed r ≡ deeds.Take → MayTake r letter
    → LetterGoesOn r.replica.history letter
takes_on r None next may = tt
takes_on r (Some letter) next (g, p, is, found) =
    let form = is.sound.form.form (number r) r is.there in
    let t = deed_tells p.table r deeds.Take next in
    let fits = letters_are g p is.sound.group is.sound.form is.sound.reached (number r) r letter is.there
    (taking r form (record { unended = t.none; due = t.says })).outside found in (fits.rest, fits.begins)

-- a look or a push is no append
swept_other : (r : Running) → IsSwept (next_deed r) → is_append (next_step r) ≡ false
swept_other r swept = by (next_deed r) refl swept
  where
    by : (d : Deed) → next_deed r ≡ d → IsSwept d → is_append (next_step r) ≡ false
    by (deeds.Look index) next swept = at_look r index next
    by (deeds.Push index word) next swept = at_push r index word next
    by d next swept = absurd swept

-- ---- going on

module _ {D : Type 0} (told : D → Option Told) (faults : D → ℕ) where
  -- no deed yet
  pub gone_none : (r : Running) (log : LogState D) → HasGone told faults r log r log
  gone_none r log = record { same = refl; ready = λ is. is; served = λ base is. is }

  pub gone_more : (r q p : Running) (log new newer : LogState D) → HasGone told faults r log q new
      → HasGone told faults q new p newer → HasGone told faults r log p newer
  gone_more r q p log new newer a b = record {
    same = b.same ∙ a.same;
    ready = λ is. b.ready (a.ready is);
    served = λ base is. b.served base (a.served base is);
  }

  -- by a step that is no append
  pub gone_step : (r : Running) (word : ℕ) (log : LogState D) → IsReachedMember r → r.replica.end ≡ None
      → is_append (next_step r) ≡ false → HasGone told faults r log (after_step word r) log
  gone_step r word log reached none other = record {
    same = same_number r (after_step word r) (after_told word r);
    ready = other_ready log word r other;
    served = λ base. other_served told faults base log word r other none (reached_form r reached).replica.logged;
  }

  -- by a take
  pub gone_taking : (r q : Running) (log : LogState D) → IsReachedMember r → r.replica.end ≡ None
      → next_deed r ≡ deeds.Take → HasAskedForLetter r q → HasGone told faults r log q log
  gone_taking r q log reached none next (letter, may, to) =
      subst (λ x. HasGone told faults r log x log) (sym to) (record {
        same = same_number r (settled (took_letter letter r)) (took_told letter r);
        ready = took_stays_ready log letter r;
        served = λ base. took_served told faults base log letter r (record { unended = none; due = at_take r next })
            (reached_form r reached).replica.logged (takes_on r letter next may);
      })

  -- by looks and pushes
  pub gone_sweeping : (r q : Running) (log : LogState D) → HasSwept r q → HasGone told faults r log q log
  gone_sweeping r q log (words, taken) = by words r taken
    where
      by : (words : List ℕ) (r : Running) → HasTaken words r q → HasGone told faults r log q log
      by [] r same = subst (λ x. HasGone told faults r log x log) same (gone_none r log)
      by (word ∷ words) r (swept, (g, p, is, sees), rest) = gone_more r (after_step word r) q log log log
          (gone_step r word log (g, p, is) (swept_going r swept) (swept_other r swept)) (by words (after_step word r) rest)
