-- With which statuses a call ends.
use Rattle.std.proofs.Common.{◌≡◌, ◌⊎◌, inl, inr, refl, sym, subst, ℕ, zero, suc, List, Option, None, Some, [], ◌∷◌, Contains, arith}
use Rattle.dr_ages.specs.{Ages.all_with, declared.{mode.Mode.TheVariants.Sim, stop.Stop.Stop}}
use Rattle.dr_entry.{specs.declared.end.AgeEnd.AgeEnd, proofs.OptionFacts.{IsKnown, wanting_known}}
use Rattle.dr_history.proofs.Bits.{has_zero}
use Rattle.dr_intake.specs.Status.{WroteText}
use Rattle.dr_outcome.{specs.{Last.last_of, Outcome.IsMemoryRun}, proofs.Runs.part_lasts}
use Rattle.dr_script.specs.{Reading.{Reading, TooLong, NotJson, Wrong, Reads}, declared.script.Script.Script}
use Rattle.dr_text.specs.{Writing.WroteFront, declared.last.Last.Last}
use Rattle.dr_tools.specs.{Trace.{IsTracedFor, Wrote, end_status}, declared.tracing.words.Asked.Asked}

last_known : (script : Script) (late : ℕ) (ages : List AgeEnd) (stop : Option Stop) (last : Option Last)
    → IsMemoryRun script (all_with late) Sim ages stop → last_of ages stop ≡ last → IsKnown (end_status last)
last_known script late ages stop None run is = (7, omega arith, refl)
last_known script late ages stop (Some line) run is =
    run_known (end_status (Some line)) (part_lasts script (all_with late) Sim ages stop line (λ m below. has_zero m) run is)
  where
    run_known : (status : ℕ) → Contains (0 ∷ 8 ∷ 9 ∷ []) status → IsKnown status
    run_known status (zero, below, is) = (0, omega arith, is)
    run_known status (suc zero, below, is) = (5, omega arith, is)
    run_known status (suc (suc zero), below, is) = (6, omega arith, is)
    run_known status (suc (suc (suc i)), below, is) = absurd (omega (arith, below))

pub traced_known : (asked : Asked) (r : Reading) (text : List ℕ) (due : ℕ) → IsTracedFor asked r text due
    → IsKnown due
traced_known asked TooLong text due (inl wanting) = wanting_known due wanting.1
traced_known asked TooLong text due (inr is) = (2, omega arith, sym is.1)
traced_known asked NotJson text due (inl wanting) = wanting_known due wanting.1
traced_known asked NotJson text due (inr is) = (2, omega arith, sym is.1)
traced_known asked (Wrong rule path) text due (inl wanting) = wanting_known due wanting.1
traced_known asked (Wrong rule path) text due (inr is) = (2, omega arith, sym is.1)
traced_known asked (Reads script) text due (inl (inl wanting)) = wanting_known due wanting.1
traced_known asked (Reads script) text due (inl (inr is)) = subst IsKnown (sym is.status)
    (last_known script asked.late is.ages is.stop (last_of is.ages is.stop) is.run refl)
traced_known asked (Reads script) text due (inr unrun) = (1, omega arith, sym unrun.status)

-- so is that of a call whose status that is due is one of them
pub wrote_known : (held holds : Option (List ℕ)) (fell falls status due : ℕ) (text : List ℕ) → IsKnown due
    → Wrote held holds fell falls status due text → IsKnown status
wrote_known held holds fell falls status due text known wrote = by wrote.wrote
  where
    by : WroteText held holds fell falls status due text ⊎ ((status ≡ 10) × WroteFront held holds text)
        → IsKnown status
    by (inl (inl whole)) = subst IsKnown (sym whole.0) known
    by (inl (inr front)) = (4, omega arith, sym front.0)
    by (inr wanting) = wanting_known status wanting.0
