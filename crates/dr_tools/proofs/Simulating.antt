-- What is certain of a script that was simulated.
use Rattle.std.proofs.Common.{◌≡◌, ◌⊎◌, refl, sym, subst, ℕ, Bool, false, List, [], Option, None, Some}
use Rattle.std.proofs.lemmas.Option.{none-some}
use Rattle.dr_ages.specs.{Ages.all_with, declared.{mode.Mode.TheVariants.Sim, part.Part.Part, stop.Stop.Stop}}
use Rattle.dr_entry.specs.declared.end.AgeEnd.{AgeEnd}
use Rattle.dr_intake.specs.Reading.{refusal_in}
use Rattle.dr_outcome.{specs.{Last.last_of, Outcome.IsMemoryRun}, proofs.OutcomeKinds.run_behind}
use Rattle.dr_script.specs.{Reading.{Reading, TooLong, NotJson, Wrong, Reads}, declared.script.Script.Script}
use Rattle.dr_text.specs.declared.last.Last.{Last}
use Rattle.dr_tools.specs.Outcomes.{ComesTo, EndsSo, MayEndSo, ReadsSo, is_wanted, outcome_line}

-- a script comes to the outcome that its run has
pub comes_to : (script : Script) (late : ℕ)
    (part : Part) (ages : List AgeEnd) (stop : Option Stop) (told : Option Last) (last : Last) (line : List ℕ)
    → part ≡ all_with late → ((ages ≡ []) × (stop ≡ None) × (told ≡ None)) ⊎ (IsMemoryRun script part Sim ages stop
    × (told ≡ last_of ages stop)) → told ≡ Some last → line ≡ outcome_line ages last → ComesTo script late line
comes_to script late part ages stop told last line whose ran is outcome =
    let run = run_behind script part ages stop told last ran is in
    let whole = subst (λ (p : Part). IsMemoryRun script p Sim ages stop) whose run.0 in
    record { ran = record { ages = ages; stop = stop; run = whole; last = last; line = run.1 }; outcome = outcome }

-- and ends so where its run does
pub ends_by : (script : Script) (late : ℕ) (part : Part) (ages : List AgeEnd) (stop : Option Stop)
    (told : Option Last) (last : Last) (wanted : List ℕ) (shows : Bool) → part ≡ all_with late → ((ages ≡ [])
    × (stop ≡ None) × (told ≡ None)) ⊎ (IsMemoryRun script part Sim ages stop × (told ≡ last_of ages stop))
    → told ≡ Some last → shows ≡ is_wanted wanted ages last → EndsSo script late wanted shows
ends_by script late part ages stop told last wanted shows whose ran is so =
    let run = run_behind script part ages stop told last ran is in
    let whole = subst (λ (p : Part). IsMemoryRun script p Sim ages stop) whose run.0 in
    record { ran = record { ages = ages; stop = stop; run = whole; last = last; line = run.1 }; is = so }

-- what is read as a script ends as that does
pub reads_so : (r : Reading) (script : Script) (late : ℕ) (wanted : List ℕ) (shows : Bool) → r ≡ Reads script
    → MayEndSo script late wanted shows → ReadsSo r late wanted shows
reads_so r script late wanted shows is ends = subst (λ (x : Reading). ReadsSo x late wanted shows) (sym is) ends

-- what is refused has no outcome
pub refused_so : (r : Reading) (line : Last) (late : ℕ) (wanted : List ℕ) → refusal_in r ≡ Some line
    → ReadsSo r late wanted false
refused_so TooLong line late wanted is = refl
refused_so NotJson line late wanted is = refl
refused_so (Wrong rule path) line late wanted is = refl
refused_so (Reads script) line late wanted is = absurd (none-some line is)
