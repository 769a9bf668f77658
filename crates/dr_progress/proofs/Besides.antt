-- What a watcher with a progress beside it is told of a run.
use Rattle.std.proofs.Common.{◌≡◌, ◌⊎◌, ◌≤◌, ◌∙◌, inl, inr, refl, sym, ap, subst, ℕ, ◌+◌, true, List, [], ◌∷◌, Option, None, Some, arith}
use Rattle.std.proofs.lemmas.Bool.{true≢false}
use Rattle.dr_ages.specs.{Watched.AreWatched, declared.{mode.Mode.TheVariants.Sim, part.Part.Part}}
use Rattle.dr_entry.specs.declared.end.AgeEnd.{AgeEnd}
use Rattle.dr_program.specs.{Program.{Move, Program, step_of}, Running.Running}
use Rattle.dr_restart.specs.declared.start.Start.{Start}
use Rattle.dr_script.specs.declared.script.Script.{Script}
use Rattle.dr_sim.specs.Watched.{WasTold}
use Rattle.dr_progress.specs.Progress.{Begins, Ends, IsQuiet, MaySay, Standing, Waits, WaitsFor, next_run}
use Rattle.dr_progress.specs.declared.beside.Beside.{Beside}

-- where nothing is said and nothing else becomes due, it waits
silent : (due : Option ℕ) (old new : Standing) → new.held ≡ old.held → new.stands ≡ old.stands
    → (new.due ≡ due) ⊎ (new.due ≡ None) → WaitsFor due old new
silent None old new held stands (inl due) = (held, stands, due)
silent None old new held stands (inr due) = (held, stands, due)
silent (Some at) old new held stands due = inr (held, stands, due)

pub waits_at_rest : (now : Standing) → Waits now now
waits_at_rest now = (omega arith, silent now.due now now refl refl (inl refl))

waits_more : (due : Option ℕ) (old now new : Standing) → WaitsFor due old now → now.now ≤ new.now
    → WaitsFor now.due now new → WaitsFor due old new
waits_more None old now new first later next =
    let rest = subst (λ (due : Option ℕ). WaitsFor due now new) first.2 next in
    (rest.0 ∙ first.0, rest.1 ∙ first.1, rest.2)
waits_more (Some at) old now new (inl late) later next = inl (omega (arith, late, later))
waits_more (Some at) old now new (inr (held, stands, inl due)) later next =
    by (subst (λ (d : Option ℕ). WaitsFor d now new) due next)
  where
    by : WaitsFor (Some at) now new → WaitsFor (Some at) old new
    by (inl late) = inl late
    by (inr rest) = inr (rest.0 ∙ held, rest.1 ∙ stands, rest.2)
waits_more (Some at) old now new (inr (held, stands, inr due)) later next =
    let rest = subst (λ (d : Option ℕ). WaitsFor d now new) due next in
    inr (rest.0 ∙ held, rest.1 ∙ stands, inr rest.2)

pub waits_both : (old now new : Standing) → Waits old now → Waits now new → Waits old new
waits_both old now new first next = (
  omega (arith, first.0, next.0),
  waits_more old.due old now new first.1 next.0 next.1,
)

same_waits : (old new : Standing) → new ≡ old → Waits old new
same_waits old new same = subst (Waits old) (sym same) (waits_at_rest old)

-- what a progress does waits
said_waits : (turn : ℕ) (old new : Standing) → MaySay turn old new → Waits old new
said_waits turn old new (inl nothing) =
    (nothing.later, silent old.due old new nothing.held nothing.stands nothing.due)
said_waits turn old new (inr line) = (
  line.later,
  subst (λ (due : Option ℕ). WaitsFor due old new) (sym line.was_due) (inl line.late),
)

kept_waits : (old new : Standing) (age : ℕ) → new ≡ record old { age = age } → Waits old new
kept_waits old new age same = subst (Waits old) (sym same)
    (omega arith, silent old.due old (record old { age = age }) refl refl (inl refl))

-- so it does where only the run, how many there are, or the turns of a run are others
pub next_waits : (old new : Standing) → new ≡ next_run old → Waits old new
next_waits old new same = subst (Waits old) (sym same)
    (omega arith, silent old.due old (next_run old) refl refl (inl refl))

pub counted_waits : (old new : Standing) (runs : ℕ) → new ≡ record old { run = 0; runs = runs } → Waits old new
counted_waits old new runs same = subst (Waits old) (sym same)
    (omega arith, silent old.due old (record old { run = 0; runs = runs }) refl refl (inl refl))

pub bound_waits : (old new : Standing) (turns : ℕ) → new ≡ record old { turns = turns } → Waits old new
bound_waits old new turns same = subst (Waits old) (sym same)
    (omega arith, silent old.due old (record old { turns = turns }) refl refl (inl refl))

-- what becomes of a progress beside a watcher: it waits, and both stay where they are
abbrev pub GoesOn : {W T K : Type 0} → Beside W T K → Beside W T K → Type 0
GoesOn old new = Waits old.progress.now new.progress.now × (new.watcher.ghost_name ≡ old.watcher.ghost_name)
    × (new.progress.ghost_name ≡ old.progress.ghost_name)

goes_on_at_rest : {W T K : Type 0} (now : Beside W T K) → GoesOn now now
goes_on_at_rest now = (waits_at_rest now.progress.now, refl, refl)

goes_on_both : {W T K : Type 0} (old now new : Beside W T K) → GoesOn old now → GoesOn now new → GoesOn old new
goes_on_both old now new first next = (
  waits_both old.progress.now now.progress.now new.progress.now first.0 next.0,
  next.1 ∙ first.1,
  next.2 ∙ first.2,
)

-- what both do as they are told of a deed
abbrev pub BothSee : {W T K : Type 0} → (W → Running → List ℕ → W → Type 0) → Beside W T K → Running → List ℕ
    → Beside W T K → Type 0
BothSee sees old member table new = sees old.watcher.now member table new.watcher.now
    × MaySay member.replica.turns old.progress.now new.progress.now
    × (new.watcher.ghost_name ≡ old.watcher.ghost_name) × (new.progress.ghost_name ≡ old.progress.ghost_name)

-- of the opening of an age
abbrev pub BothOpen : {W T K : Type 0} → (W → Start → W → Type 0) → Beside W T K → Start → Beside W T K → Type 0
BothOpen opens old start new = opens old.watcher.now start new.watcher.now
    × (new.progress.now ≡ record old.progress.now { age = start.age })
    × (new.watcher.ghost_name ≡ old.watcher.ghost_name) × (new.progress.ghost_name ≡ old.progress.ghost_name)

-- and of its end
abbrev pub BothClose : {W T K : Type 0} → (W → List (Option Running) → List ℕ → W → Type 0) → Beside W T K
    → List (Option Running) → List ℕ → Beside W T K → Type 0
BothClose closes old members table new =
    closes old.watcher.now members table new.watcher.now × (new.progress.now ≡ old.progress.now)
    × (new.watcher.ghost_name ≡ old.watcher.ghost_name) × (new.progress.ghost_name ≡ old.progress.ghost_name)

-- the watcher is told of all moves that both are told of
beside_told : {W T K : Type 0} (sees : W → Running → List ℕ → W → Type 0) (p : Program) (es : List Move)
    (old new : Beside W T K) → WasTold (BothSee sees) p es old new
    → WasTold sees p es old.watcher.now new.watcher.now × GoesOn old new
beside_told sees p [] old new same = (ap (λ b. b.watcher.now) same, subst (GoesOn old) same (goes_on_at_rest old))
beside_told sees p (e ∷ es) old new (r, next, there, seen, more) =
    let rest = beside_told sees (step_of p e) es next new more in
    let goes : GoesOn old next =
    (said_waits r.replica.turns old.progress.now next.progress.now seen.1, seen.2, seen.3) in
    ((r, next.watcher.now, there, seen.0, rest.0), goes_on_both old next new goes rest.1)

-- and of all ages
pub beside_watched : {W T K : Type 0} (opens : W → Start → W → Type 0)
    (sees : W → Running → List ℕ → W → Type 0) (closes : W → List (Option Running) → List ℕ → W → Type 0)
    (script : Script) (part : Part) (nth : ℕ) (ages : List AgeEnd) (old new : Beside W T K)
    → AreWatched (BothOpen opens) (BothSee sees) (BothClose closes) Sim script part nth ages old new
    → AreWatched opens sees closes Sim script part nth ages old.watcher.now new.watcher.now × GoesOn old new
beside_watched opens sees closes script part nth [] old new same =
    (ap (λ b. b.watcher.now) same, subst (GoesOn old) (sym same) (goes_on_at_rest old))
beside_watched opens sees closes script part nth (age ∷ ages) old new (next, seen, more) =
    let moves = beside_told sees seen.is.begun seen.is.run.moves seen.opened seen.ended seen.moves in
    let rest = beside_watched opens sees closes script part (nth + 1) ages next new more in
    let opening : GoesOn old seen.opened =
    let before = old.progress.now in
    (kept_waits before seen.opened.progress.now age.age seen.opening.1, seen.opening.2, seen.opening.3) in
    let closing : GoesOn seen.ended next =
    (same_waits seen.ended.progress.now next.progress.now seen.closing.1, seen.closing.2, seen.closing.3) in (
      (
        next.watcher.now,
        record {
          over = seen.over;
          is = seen.is;
          opened = seen.opened.watcher.now;
          ended = seen.ended.watcher.now;
          opening = seen.opening.0;
          moves = moves.0;
          closing = seen.closing.0;
        },
        rest.0,
      ),
      goes_on_both old seen.opened new opening
          (goes_on_both seen.opened seen.ended new moves.1 (goes_on_both seen.ended next new closing rest.1)),
    )

-- a run that begins, waits and ends is quiet
pub quiet : (old begun over new : Standing) → Begins old begun → Waits begun over → Ends over new → IsQuiet old new
quiet old begun over new begins waits ends = by begins.due
  where
    -- where nothing was said, nothing is to be blanked
    unsaid : over.held ≡ begun.held → over.stands ≡ begun.stands → IsQuiet old new
    unsaid held stands = elim ends.blanks [
      | inl same ↦ inl (same ∙ held ∙ begins.held)
      | inr (stood, wrote) ↦ absurd (true≢false (sym stood ∙ stands ∙ begins.stands))
    ]

    late : old.is_terminal ≡ true → WaitsFor (Some (begun.now + 2000)) begun over → IsQuiet old new
    late terminal (inl passed) = inr (terminal, omega (arith, begins.later, passed, ends.now))
    late terminal (inr kept) = unsaid kept.0 kept.1

    by : (begun.due ≡ None) ⊎ ((old.is_terminal ≡ true) × (begun.due ≡ Some (begun.now + 2000))) → IsQuiet old new
    by (inl none) =
        let kept = subst (λ (due : Option ℕ). WaitsFor due begun over) none waits.1 in unsaid kept.0 kept.1
    by (inr (terminal, due)) = late terminal (subst (λ (d : Option ℕ). WaitsFor d begun over) due waits.1)
