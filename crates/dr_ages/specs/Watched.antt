-- What the watcher of a run is told.
use Rattle.std.specs.Prelude.{◌≡◌, ℕ, ◌+◌, List, [], ◌∷◌, Option}
use Rattle.dr_entry.specs.declared.end.AgeEnd.{AgeEnd}
use Rattle.dr_program.specs.Running.{Running}
use Rattle.dr_restart.specs.declared.start.Start.{Start}
use Rattle.dr_script.specs.declared.script.Script.{Script}
use Rattle.dr_sim.specs.Watched.{IsWatched}
use Rattle.dr_ages.specs.{Ages.start_of, declared.{mode.Mode.{Mode, TheVariants.{Sim, Run}}, part.Part.Part}}

-- the watcher was told of a simulated age, and nothing of one in threads
abbrev pub HasSeen : {W : Type 0} → (W → Start → W → Type 0) → (W → Running → List ℕ → W → Type 0)
    → (W → List (Option Running) → List ℕ → W → Type 0) → Mode → Script → Start → ℕ → W → W → AgeEnd → Type 0
HasSeen opens sees closes Sim script start nth old new age =
    IsWatched opens sees closes script start nth old new age
HasSeen opens sees closes Run script start nth old new age = new ≡ old

-- so it was of each of these ages in turn, the first of which is number nth of the run
abbrev pub AreWatched : {W : Type 0} → (W → Start → W → Type 0) → (W → Running → List ℕ → W → Type 0)
    → (W → List (Option Running) → List ℕ → W → Type 0) → Mode → Script → Part → ℕ → List AgeEnd → W → W → Type 0
AreWatched opens sees closes mode script part nth [] old new = new ≡ old
AreWatched {W} opens sees closes mode script part nth (age ∷ ages) old new =
    (next : W) × HasSeen opens sees closes mode script (start_of script part age) nth old next age
    × AreWatched opens sees closes mode script part (nth + 1) ages next new
