-- What the watcher of a simulated age is told.
use Rattle.std.specs.Prelude.{◌≡◌, ℕ, List, [], ◌∷◌, Some, Option}
use Rattle.dr_entry.specs.declared.end.AgeEnd.{AgeEnd}
use Rattle.dr_program.specs.{Presence.present_at, Program.{Move, Program, step_of}, Running.Running}
use Rattle.dr_restart.specs.declared.start.Start.{Start}
use Rattle.dr_script.specs.declared.script.Script.{Script}
use Rattle.dr_sim.specs.Simulated.{IsSimulated}

-- the watcher takes note of no deed: it stays as it is, whatever it is told of
abbrev pub TakesNoNote : {W : Type 0} → (W → Running → List ℕ → W → Type 0) → W → Type 0
TakesNoNote sees w = (r : Running) → (table : List ℕ) → sees w r table w

-- the watcher was told of each of these moves from p on, one after the other and right before it was made: of
-- the member that makes it, and of the words of the table
abbrev pub WasTold : {W : Type 0} → (W → Running → List ℕ → W → Type 0) → Program → List Move → W → W → Type 0
WasTold sees p [] old new = old ≡ new
WasTold {W} sees p (e ∷ es) old new =
    (r : Running) × (next : W) × (present_at p.members e.member ≡ Some r) × sees old r p.table next
    × WasTold sees (step_of p e) es next new

-- the watcher was told of a simulated age: that it opens from its start, of each move of its run, and of how
-- the members and the table stood at its end
pub record IsWatched {W : Type 0} (opens : W → Start → W → Type 0) (sees : W → Running → List ℕ → W → Type 0)
    (closes : W → List (Option Running) → List ℕ → W → Type 0) (script : Script) (start : Start) (nth : ℕ)
    (old new : W) (age : AgeEnd) : Type 0 where
  pub over : Program
  pub is : IsSimulated script start nth age over
  pub opened : W
  pub ended : W
  pub opening : opens old start opened
  pub moves : WasTold sees is.begun is.run.moves opened ended
  pub closing : closes ended over.members over.table new
