-- What a watcher was told of ages, and of one more.
use Rattle.std.proofs.Common.{◌≡◌, subst, ℕ, ◌+◌, arith, List, [], ◌∷◌, ◌++◌, length, refl, Option}
use Rattle.dr_entry.specs.declared.end.AgeEnd.{AgeEnd}
use Rattle.dr_program.specs.Running.{Running}
use Rattle.dr_restart.specs.declared.start.Start.{Start}
use Rattle.dr_script.specs.declared.script.Script.{Script}
use Rattle.dr_ages.specs.{Ages.start_of, Watched.{AreWatched, HasSeen}, declared.{mode.Mode.Mode, part.Part.Part}}

-- who was told of ages, and then of one more, was told of all
pub watched_more : {W : Type 0} (opens : W → Start → W → Type 0) (sees : W → Running → List ℕ → W → Type 0)
    (closes : W → List (Option Running) → List ℕ → W → Type 0) (mode : Mode) (script : Script) (part : Part) (nth n : ℕ)
    (ages : List AgeEnd) (age : AgeEnd) (old mid new : W) → n ≡ nth + length ages
    → AreWatched opens sees closes mode script part nth ages old mid
    → HasSeen opens sees closes mode script (start_of script part age) n mid new age
    → AreWatched opens sees closes mode script part nth (ages ++ age ∷ []) old new
watched_more opens sees closes mode script part nth n [] age old mid new at are is = (
  new,
  subst (λ w. HasSeen opens sees closes mode script (start_of script part age) nth w new age) are
      (subst (λ k. HasSeen opens sees closes mode script (start_of script part age) k mid new age)
      (omega (arith, at)) is),
  refl,
)
watched_more opens sees closes mode script part nth n (one ∷ ages) age old mid new at are is = (
  are.0,
  are.1,
  watched_more opens sees closes mode script part (nth + 1) n ages age are.0 mid new (omega (arith, at)) are.2 is,
)
