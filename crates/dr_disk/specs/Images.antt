-- What a crash may leave of a disk, at one moment and at each moment of some calls.
use Rattle.std.specs.Prelude.{◌≡◌, ℕ, ◌<◌, ◌≤◌, List, [], ◌∷◌, ◌++◌, length, slice_index, Option, Some, None, IfSome, ⊤, ◌⊎◌}
use Rattle.dr_disk.specs.{Calls.{Call, State, step, run}, Disk.{Told, Calls, Now, state_of, content_of}}

-- What a crash may leave: a length that the disk had since the last sync, or any between two of
-- them. Any bytes may stand from the first place that was written since to the last, and past the least
-- length. All else stays. So a disk that loses no more than what was written leaves some of these.
pub record IsImage (s : State) (image : List ℕ) : Type 0 where
  pub no_shorter : s.least ≤ length image
  pub no_longer : length image ≤ s.greatest
  pub stays : (i : ℕ) → i < s.least → (i < s.first) ⊎ (s.behind ≤ i)
      → slice_index image i ≡ slice_index s.content i

-- what a read gives is one of them
abbrev pub ReadsAnImage : Told → Type 0
ReadsAnImage told = IsImage (state_of told) (content_of told)

-- each image of the disk at this moment has P
abbrev pub AllImages : State → (List ℕ → Type 0) → Type 0
AllImages s P = (image : List ℕ) → IsImage s image → P image

-- so has each at every moment of these calls, before the first and after the last too
abbrev pub During : State → List Call → (List ℕ → Type 0) → Type 0
During s [] P = AllImages s P
During s (call ∷ calls) P = AllImages s P × During (step s call) calls P

-- calls were added, and at each moment of them every image had P
pub record WentBy (before after : List Call) (P : List ℕ → Type 0) : Type 0 where
  pub more : List Call
  pub grown : after ≡ before ++ more
  pub each : During (run before) more P

-- At each moment that the disk tells every image had P: at each since the first of the two, where it tells
-- its calls, and at the second, where it tells what has become of it.
abbrev pub Went : Told → Told → (List ℕ → Type 0) → Type 0
Went (Calls before) (Calls after) P = WentBy before after P
Went (Now before) (Now after) P = AllImages after P
Went (Calls before) (Now after) P = ⊥
Went (Now before) (Calls after) P = ⊥

-- The same of a disk that may tell, where P may speak of what it was before. It goes on telling, or not
-- telling.
abbrev pub Goes : Option Told → Option Told → (State → List ℕ → Type 0) → Type 0
Goes None None P = ⊤
Goes None (Some after) P = ⊥
Goes (Some before) None P = ⊥
Goes (Some before) (Some after) P = Went before after (P (state_of before))

-- what a crash may leave now has P, where the disk tells
abbrev pub IsLeft : Option Told → (List ℕ → Type 0) → Type 0
IsLeft told P = IfSome told (λ t. AllImages (state_of t) P)

-- once each image has P at a moment of these calls, each has it at every later one
abbrev pub LastsDuring : State → List Call → (List ℕ → Type 0) → Type 0
LastsDuring s [] P = ⊤
LastsDuring s (call ∷ calls) P =
    (AllImages s P → During s (call ∷ calls) P) × LastsDuring (step s call) calls P

-- calls were added, and P lasts during them
pub record LastsBy (before after : List Call) (P : List ℕ → Type 0) : Type 0 where
  pub more : List Call
  pub grown : after ≡ before ++ more
  pub each : LastsDuring (run before) more P

-- what each image has at a moment that the disk tells, each has at every later one
abbrev pub LastsFrom : Told → Told → (List ℕ → Type 0) → Type 0
LastsFrom (Calls before) (Calls after) P = LastsBy before after P
LastsFrom (Now before) (Now after) P = AllImages before P → AllImages after P
LastsFrom (Calls before) (Now after) P = ⊥
LastsFrom (Now before) (Calls after) P = ⊥

-- the same of a disk that may tell
abbrev pub Lasts : Option Told → Option Told → (List ℕ → Type 0) → Type 0
Lasts None None P = ⊤
Lasts None (Some after) P = ⊥
Lasts (Some before) None P = ⊥
Lasts (Some before) (Some after) P = LastsFrom before after P
