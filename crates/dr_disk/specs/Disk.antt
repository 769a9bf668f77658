-- What a disk tells of itself, and what a call does to that.
use Rattle.std.specs.Prelude.{List, [], ◌∷◌, ◌++◌, ℕ, Option, option_map}
use Rattle.dr_disk.specs.Calls.{Call, State, run, step}

-- all calls since it was empty, or what has become of it
pub data Told : Type 0 where
  Calls : List Call → Told
  Now : State → Told

-- what has become of the disk
abbrev pub state_of : Told → State
state_of (Calls calls) = run calls
state_of (Now s) = s

-- what a read gives
abbrev pub content_of : Told → List ℕ
content_of told = (state_of told).content

-- after one call more
abbrev pub after : Call → Told → Told
after call (Calls calls) = Calls (calls ++ call ∷ [])
after call (Now s) = Now (step s call)

-- the same of a disk that may tell
abbrev pub added : Call → Option Told → Option Told
added call told = option_map (after call) told
