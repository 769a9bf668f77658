-- What is written to a sink.
use Rattle.std.specs.Prelude.{ℕ, ◌≤◌, List, length, take, Option}
use Rattle.dr_io.specs.Sink.{Gains}

-- the front part of the text came behind what was held, or all of it, or nothing
pub record WroteFront (old new : Option (List ℕ)) (text : List ℕ) : Type 0 where
  pub count : ℕ
  pub part : count ≤ length text
  pub gained : Gains old new (take count text)
