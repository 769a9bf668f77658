-- What is kept of a view that a member has left.
use Rattle.std.specs.Prelude.{◌≡◌, ℕ, ◌≤◌, [], length, vec_capacity}
use Rattle.dr_program.specs.Replica.{LeftView}
use Rattle.dr_replica.specs.declared.left.Left.{Left}

abbrev pub left_of : Left → LeftView
left_of l = record { own = l.own.items; counts = l.counts.items; sent = l.sent.items }

-- there is a word for each column and a count for each member
pub record HasRoom (columns roster : ℕ) (l : Left) : Type 0 where
  pub own : length l.own.items ≡ columns
  pub counts : length l.counts.items ≡ roster

-- and nothing is kept yet, with room for what is put
pub record IsSpare (columns roster most : ℕ) (l : Left) : Type 0 where
  pub room : HasRoom columns roster l
  pub empty : l.sent.items ≡ []
  pub sent : most ≤ vec_capacity l.sent
