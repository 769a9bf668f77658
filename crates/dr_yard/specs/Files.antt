-- What a yard of files knows of them.
use Rattle.std.specs.{Fmt.decimal, List.concat, Path.with_separator, Prelude.{ℕ, Bool, List, [], ◌∷◌, ◌++◌, codes}}

-- which files are lent, and how many faults each had counted, by member
pub record FileYardState : Type 0 where
  pub lent : List Bool
  pub faults : List ℕ

-- the path of the file of a member, in a folder
abbrev pub path_in : List ℕ → ℕ → List ℕ
path_in folder m = with_separator folder ++ concat (codes "member-" ∷ decimal m ∷ codes ".log" ∷ [])
