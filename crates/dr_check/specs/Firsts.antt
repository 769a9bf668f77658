-- Lists all of whose elements keep a rule, and the first element that breaks it.
use Rattle.std.specs.Prelude.{◌≡◌, ℕ, ◌<◌, List, Some, slice_get}

-- each element keeps the rule, at its place
abbrev pub AllKeep : {A : Type 0} → (ℕ → A → Type 0) → List A → Type 0
AllKeep {A} Keeps xs = (i : ℕ) (x : A) → slice_get xs i ≡ Some x → Keeps i x

-- the first element that doesn't keep the rule, and the line at which it breaks it
pub record FirstBreaks {A : Type 0} (Keeps : ℕ → A → Type 0) (Breaks : ℕ → A → ℕ → Type 0) (xs : List A)
    (line : ℕ) : Type 0 where
  pub place : ℕ
  pub one : A
  pub here : slice_get xs place ≡ Some one
  pub breaks : Breaks place one line
  pub before : (i : ℕ) (x : A) → i < place → slice_get xs i ≡ Some x → Keeps i x
