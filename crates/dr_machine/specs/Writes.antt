-- Functions that differ at one argument.
use Rattle.std.specs.Prelude.{ℕ, ◌==◌, if◌then◌else◌}

-- the function with this value at i
abbrev pub at : {A : Type 0} → (ℕ → A) → ℕ → A → ℕ → A
at f i v k = if k == i then v else f k

-- the same for functions of two, three and four arguments
abbrev pub at₂ : {A : Type 0} → (ℕ → ℕ → A) → ℕ → ℕ → A → ℕ → ℕ → A
at₂ f i j v = at f i (at (f i) j v)

abbrev pub at₃ : {A : Type 0} → (ℕ → ℕ → ℕ → A) → ℕ → ℕ → ℕ → A → ℕ
    → ℕ → ℕ → A
at₃ f i j k v = at f i (at₂ (f i) j k v)

abbrev pub at₄ : {A : Type 0} → (ℕ → ℕ → ℕ → ℕ → A) → ℕ → ℕ → ℕ → ℕ
    → A → ℕ → ℕ → ℕ → ℕ → A
at₄ f i j k l v = at f i (at₃ (f i) j k l v)
