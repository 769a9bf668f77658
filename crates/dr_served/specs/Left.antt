-- What may be left on a log.
use Rattle.std.specs.Prelude.{◌≡◌, ℕ, ◌⊎◌, List, [], ◌∷◌, ◌++◌, take}
use Rattle.dr_entry.specs.declared.entry.Entry.{Entry}
use Rattle.dr_history.specs.History.{IsPrefixOf}

-- the first entries of a history, so many as its member has logged, or these and the next one, or all
abbrev pub IsLeftOf : List Entry → ℕ → List Entry → Type 0
IsLeftOf history logged es =
    (es ≡ take logged history)
    ⊎ ((e : Entry) × (es ≡ take logged history ++ e ∷ []) × IsPrefixOf es history)
    ⊎ (es ≡ history)
