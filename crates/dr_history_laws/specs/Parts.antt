-- Lists that hold first parts of the histories of an age.
use Rattle.std.specs.Prelude.{◌≡◌, ℕ, List, Some, slice_get}
use Rattle.dr_entry.specs.declared.entry.Entry.{Entry}
use Rattle.dr_history.specs.{Agreement.Accounts, History.IsPrefixOf, Soundness.IsPresentIn}
use Rattle.dr_history.specs.declared.opening.Opening.{Opening}

-- each of the lists is the first part of the history of some member
abbrev pub AreFirstParts : Opening → Accounts → List (List Entry) → Type 0
AreFirstParts o accounts lists = (m : ℕ) (es : List Entry) → slice_get lists m ≡ Some es
    → (i : ℕ) × IsPresentIn o i × IsPrefixOf es (accounts i).history
