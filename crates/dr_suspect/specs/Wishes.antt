-- Whom a member may wish for: a late member that is in no view so far.
use Rattle.std.specs.{List.list_all, Prelude.{ℕ, ◌==◌, ◌&&◌, not, Bool, true, List}}
use Rattle.dr_entry.specs.declared.entry.Entry.{Entry, TheVariants.{View, Msg}}
use Rattle.dr_history.specs.Members.{has}

-- the entry is no View of the age that names the member
abbrev pub is_silent : ℕ → ℕ → Entry → Bool
is_silent age j (View a n m) = not (a == age && has m j)
is_silent age j (Msg s i b) = true

-- the member is late, and in no View of the age in the history
abbrev pub may_wish : List Entry → ℕ → ℕ → ℕ → Bool
may_wish history age late j = has late j && list_all (is_silent age j) history
