-- How far the marks of a row hold.
use Rattle.std.specs.Prelude.{ℕ, ◌≡◌, ◌≤◌, List}
use Rattle.dr_entry.specs.declared.end.MemberEnd.{MemberEnd}
use Rattle.dr_summary.specs.Table.{mark_text, marks_text}

-- these are the marks of each row from number first to number last
abbrev pub AreMarks : List MemberEnd → ℕ → ℕ → List ℕ → Type 0
AreMarks members first last text = (n : ℕ) → first ≤ n → n ≤ last → marks_text members n ≡ text

-- a member has the same mark in each row from number first to number last
abbrev pub IsMarkUntil : ℕ → ℕ → MemberEnd → Type 0
IsMarkUntil first last m = (n : ℕ) → first ≤ n → n ≤ last → mark_text n m ≡ mark_text first m
