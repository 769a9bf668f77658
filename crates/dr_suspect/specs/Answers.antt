-- What the questions to rows answer, and which rows may be asked.
use Rattle.std.specs.{List.{find, range_with_len}, Prelude.{◌≡◌, ℕ, ◌<◌, ◌≤◌, Bool, true, false, Option, MatchOption}}
use Rattle.dr_entry.specs.declared.limits.TheConstants.{MAX_MEMBERS}
use Rattle.dr_words.specs.{Form.AllInForm, Masks.IsInRoster, declared.column.TheConstants.DONE_COLUMN}
use Rattle.dr_rows.specs.Words.{Words}

-- the rows are those of a group whose roster has all of these members: they have the columns up to that of
-- the done word, and all words are in form
pub record AreOfGroup (members : ℕ) (rows : Words) : Type 0 where
  pub most : rows.members ≤ MAX_MEMBERS
  pub columns : DONE_COLUMN < rows.columns
  pub roster : IsInRoster rows.members members
  pub form : AllInForm rows.members rows.words

-- the least number that passes the test
pub record IsLeast (test : ℕ → Bool) (n : ℕ) : Type 0 where
  pub passes : test n ≡ true
  pub least : (i : ℕ) → i < n → test i ≡ false

-- the least number of a member that passes the test, if any does
abbrev pub least_where : (ℕ → Bool) → Option ℕ
least_where test = find test (range_with_len 0 MAX_MEMBERS)

-- the answer is the least number that passes the test, and none exactly where no number passes it
abbrev pub IsLeastOrNone : (ℕ → Bool) → Option ℕ → Type 0
IsLeastOrNone test answer = MatchOption answer ((i : ℕ) → test i ≡ false) (IsLeast test)
