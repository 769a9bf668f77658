-- The bounds that words keep.
use Rattle.std.specs.Prelude.{◌≡◌, ℕ, ◌^◌, ◌<◌, ◌≤◌, ◌⊎◌, List}
use Rattle.dr_words.specs.Columns.{recv_column, leavers_column, trim_column}
use Rattle.dr_words.specs.{Packing.{accept_promise, accept_tag, accept_value}, Rows.word_at}
use Rattle.dr_words.specs.declared.column.TheConstants.{SUSPECTED_COLUMN, DONE_COLUMN}

-- the column holds an accept word
abbrev pub IsAcceptColumn : ℕ → ℕ → Type 0
IsAcceptColumn members column =
    (column ≡ leavers_column members) ⊎ ((s : ℕ) × (s < members) × (column ≡ trim_column members s))

-- a word of this column is in form, where the roster has so many members
pub record IsInForm (members column word : ℕ) : Type 0 where
  -- a suspected word names members of the roster alone
  pub suspected : column ≡ SUSPECTED_COLUMN → word < 2 ^ members
  -- a done word is 0 or 1
  pub done : column ≡ DONE_COLUMN → word ≤ 1
  -- a recv word has a count of 32 bits
  pub recv : (s : ℕ) → s < members → column ≡ recv_column s → word < 2 ^ 33
  -- a promise is made to a member, and a tag is that of a member's ballot, or 0
  pub promise : IsAcceptColumn members column → accept_promise word < members
  pub tag : IsAcceptColumn members column → accept_tag word ≤ members
  -- the leavers are members of the roster, and a trim is an item number
  pub leavers : column ≡ leavers_column members → accept_value word < 2 ^ members
  pub trim : (s : ℕ) → s < members → column ≡ trim_column members s → accept_value word < 2 ^ 32

-- each word of the rows is in form
abbrev pub AllInForm : ℕ → List (List ℕ) → Type 0
AllInForm members rows = (row column : ℕ) → IsInForm members column (word_at rows row column)
