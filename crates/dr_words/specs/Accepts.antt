-- What the accept words of a member's rows say. Those of a view are the leavers' word and the words of the
-- trims of the view's members. n is the number of members of the roster.
use Rattle.std.specs.Prelude.{◌≡◌, ℕ, ◌-◌, ◌==◌, true, false, if◌then◌else◌, slice_index}
use Rattle.dr_entry.specs.declared.record.Value.{Value}
use Rattle.dr_history.specs.Members.{has}
use Rattle.dr_words.specs.{Columns.{leavers_column, trim_column}, Packing.{accept_promise, accept_tag, accept_value}}

-- the rows that a member has: the word of each row and column
abbrev pub Shown : Type 0
Shown = ℕ → ℕ → ℕ

-- the accept word of a row that holds the leavers, and the one that holds the trim of a sender
abbrev pub leavers_word : ℕ → Shown → ℕ → ℕ
leavers_word n rows i = rows i (leavers_column n)

abbrev pub trim_word : ℕ → Shown → ℕ → ℕ → ℕ
trim_word n rows i sender = rows i (trim_column n sender)

-- the promise and the tag of a row are those of its leavers' word
abbrev pub promise_of : ℕ → Shown → ℕ → ℕ
promise_of n rows i = accept_promise (leavers_word n rows i)

abbrev pub tag_of : ℕ → Shown → ℕ → ℕ
tag_of n rows i = accept_tag (leavers_word n rows i)

-- all accept words of a view have this promise in the row
pub record AllPromise (n : ℕ) (rows : Shown) (members i promise : ℕ) : Type 0 where
  pub leavers : promise_of n rows i ≡ promise
  pub trims : (s : ℕ) → has members s ≡ true → accept_promise (trim_word n rows i s) ≡ promise

-- all accept words of a view have this tag in the row
pub record AllTag (n : ℕ) (rows : Shown) (members i tag : ℕ) : Type 0 where
  pub leavers : tag_of n rows i ≡ tag
  pub trims : (s : ℕ) → has members s ≡ true → accept_tag (trim_word n rows i s) ≡ tag

-- the row shows this value: the leavers, and for each member of the view its trim
pub record Shows (n : ℕ) (rows : Shown) (members i : ℕ) (v : Value) : Type 0 where
  pub leavers : v.leavers ≡ accept_value (leavers_word n rows i)
  pub trims : (s : ℕ) → has members s ≡ true → slice_index v.trim s ≡ accept_value (trim_word n rows i s)
  pub others : (s : ℕ) → has members s ≡ false → slice_index v.trim s ≡ 0

-- the part of a value that stands in an accept column
abbrev pub part_of : ℕ → Value → ℕ → ℕ
part_of n v c = if c == leavers_column n then v.leavers else slice_index v.trim (c - trim_column n 0)
