-- What the watches wait for.
use Rattle.std.specs.Prelude.{◌≡◌, ℕ, ◌<◌, ◌≤◌, true}
use Rattle.dr_history.specs.Members.{has}
use Rattle.dr_words.specs.{Columns.{recv_column, leavers_column, trim_column}, Packing.{is_final, accept_promise}}
use Rattle.dr_words.specs.declared.column.TheConstants.{SUSPECTED_COLUMN, RECEIVED_COLUMN, LOGGED_COLUMN, DONE_COLUMN}
use Rattle.dr_rows.specs.Words.{Words, seen}

-- every received word of the members is above the place
abbrev pub AllReceivedAbove : ℕ → ℕ → Words → Type 0
AllReceivedAbove members at rows = (i : ℕ) → has members i ≡ true → at < seen rows i RECEIVED_COLUMN

-- every logged word of the members is at least this number of entries
abbrev pub AllLogged : ℕ → ℕ → Words → Type 0
AllLogged members at rows = (i : ℕ) → has members i ≡ true → at ≤ seen rows i LOGGED_COLUMN

-- in the rows of these members every count of the senders is final
abbrev pub AllCountsFinal : ℕ → ℕ → Words → Type 0
AllCountsFinal of senders rows =
    (i s : ℕ) → has of i ≡ true → has senders s ≡ true
    → is_final (seen rows i (recv_column s)) ≡ true

-- an accept word promises at least this member
abbrev pub Promises : Words → ℕ → ℕ → ℕ → Type 0
Promises rows promise row column = promise ≤ accept_promise (seen rows row column)

-- in the rows of these members the accept words of the leavers and of the senders' trims have at least this
-- promise
pub record AllPromised (of senders promise : ℕ) (rows : Words) : Type 0 where
  pub leavers : (i : ℕ) → has of i ≡ true → Promises rows promise i (leavers_column rows.members)
  pub trims : (i s : ℕ) → has of i ≡ true → has senders s ≡ true
      → Promises rows promise i (trim_column rows.members s)

-- some of the members suspects this one
abbrev pub IsSuspected : ℕ → ℕ → Words → Type 0
IsSuspected members name rows = (i : ℕ) × (has members i ≡ true)
    × (has (seen rows i SUSPECTED_COLUMN) name ≡ true)

-- every done word of the members is 1
abbrev pub AllAreDone : ℕ → Words → Type 0
AllAreDone members rows = (i : ℕ) → has members i ≡ true → seen rows i DONE_COLUMN ≡ 1
