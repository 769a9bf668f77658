-- Counts of received items over rows.
use Rattle.std.specs.Prelude.{ℕ, List, slice_index}
use Rattle.dr_words.specs.{Columns.recv_column, Packing.recv_count}

-- how many items of a sender the row's owner has received, by the row's words
abbrev pub count_of : ℕ → List ℕ → ℕ
count_of sender row = recv_count (slice_index row (recv_column sender))
