-- The calls of a disk by which a log appends records behind one gate.
use Rattle.std.specs.Prelude.{◌≡◌, ℕ, ◌+◌, ◌-◌, List, [], ◌∷◌, ◌++◌, length, Option, ◌⊎◌}
use Rattle.dr_entry.specs.{Spelling.spelling, declared.record.Record.Record}
use Rattle.dr_disk.specs.{Calls.{Call, Write, FailedWrite, Cut, FailedCut, Sync}, Disk.{Told, added}}
use Rattle.dr_log_bytes.specs.Content.{block_length}

-- the gate before these records: open, where there are any
abbrev pub gate_of : List Record → ℕ
gate_of [] = 0
gate_of (r ∷ rs) = 1

-- these records are written from a place on, each behind the one before it, with the gate behind it
abbrev pub writes : ℕ → List Record → List Call
writes at [] = []
writes at (r ∷ rs) = Write at (spelling r ++ gate_of rs ∷ []) ∷ writes (at + block_length r) rs

-- all is synced, the gate at a place opened, and synced
abbrev pub opening : ℕ → List Call
opening gate = Sync ∷ Write gate (1 ∷ []) ∷ Sync ∷ []

-- These records are appended to a log of this length: they are written behind its gate, and once they are
-- safe, it is opened.
abbrev pub group : ℕ → List Record → List Call
group len rs = writes len rs ++ opening (len - 1)

-- after these calls
abbrev pub added_all : List Call → Option Told → Option Told
added_all [] told = told
added_all (call ∷ calls) told = added_all calls (added call told)

-- Some of these calls, and then one that failed. Only the functions of this crate that make the calls of a
-- group tell each other so.
abbrev pub StopsAmong : List Call → Option Told → Option Told → Type 0
StopsAmong [] old new = ⊥
StopsAmong (Write at bytes ∷ calls) old new =
    (new ≡ added (FailedWrite at (length bytes)) old) ⊎ StopsAmong calls (added (Write at bytes) old) new
StopsAmong (Sync ∷ calls) old new = (new ≡ old) ⊎ StopsAmong calls (added Sync old) new
StopsAmong (FailedWrite at count ∷ calls) old new = ⊥
StopsAmong (Cut to ∷ calls) old new = ⊥
StopsAmong (FailedCut to ∷ calls) old new = ⊥
