-- What may be due.
use Rattle.std.specs.Prelude.{◌≡◌, ⊤, ℕ, Some, slice_get}
use Rattle.dr_seat.specs.declared.{book.Book.Book, due.Due.Due, due.Pending.Pending}
use Rattle.dr_seat.specs.declared.due.Due.TheVariants as due
use Rattle.dr_seat.specs.declared.due.Pending.TheVariants as pending

-- a write, a sync or a packet may fail, an end not
abbrev pub CanFail : Pending → Type 0
CanFail pending.Nothing = ⊥
CanFail (pending.Task task) = ⊤
CanFail (pending.Send to) = ⊤
CanFail (pending.End end) = ⊥

-- a call that is due is the next one of the log's last append
abbrev pub IsDueOn : Book → Pending → Type 0
IsDueOn book pending.Nothing = ⊤
IsDueOn book (pending.Task task) = slice_get book.log.disk.tasks book.done ≡ Some task
IsDueOn book (pending.Send to) = ⊤
IsDueOn book (pending.End end) = ⊤

-- no call of the log is due
abbrev pub IsNoCall : Pending → Type 0
IsNoCall pending.Nothing = ⊤
IsNoCall (pending.Task task) = ⊥
IsNoCall (pending.Send to) = ⊤
IsNoCall (pending.End end) = ⊤

-- the number of what is told to be due, which a wait has none of
abbrev pub HasNumber : ℕ → Due → Type 0
HasNumber n (due.Write number at bytes) = number ≡ n
HasNumber n (due.Sync number) = number ≡ n
HasNumber n (due.Send number to packet) = number ≡ n
HasNumber n (due.End number end) = number ≡ n
HasNumber n due.Wait = ⊤
