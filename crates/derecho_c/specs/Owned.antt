-- What a `Handle` owns: nothing where it is closed, whose pointer is null, and else the same as a `Box<Held>`.
use base.Fml.{Fml, ftrue}
use base.Stored.{Coded}
use Rattle.std.specs.Prelude.{◌≡◌}
use denote.RawPtr.{Ptr, InBlock, block_ptr, null_ptr}
use Rattle.std.specs.Box.Ownership.{box_owns}
use Rattle.std.specs.Global.{Global}
use Rattle.std_heap.specs.contracts.GlobalAllocator.TheImpl.{ghosts}
use Rattle.dr_seat.specs.contracts.Held.{the_row}

abbrev pub handle_owns : Global → Ptr → the_row.Denot → Fml
handle_owns alloc null_ptr x = ftrue
handle_owns alloc (block_ptr b o) x = box_owns (ghosts.dealloc_token alloc) the_row (block_ptr b o) x

abbrev pub held_coded : Coded the_row.Denot
held_coded = the_row.coded

-- the pointer of a handle that is open
abbrev pub IsOpen : Ptr → Type 0
IsOpen = InBlock

-- and of one that is closed
abbrev pub IsClosed : Ptr → Type 0
IsClosed at = at ≡ null_ptr
