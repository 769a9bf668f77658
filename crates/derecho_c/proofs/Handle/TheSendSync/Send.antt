-- A handle owns nothing, or what a box owns, so it may go to another thread.
use mir.Raw.{raw}
use base.Shift.{Keyless}
use denote.Memory.{lone}
use denote.RawPtr.{Ptr, block_ptr, null_ptr}
use denote.Struct.Struct.{exits_of}
use denote.Struct.Owning.{shape, fields, to}
use denote.Param.Send.{IsSend, AllSend, owning_send, struct_send, sendable}
use Rattle.std.specs.Global.{Global}
use Rattle.std.proofs.Crossing as heap
use Rattle.std_alloc.proofs.SendSync.{quiet, lies}
use Rattle.std_heap.proofs.Global.TheSendSync as global
use Rattle.dr_seat.specs.contracts.Held as Held
use Rattle.dr_seat.proofs.Held.TheSendSync.{the_send as held}
use Rattle.derecho_c.specs.Owned.{handle_owns}
use Rattle.derecho_c.specs.contracts.Handle.{the_row, the_type}

owned : (alloc : Global) (at : Ptr) (x : Held.the_row.Denot) → Keyless (handle_owns alloc at x)
owned alloc (block_ptr b o) x =
    (lies Held.the_row held (block_ptr b o) x, heap.frees.frees alloc (raw (lone Held.the_row.mir)) (block_ptr b o))
owned alloc null_ptr x = tt

pub send : IsSend the_row
send =
    let all : AllSend (fields the_type) = (search sendable, (global.the_field_send, tt)) in
    owning_send the_type all (λ d. owned d.alloc d.at d.value)
    (λ k. quiet (to the_type) (exits_of k (fields the_type)) ((struct_send (shape the_type) all).leaving k))
