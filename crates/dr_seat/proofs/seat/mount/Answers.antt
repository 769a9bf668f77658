use Rattle.std.proofs.Common.{subst, sym}
use Rattle.dr_disk.specs.{Calls.State, Disk.{Now, content_of}}
use Rattle.dr_log_bytes.specs.Grammar.{IsDamaged}
use Rattle.dr_seat.{specs.Opened.IsLogFault, proofs.Mounting.unmounted}
use Rattle.dr_seat.proofs.seat.mount.Goals as goal

pub returns-in-Err-clause-fault : goal.returns-in-Err-clause-fault
returns-in-Err-clause-fault c = subst (IsLogFault c.args.bytes.now) (sym c.fault_of.ensures)
    (unmounted c.args.bytes.now c.in-Err.fault.why c.if-bytes-lt10.false
    (λ at is. subst (λ (s : State). IsDamaged (content_of (Now s)) at) c.in_ok-of.ensures.bytes
    (c.in-Err.ensures.damaged at is)))
