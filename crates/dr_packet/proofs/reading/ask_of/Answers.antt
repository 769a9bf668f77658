use Rattle.std.proofs.Common.{arith}
use Rattle.dr_packet.proofs.Bodies.{ask-is}
use Rattle.dr_packet.proofs.reading.ask_of.Goals as goal

pub returns : goal.returns
returns c = ask-is c.args.bytes.now c.u64_at.result c.u64_at-2.result (λ i. omega (arith, c.type_inv.bytes i))
    c.if-bytes-ne16.false c.u64_at.ensures c.u64_at-2.ensures
