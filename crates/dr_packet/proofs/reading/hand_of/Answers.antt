use Rattle.std.proofs.Common.{arith}
use Rattle.dr_entry.proofs.ListFacts.{rest_is}
use Rattle.dr_packet.proofs.Bodies.{hand-is}
use Rattle.dr_packet.proofs.reading.hand_of.Goals as goal

pub returns : goal.returns
returns c = hand-is c.args.bytes.now c.u64_at.result c.u64_at-2.result _ (λ i. omega (arith, c.type_inv.bytes i))
    c.if-bytes-lt16.false c.if-bytes.false c.u64_at.ensures c.u64_at-2.ensures (rest_is c.args.bytes.now 16)
