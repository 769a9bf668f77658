use Rattle.std.proofs.Common.{arith, slice_index, subst}
use Rattle.dr_packet.{specs.Reading.IsFarOf, proofs.Bodies.{try-is, try-long}}
use Rattle.dr_packet.proofs.reading.try_of.Goals as goal

pub returns-then-bytes-ne133 : goal.returns-then-bytes-ne133
returns-then-bytes-ne133 c says b = c.if-bytes-ne133.true (try-long c.args.bytes.now says b).0

pub returns : goal.returns
returns c = try-is c.args.bytes.now c.in_ok-far.far _ (λ i. omega (arith, c.type_inv.bytes i)) c.if-bytes-ne133.false
    (subst (IsFarOf (slice_index c.args.bytes.now 0)) c.in_ok-far.was c.far_of.ensures)
    c.u16_at-2.ensures c.u16_at.ensures c.lengths_of.ensures.members c.lengths_of.ensures.each
