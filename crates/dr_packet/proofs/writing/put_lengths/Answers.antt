use Rattle.std.proofs.Common.{length, take, ap, arith, length-append, length-take}
use Rattle.dr_packet.{specs.Packets.long_bytes, proofs.Longs.longs-length}
use Rattle.dr_packet.proofs.writing.put_lengths.Goals as goal

pub put-requires : goal.put-requires
put-requires c =
    let written = take c.loop-length.length-index c.args.lengths.now in
    omega (
      arith,
      ap length c.loop-length.invariant,
      length-append c.args.into.now.items (long_bytes written),
      longs-length written,
      length-take c.loop-length.length-index c.args.lengths.now,
      ap length c.to_be_bytes.ensures,
    )

pub returns-clause-length : goal.returns-clause-length
returns-clause-length c =
    let written = take c.loop-length.length-index c.args.lengths.now in
    omega (
      arith,
      ap length c.loop-length.invariant,
      length-append c.args.into.now.items (long_bytes written),
      longs-length written,
      length-take c.loop-length.length-index c.args.lengths.now,
      c.loop-length-test.false,
      c.loop-length.auto,
    )
