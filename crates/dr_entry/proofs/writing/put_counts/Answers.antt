use Rattle.std.specs.{Int.{w32, to_be_bytes}, List.flat_map}
use Rattle.std.proofs.Common.{length, take, ap, arith, length-append, length-take}
use Rattle.dr_entry.proofs.Trims.{counts_length}
use Rattle.dr_entry.proofs.writing.put_counts.Goals as goal

pub put-requires : goal.put-requires
put-requires c =
    let written = take c.loop-count.count-index c.args.counts.now in
    omega (
      arith,
      ap length c.loop-count.invariant,
      length-append c.args.into.now.items (flat_map (to_be_bytes w32) written),
      counts_length written,
      length-take c.loop-count.count-index c.args.counts.now,
      ap length c.to_be_bytes.ensures,
    )
