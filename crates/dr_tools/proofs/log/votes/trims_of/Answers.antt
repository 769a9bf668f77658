use Rattle.std.proofs.Common.{◌≡◌, length, ap, arith, length-take}
use Rattle.dr_tools.proofs.log.votes.trims_of.Goals as goal

pub slice_bounds-result-end : goal.slice_bounds-result-end
slice_bounds-result-end c =
    let same : length c.as_slice-trim.result.now ≡ length c.args.vote.now.value.trim =
    ap length c.as_slice-trim.ensures in
    omega (
      arith,
      length-take c.from.result c.as_slice-trim.result.now,
      same,
      c.requires.fits.places,
      c.requires.valid.members,
      c.from.ensures,
    )
