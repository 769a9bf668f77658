use Rattle.std.proofs.Common.{refl}
use Rattle.dr_yard.specs.Seals.{head_of}
use Rattle.dr_yard.proofs.seals.head_of.Goals as goal

pub returns : goal.returns
unfolding head_of
returns c = rw (
  c.ended.ensures,
  c.push-3.ensures.items,
  c.push-2.ensures.items,
  c.push.ensures.items,
  c.new-front.ensures,
  c.hexes.ensures,
) refl
