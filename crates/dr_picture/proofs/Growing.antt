-- How a sheet grows.
use Rattle.std.proofs.Common.{[], append-nil, arith, refl}
use Rattle.dr_picture.specs.Sheet.{Drawn, DrawnGrew}

-- a sheet has grown from itself
pub grown_same : (d : Drawn) → DrawnGrew d d
grown_same d = record {
  grounds = ([], append-nil d.grounds);
  arrows = ([], append-nil d.arrows);
  marks = ([], append-nil d.marks);
  words = ([], append-nil d.words);
  lane = refl;
  width = refl;
  row = omega arith;
  left = omega arith;
}
