use Rattle.dr_history.proofs.Places.{IsStrictlyIncreasing-held_places}
use Rattle.dr_order.proofs.Merges.{AreTaken-held_places, AreTaken-rest_places}
use Rattle.dr_order.proofs.merge_law.Goals as goal

pub returns : goal.returns
returns c = record {
  held = AreTaken-held_places;
  rest = AreTaken-rest_places;
  once = IsStrictlyIncreasing-held_places;
}
