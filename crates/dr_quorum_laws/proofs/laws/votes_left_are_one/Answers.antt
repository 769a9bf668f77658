use Rattle.dr_world_laws.proofs.Worlds.{known}
use Rattle.dr_quorum_laws.proofs.OneValue.{left-ballot, left-committed, left-majority}
use Rattle.dr_quorum_laws.proofs.laws.votes_left_are_one.Goals as goal

pub returns : goal.returns
returns c = record {
  ballot = λ g w logs i j x y is r left h k of. left-ballot g w logs i j x y is (known g w is r) left h k of;
  majority = λ g w logs i j members x y is r left held h k most view above.
      left-majority g w logs i j members x y is (known g w is r) left held h k most view above;
  committed = λ g w logs m v is r left e. left-committed g w logs m v is (known g w is r) left e;
}
