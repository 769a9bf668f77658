use Rattle.dr_picture.specs.Sheet.{Keeps}
use Rattle.dr_picture.proofs.drawing.lay.Given as goal

abbrev pub invariant-loop-mark : goal.invariant-loop-mark
invariant-loop-mark l = Keeps l.initial.sheet l.sheet
