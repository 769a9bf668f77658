use Rattle.dr_picture.specs.Sheet.{Keeps}
use Rattle.dr_picture.proofs.drawing.draw_bands.Given as goal

abbrev pub invariant-loop-band : goal.invariant-loop-band
invariant-loop-band l = Keeps l.initial.sheet l.sheet
