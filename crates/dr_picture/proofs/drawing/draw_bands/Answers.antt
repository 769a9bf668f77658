use Rattle.dr_picture.proofs.drawing.draw_bands.Goals as goal

pub loop-band-preserved : goal.loop-band-preserved
loop-band-preserved c = λ first is. c.in_ok-lay.ensures first (c.loop-band.invariant first is)
