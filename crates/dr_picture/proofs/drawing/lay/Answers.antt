use Rattle.dr_picture.proofs.drawing.lay.Goals as goal

pub loop-mark-preserved : goal.loop-mark-preserved
loop-mark-preserved c = λ first is. c.in_ok-put.ensures first (c.loop-mark.invariant first is)

pub returns : goal.returns
returns c = λ first is. c.advance.ensures.keeps first (c.loop-mark.invariant first is)
