use Rattle.std.proofs.Common.{take}
use Rattle.dr_text.{specs.Pieces.pieces_text, proofs.Sinks.HasWritten}
use Rattle.dr_text.proofs.pieces.write_pieces.Given as goal

abbrev pub invariant-loop-piece : goal.invariant-loop-piece
invariant-loop-piece g l = HasWritten (g.K.Sink.held l.initial.sink) (g.K.Sink.held l.sink)
    (g.K.Sink.faults l.initial.sink) (g.K.Sink.faults l.sink) (pieces_text l.lines (take l.piece-index l.pieces))
