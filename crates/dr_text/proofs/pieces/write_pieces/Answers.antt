use Rattle.dr_entry.proofs.OptionFacts.{on_err_anyway}
use Rattle.dr_text.{specs.Pieces.piece_text, proofs.Sinks.front_of_list}
use Rattle.dr_text.proofs.pieces.write_pieces.Goals as goal

pub returns-in_err-write_piece-clause-err : goal.returns-in_err-write_piece-clause-err
returns-in_err-write_piece-clause-err g c = on_err_anyway c.from_residual.result
    (front_of_list (piece_text c.args.lines.now) c.args.pieces.now c.loop-piece.piece-index
    c.piece-item.result (g.K.Sink.held c.args.sink.now) (g.K.Sink.held c.loop-piece.sink)
    (g.K.Sink.held c.write_piece.new.sink) c.loop-piece-test.true c.piece-item.is
    c.loop-piece.invariant.gained c.in_err-write_piece.ensures.err)
