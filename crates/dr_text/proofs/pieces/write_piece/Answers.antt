use Rattle.std.proofs.{Common.{◌++◌, List, ℕ, ◌∙◌, subst, string_bytes}, lemmas.Result.on_err_weaker}
use Rattle.dr_text.{specs.Writing.WroteFront, proofs.Sinks.front_behind}
use Rattle.dr_text.proofs.pieces.write_piece.Goals as goal

pub returns-clause-err : goal.returns-clause-err
returns-clause-err g c =
    let old = g.K.Sink.held c.args.sink.now in
    let now = g.K.Sink.held c.write_all.new.sink in
    let new = g.K.Sink.held c.write_all-2.new.sink in
    on_err_weaker c.write_all-2.result
    (λ front. subst (λ (text : List ℕ). WroteFront old new (string_bytes c.args.piece.now.own ++ text))
    c.first.ensures (subst (λ (own : List ℕ). WroteFront old new (own ++ c.first.result.now))
    (c.as_bytes.ensures.value ∙ c.as_str.ensures.value)
    (front_behind old now new c.as_bytes.result.now c.first.result.now c.in_ok-write_all.ensures.ok front)))
    c.write_all-2.ensures.err
