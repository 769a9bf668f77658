use Rattle.std.{specs.List.concat, proofs.{Common.{◌++◌, List, ℕ, ◌∙◌, subst}, lemmas.Result.on_err_weaker}}
use Rattle.dr_text.{specs.Writing.WroteFront, proofs.Sinks.front_behind}
use Rattle.dr_text.proofs.long_text.LongText.write_with.Goals as goal

pub returns-clause-err : goal.returns-clause-err
returns-clause-err g c =
    let old = g.K.Sink.held c.args.sink.now in
    let now = g.K.Sink.held c.write_parts.new.sink in
    let new = g.K.Sink.held c.write_all.new.sink in
    on_err_weaker c.write_all.result
    (λ front. subst (λ (text : List ℕ). WroteFront old new (text ++ c.args.last.now)) c.self.view_is
    (subst (λ (last : List ℕ). WroteFront old new (concat c.self.inside.parts.items ++ last)) c.as_bytes.ensures.value
    (subst (λ (parts : List (List ℕ)). WroteFront old new (concat parts ++ c.as_bytes.result.now))
    c.as_slice.ensures.value (front_behind old now new (concat c.as_slice.result.now) c.as_bytes.result.now
    c.in_ok-write_parts.ensures.ok front)))) c.write_all.ensures.err
