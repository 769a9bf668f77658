use Rattle.std.{specs.Bool.then_some, proofs.{Common.{◌≡◌, ap, sym, ◌∙◌, refl}, lemmas.Bool.Decides.Decides-eqb}}
use Rattle.std.proofs.lemmas.Slice.Eq.{slice_eq-Decides}
use Rattle.dr_entry.proofs.ListFacts.{some_where}
use Rattle.dr_check.specs.declared.line.Line.{Line}
use Rattle.dr_check.proofs.lines.chosen.Goals as goal

pub returns-clause-some : goal.returns-clause-some
returns-clause-some c =
    let is = slice_eq-Decides Decides-eqb c.as_bytes.result.now c.args.bytes.now c.eq.result c.eq.ensures in
    some_where (λ (l : Line). (l ≡ c.args.line) × (c.args.text.now ≡ c.args.bytes.now)) c.eq.result c.args.line
    c.then_some.result c.then_some.ensures (λ t. (refl, sym c.as_bytes.ensures.value ∙ is.0 t))

pub returns-clause-yes : goal.returns-clause-yes
returns-clause-yes c same =
    let is = slice_eq-Decides Decides-eqb c.as_bytes.result.now c.args.bytes.now c.eq.result c.eq.ensures in
    c.then_some.ensures ∙ ap (λ b. then_some b c.args.line) (is.1 (c.as_bytes.ensures.value ∙ same))
