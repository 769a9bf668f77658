use Rattle.std.proofs.Common.{Some, refl, sym, ap, ◌∙◌, arith, below_more}
use Rattle.std.proofs.lemmas.Option.{get_or_from_slice_get, same_Some, slice_get-get_or, slice_get_read}
use Rattle.dr_entry.proofs.BoolFacts.{refuted}
use Rattle.dr_oracle.proofs.succession.is_in_no_view.Goals as goal

pub returns-then-not-spares : goal.returns-then-not-spares
returns-then-not-spares c =
    let es = c.args.entries.now in
    let i = c.loop-entry.entry-index in
    let read = slice_get_read es _ i c.entry-item.result refl c.loop-entry-test.true c.entry-item.is in (
      λ t. absurd (cc),
      λ none. absurd (refuted c.spares.result c.spares.ensures c.if-not-spares.true
          (λ number members is. none number members (
            i,
            c.loop-entry-test.true,
            get_or_from_slice_get es i _ _ (read ∙ ap Some is),
          ))),
    )

pub loop-entry-preserved : goal.loop-entry-preserved
loop-entry-preserved c =
    let read = slice_get_read c.args.entries.now _ c.loop-entry.entry-index c.entry-item.result refl
    c.loop-entry-test.true c.entry-item.is in
    below_more _ _ c.loop-entry.invariant
    (λ number members at. c.spares.ensures.0 c.if-not-spares.false number members (same_Some _ _ (sym read ∙ at)))

pub returns : goal.returns
returns c = (
  λ _ number members there. c.loop-entry.invariant there.0
      (omega (arith, there.1, c.loop-entry-test.false)) number members
      (slice_get-get_or c.args.entries.now there.0 _ there.1 ∙ ap Some there.2),
  λ _. refl,
)
