use Rattle.std.proofs.{Common.{◌++◌, ◌∷◌, [], take, ap, sym, subst, ◌∙◌, arith}, lemmas.List.{take_more, length-take}}
use Rattle.dr_store.{specs.Stock.IsStoreOf, proofs.Standing.messages_few}
use Rattle.dr_store.proofs.store.Store.of.Goals as goal

pub apply-requires : goal.apply-requires
apply-requires c =
    let h = c.args.history.now in let i = c.loop-entry.entry-index in
    omega (arith, c.loop-entry.invariant.0.version, messages_few (take i h), length-take i h, c.loop-entry-test.true)

pub loop-entry-preserved : goal.loop-entry-preserved
loop-entry-preserved c =
    let h = c.args.history.now in let i = c.loop-entry.entry-index in let e = c.entry-item.result in
    let front = take_more h i e c.loop-entry-test.true ∙ ap (λ x. take i h ++ x ∷ []) (sym c.entry-item.is) in (
      subst (IsStoreOf c.apply.new.self) (sym front)
          (c.in_ok-apply.ensures.stands (take i h) c.loop-entry.invariant.0),
      c.in_ok-apply.ensures.oldest ∙ c.loop-entry.invariant.1,
    )
