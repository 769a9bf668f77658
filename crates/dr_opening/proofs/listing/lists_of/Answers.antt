use Rattle.std.proofs.Common.{◌∙◌, ap, sym, ◌++◌, ◌∷◌, [], take}
use Rattle.dr_opening.{specs.Lists.{all_as_lists, contents_of}, proofs.Lists.next_listed}
use Rattle.dr_opening.proofs.listing.lists_of.Goals as goal

pub loop-place-preserved : goal.loop-place-preserved
loop-place-preserved g c = c.in_ok-push.ensures.items ∙ ap (λ l. l ++ c.list_at.result ∷ []) c.loop-place.invariant
    ∙ ap (λ o. take c.loop-place.place-index (all_as_lists (contents_of c.args.logs.now)) ++ o ∷ []) c.list_at.ensures
    ∙ sym (next_listed c.args.logs.now c.loop-place.place-index c.place-item.result c.loop-place-test.true
    c.place-item.is)
