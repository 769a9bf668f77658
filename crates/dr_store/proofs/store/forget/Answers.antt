use Rattle.std.proofs.Common.{rules}
use Rattle.dr_store.proofs.{Forgetting.{thinned-retain, thinned_map}, Tables.sorted_listed}
use Rattle.dr_store.proofs.store.forget.Goals as goal

pub returns-clause-here : goal.returns-clause-here
returns-clause-here c = sorted_listed _ c.retain.ensures.ordered

pub returns-clause-same : goal.returns-clause-same
returns-clause-same c key v later =
    let thinned = thinned-retain c.args.below _ _ (λ k v b w g so. search rules) c.args.changes.now.entries
    c.retain.new.self.entries c.retain.ensures.filtered in
    (thinned_map c.args.below c.args.changes.now.entries c.retain.new.self.entries c.requires.here
    (sorted_listed _ c.retain.ensures.ordered) c.retain.ensures.was_ordered thinned key).same v later

pub returns-clause-fewer : goal.returns-clause-fewer
returns-clause-fewer c n key up_to =
    let thinned = thinned-retain c.args.below _ _ (λ k v b w g so. search rules) c.args.changes.now.entries
    c.retain.new.self.entries c.retain.ensures.filtered in
    (thinned_map c.args.below c.args.changes.now.entries c.retain.new.self.entries c.requires.here
    (sorted_listed _ c.retain.ensures.ordered) c.retain.ensures.was_ordered thinned key).fewer n up_to
