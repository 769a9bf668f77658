use Rattle.std.proofs.Common.{◌≡◌, length, slice_get, Some, sym, ap, ◌∙◌, arith, rules, subst, List, Decides}
use Rattle.std.proofs.lemmas.{Grind.common_steps, Option.gets}
use Rattle.dr_entry.specs.declared.entry.Entry.{Entry, TheVariants.View}
use Rattle.dr_history.{specs.History.IsPrefixOf, proofs.Lists.begins_decides}
use Rattle.dr_oracle.proofs.order.begins.Goals as goal

pub returns-then-eq : goal.returns-then-eq
returns-then-eq c =
    let at : slice_get c.args.history.now (length c.as_slice-start.result.now)
    ≡ Some c.in-Some.entry.now = grind (arith, common_steps, gets) in
    let same : c.in-Some.entry.now ≡ View c.args.opening.now.age 0 c.args.opening.now.members = search rules in
    begins_decides c.args.opening.now.start
    (View c.args.opening.now.age 0 c.args.opening.now.members) c.args.history.now c.is_prefix.result
    (ap (λ (xs : List Entry). slice_get c.args.history.now (length xs)) (sym c.as_slice-start.ensures)
    ∙ (at ∙ ap Some same)) (subst (λ (xs : List Entry). Decides c.is_prefix.result (IsPrefixOf xs c.args.history.now))
    c.as_slice-start.ensures c.is_prefix.ensures)
