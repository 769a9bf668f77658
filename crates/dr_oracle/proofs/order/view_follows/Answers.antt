use Rattle.std.proofs.{Common.{◌≡◌, take, slice_get, None, Some, arith}, lemmas.{Grind.common_steps, Option.gets}}
use Rattle.dr_entry.specs.declared.entry.Entry.TheVariants.{View}
use Rattle.dr_history.specs.History.{view_of}
use Rattle.dr_oracle.proofs.Orders.{follows_decides, follows_none}
use Rattle.dr_oracle.proofs.order.view_follows.Goals as goal

pub returns-in-Some : goal.returns-in-Some
returns-in-Some c =
    let at : slice_get c.args.history.now c.args.i
    ≡ Some (View c.in-Some-View.age c.in-Some-View.number c.in-Some-View.members) =
    grind (arith, common_steps, gets) in
    let before : view_of (take c.args.i c.args.history.now) ≡ Some c.in-Some.view = grind (arith, common_steps) in
    follows_decides c.args.opening.now c.args.history.now c.args.i c.in-Some-View.age c.in-Some-View.number
    c.in-Some-View.members c.in-Some.view c.may_be_succeeded_by.result at before c.may_be_succeeded_by.ensures

pub returns-in-None : goal.returns-in-None
returns-in-None c =
    let at : slice_get c.args.history.now c.args.i
    ≡ Some (View c.in-Some-View.age c.in-Some-View.number c.in-Some-View.members) =
    grind (arith, common_steps, gets) in
    let before : view_of (take c.args.i c.args.history.now) ≡ None = grind (arith, common_steps) in
    follows_none c.args.opening.now c.args.history.now c.args.i c.in-Some-View.age c.in-Some-View.number c.in-Some-View.members
    at before
