use Rattle.std.proofs.Common.{◌≡◌, sym, ap, ◌∙◌, subst, Decides, Some, take, slice_get}
use Rattle.std.proofs.lemmas.Option.{slice_get-get_or, same_Some}
use Rattle.dr_entry.specs.declared.entry.Entry.{Entry, TheVariants.Msg}
use Rattle.dr_history.specs.Soundness.{MayStand}
use Rattle.dr_restart.specs.Groups.{first_group_of}
use Rattle.dr_quorum.proofs.Stands.{next_stands}
use Rattle.dr_quorum.proofs.reading.may_stand.Goals as goal

pub returns-in-Msg : goal.returns-in-Msg
returns-in-Msg c e at =
    let script = c.args.script.now in
    let read = take c.args.at c.args.entries.now in
    let here : slice_get c.args.entries.now c.args.at ≡ Some c.index-entries-at.result =
    slice_get-get_or c.args.entries.now c.args.at c.index-entries-at.result c.requires.at
    ∙ ap Some (sym c.index-entries-at.is) in
    let is : Msg c.in-Msg.sender c.in-Msg.index c.in-Msg.bytes ≡ e =
    sym c.in-Msg.is ∙ same_Some _ _ (sym here ∙ at) in
    subst (λ (x : Entry). Decides c.is_next.result (MayStand (first_group_of script).opening read x)) is
    (next_stands script read c.args.view.now c.args.counts.now c.in-Msg.sender c.in-Msg.index c.in-Msg.bytes
    c.is_next.result c.requires.ranges c.requires.read c.is_next.ensures)
