use Rattle.std.proofs.Common.{◌≡◌, ◌∙◌, ℕ, List, IfOk, Option, Some, ap, option_map, string_bytes, subst, sym}
use Rattle.dr_intake.specs.{Answer.IsUnread, declared.answer.Answer.Answer}
use Rattle.dr_intake.proofs.Answers.{done_if, unread_if, unread_map}
use Rattle.dr_script.specs.Reading.{reading_of}
use Rattle.dr_tools.specs.Folder.{IsSaidOf, folder_named, folder_usage}
use Rattle.dr_tools.proofs.folder.top.answer_for.Goals as goal

pub returns-in-Ok : goal.returns-in-Ok
returns-in-Ok g c =
    let asked : folder_named c.args.words.now ≡ Some c.in-Ok.folder.now =
    sym c.folder_named.ensures ∙ ap (option_map (λ folder. folder.now)) c.in-Ok.ensures.asked in
    done_if folder_usage (λ folder bytes said. IsSaidOf (reading_of bytes) said)
    (folder_named c.args.words.now) (g.S.Source.left c.args.source.now) (g.S.Source.left c.read_for.new.source)
    (g.S.Source.faults c.args.source.now) (g.S.Source.faults c.read_for.new.source) c.answer_to.result
    c.in-Ok.folder.now c.in-Ok.bytes.items asked c.in-Ok.ensures.bytes (subst (λ (l : List ℕ). IfOk c.answer_to.result
    (λ (a : Answer). IsSaidOf (reading_of l) (string_bytes a.text, a.status)))
    c.deref.ensures.value c.answer_to.ensures)

pub returns-in-Err : goal.returns-in-Err
returns-in-Err g c =
    let old = g.S.Source.left c.args.source.now in
    let new = g.S.Source.left c.read_for.new.source in
    let failed = g.S.Source.faults c.args.source.now in
    let fails = g.S.Source.faults c.read_for.new.source in
    unread_if folder_usage (λ folder bytes said. IsSaidOf (reading_of bytes) said)
    (folder_named c.args.words.now) old new failed fails c.of_unread.result c.in-Err.why
    (subst (λ (asked : Option (List ℕ)). IsUnread asked old new failed fails c.in-Err.why) c.folder_named.ensures
    (unread_map (λ folder. folder.now) c.folder_named.result old new failed fails c.in-Err.why
    c.in-Err.ensures.unread)) c.of_unread.ensures
