use Rattle.std.proofs.Common.{◌≡◌, ◌∙◌, ◌++◌, ap, string_bytes}
use Rattle.dr_entry.proofs.ListFacts.{pushed_thrice}
use Rattle.dr_intake.specs.Status.{status_of}
use Rattle.dr_tools.specs.Object.{ages_part, enough_part, status_part}
use Rattle.dr_tools.proofs.summary.object.push_object.Goals as goal

pub returns : goal.returns
returns c =
    let script = c.args.script.now in
    let ages = c.args.ages.now in
    let begun = string_bytes c.push_ages_part.new.out in
    let middle : string_bytes c.push_status_part.new.out
    ≡ begun ++ status_part (status_of c.args.last.now) script.turns =
    c.in_ok-push_status_part.ensures ∙ ap (λ s. begun ++ status_part s script.turns) c.status_of.ensures in
    pushed_thrice c.push_enough_part.result (string_bytes c.args.out.now) begun
    (string_bytes c.push_status_part.new.out) (string_bytes c.push_enough_part.new.out) (ages_part script ages)
    (status_part (status_of c.args.last.now) script.turns) (enough_part c.args.enough)
    c.in_ok-push_ages_part.ensures middle c.push_enough_part.ensures
