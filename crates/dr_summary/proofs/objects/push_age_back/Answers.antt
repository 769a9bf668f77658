use Rattle.std.proofs.Common.{◌≡◌, ◌∙◌, ◌++◌, ap, string_bytes}
use Rattle.dr_entry.proofs.ListFacts.{pushed_thrice}
use Rattle.dr_summary.specs.{Notes.{missed, undelivered}, Objects.{age_missed, age_start, age_undelivered}}
use Rattle.dr_summary.proofs.objects.push_age_back.Goals as goal

pub returns : goal.returns
returns c =
    let script = c.args.script.now in
    let age = c.args.age.now in
    let nth = c.args.nth in
    let old = string_bytes c.args.out.now in
    let first : string_bytes c.push_missed.new.out ≡ old ++ age_missed (missed script.faults nth age.members) =
    c.in_ok-push_missed.ensures
    ∙ ap (λ fs. old ++ age_missed (missed fs nth c.as_slice-members.result.now)) c.as_slice-faults.ensures
    ∙ ap (λ ms. old ++ age_missed (missed script.faults nth ms)) c.as_slice-members.ensures in
    pushed_thrice c.push_undelivered_names.result old (string_bytes c.push_missed.new.out)
    (string_bytes c.push_start.new.out) (string_bytes c.push_undelivered_names.new.out)
    (age_missed (missed script.faults nth age.members)) (age_start age)
    (age_undelivered (undelivered script c.args.history.now)) first c.in_ok-push_start.ensures
    c.push_undelivered_names.ensures
