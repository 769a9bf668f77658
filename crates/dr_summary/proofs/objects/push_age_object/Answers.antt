use Rattle.std.proofs.Common.{◌≡◌, ◌++◌, OnOk, rules, string_bytes, subst}
use Rattle.dr_entry.proofs.ListFacts.{pushed_on}
use Rattle.dr_summary.specs.{Histories.longest, Objects.{age_back, age_front}}
use Rattle.dr_summary.proofs.objects.push_age_object.Goals as goal

pub returns : goal.returns
returns c =
    let script = c.args.script.now in
    let age = c.args.age.now in
    let nth = c.args.nth in
    let history = c.longest-history.result.now in
    let old = string_bytes c.args.out.now in
    let is : history ≡ longest age.members = search rules in
    subst (λ h. OnOk c.push_age_back.result (string_bytes c.push_age_back.new.out
    ≡ old ++ (age_front nth age h ++ age_back script nth age h))) is (pushed_on c.push_age_back.result old
    (string_bytes c.push_age_front.new.out) (string_bytes c.push_age_back.new.out) (age_front nth age history)
    (age_back script nth age history) c.in_ok-push_age_front.ensures c.push_age_back.ensures)
