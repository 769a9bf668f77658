use Rattle.std.proofs.Common.{◌≡◌, ◌∙◌, ◌++◌, OnOk, ap, string_bytes, subst}
use Rattle.dr_entry.proofs.ListFacts.{pushed_on}
use Rattle.dr_json.specs.Json.{faults_line, messages_line}
use Rattle.dr_json.proofs.script.push_script_lists.Goals as goal

pub returns : goal.returns
returns c =
    let script = c.args.script.now in
    let old = string_bytes c.args.out.now in
    let new = string_bytes c.push_faults_line.new.out in
    let begun = string_bytes c.push_messages_line.new.out in
    let first : begun ≡ old ++ messages_line script.messages =
    c.in_ok-push_messages_line.ensures ∙ ap (λ ms. old ++ messages_line ms) c.as_slice-messages.ensures in
    subst (λ fs. OnOk c.push_faults_line.result (new ≡ old ++ (messages_line script.messages ++ faults_line fs)))
    c.as_slice-faults.ensures (pushed_on c.push_faults_line.result old begun new
    (messages_line script.messages) (faults_line c.as_slice-faults.result.now) first c.push_faults_line.ensures)
