use Rattle.std.proofs.Common.{◌≡◌, ◌∙◌, ◌++◌, [], ap, rules, string_bytes}
use Rattle.dr_entry.proofs.ListFacts.{three_told}
use Rattle.dr_tools.specs.Explained.{taken_line, turns_line}
use Rattle.dr_complete.specs.Enough.{most_messages}
use Rattle.dr_tools.proofs.explaining.top.answer_to_script.Goals as goal

pub returns-clause-turns : goal.returns-clause-turns
returns-clause-turns c =
    let script = c.args.script in
    let taken = c.in_ok-taken.taken in
    let begun = string_bytes c.push_turns.new.out in
    let none : string_bytes c.new-text.result ≡ [] = search rules in
    let second : string_bytes c.push_taken.new.out ≡ begun ++ taken_line (most_messages script) taken =
    c.in_ok-push_taken.ensures ∙ ap (λ n. begun ++ taken_line n taken) c.most_messages-most.ensures in
    record {
      taken = taken;
      is = c.in_ok-taken.ensures;
      begins = (
        c.as_str.result.now,
        three_told (string_bytes c.new-text.result) begun (string_bytes c.push_taken.new.out)
            (string_bytes c.push_str.new.self) (turns_line script) (taken_line (most_messages script) taken)
            c.as_str.result.now none c.in_ok-push_turns.ensures second c.in_ok-push_str.ensures.bytes,
      );
    }
