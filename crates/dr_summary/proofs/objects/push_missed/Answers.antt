use Rattle.std.proofs.Common.{◌≡◌, ◌∙◌, ◌++◌, ap, codes, string_bytes}
use Rattle.dr_entry.proofs.ListFacts.{three_pushed}
use Rattle.dr_summary.specs.{Notes.missed, Objects.number_elements}
use Rattle.dr_summary.proofs.objects.push_missed.Goals as goal

pub returns : goal.returns
returns c =
    let numbers = missed c.args.faults.now c.args.nth c.args.members.now in
    let begun = string_bytes c.push_str.new.self in
    let middle : string_bytes c.push_fault_numbers.new.out ≡ begun ++ number_elements numbers =
    c.in_ok-push_fault_numbers.ensures
    ∙ ap (λ ns. begun ++ number_elements ns) (c.deref.ensures.value ∙ c.in_ok-numbers.ensures) in
    three_pushed c.push_str-2.result (string_bytes c.args.out.now) begun
    (string_bytes c.push_fault_numbers.new.out) (string_bytes c.push_str-2.new.self)
    (codes "  \"never_came\": [") (number_elements numbers) (codes "],\n") c.in_ok-push_str.ensures.bytes middle
    c.push_str-2.ensures.bytes
