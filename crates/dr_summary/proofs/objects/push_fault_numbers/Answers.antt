use Rattle.std.proofs.Common.{string_bytes, arith, rules}
use Rattle.dr_entry.proofs.ListFacts.{numbered_texts_more}
use Rattle.dr_summary.specs.Objects.{number_element}
use Rattle.dr_summary.proofs.objects.push_fault_numbers.Goals as goal

pub loop-place-preserved : goal.loop-place-preserved
loop-place-preserved c = numbered_texts_more (λ t. number_element t.0 t.1) c.args.numbers.now c.loop-place.place
    _ (string_bytes c.args.out.now) (string_bytes c.loop-place.out) (string_bytes c.push_fault_number.new.out)
    (omega arith) (search rules) c.loop-place.invariant c.in_ok-push_fault_number.ensures
