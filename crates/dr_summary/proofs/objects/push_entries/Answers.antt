use Rattle.std.proofs.Common.{string_bytes, arith}
use Rattle.dr_entry.proofs.ListFacts.{numbered_texts_more}
use Rattle.dr_summary.specs.Objects.{next_entry_object}
use Rattle.dr_summary.proofs.objects.push_entries.Goals as goal

pub loop-place-preserved : goal.loop-place-preserved
loop-place-preserved c =
    numbered_texts_more (λ t. next_entry_object c.args.first t.0 t.1) c.args.entries.now c.loop-place.place
    c.index-entries-place.result (string_bytes c.args.out.now) (string_bytes c.loop-place.out)
    (string_bytes c.push_next_entry.new.out) (omega arith) c.index-entries-place.is c.loop-place.invariant
    c.in_ok-push_next_entry.ensures
