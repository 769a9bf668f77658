use Rattle.std.proofs.{Common.{◌<◌, get_or, length, string_bytes, arith}, lemmas.List.get_or_default}
use Rattle.dr_entry.proofs.ListFacts.{numbered_texts_more}
use Rattle.dr_tools.specs.LogText.{taken_text}
use Rattle.dr_tools.proofs.log.votes.push_taken.Goals as goal

pub loop-number-preserved : goal.loop-number-preserved
loop-number-preserved c =
    let counts = c.args.counts.now in
    let i = c.loop-number.number in
    let within : i < length counts = omega (arith, c.loop-number-test.true) in
    let count = get_or counts i 0 in
    numbered_texts_more (λ t. taken_text t.0 t.1) counts i count (string_bytes c.args.out.now)
    (string_bytes c.loop-number.out) (string_bytes c.push_taken_of.new.out) within
    (get_or_default counts i 0 count within) c.loop-number.invariant (c.in_ok-push_taken_of.ensures)
