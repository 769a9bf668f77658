use Rattle.std.proofs.Common.{◌≡◌, ℕ, ◌+◌, ◌<◌, List, length, get_or, subst, sym, rules}
use Rattle.dr_entry.{specs.Spelling.Spells, proofs.ListFacts.rest_is}
use Rattle.dr_log_bytes.proofs.Reading.{broken_behind}
use Rattle.dr_log_bytes.proofs.block.block_at.Goals as goal

pub returns-in-Ok : goal.returns-in-Ok
returns-in-Ok c =
    let bytes = c.args.bytes.now in
    let at = c.args.at in
    let inside : at < length bytes = search rules in
    let gate : get_or bytes at 0 ≡ 1 = search rules in (
      inside,
      gate,
      subst (λ (l : List ℕ). Spells l c.in-Ok.record c.in-Ok.len) (rest_is bytes (at + 1))
          ((c.decode.ensures.accepted c.in-Ok.record c.in-Ok.len).0 c.in-Ok.is),
    )

pub returns-in-Err : goal.returns-in-Err
returns-in-Err c =
    let bytes = c.args.bytes.now in
    let at = c.args.at in
    let inside : at < length bytes = search rules in
    let gate : get_or bytes at 0 ≡ 1 = search rules in
    broken_behind bytes at inside gate
    (λ r n spells. let ok = (c.decode.ensures.accepted r n).1 (subst (λ (l : List ℕ). Spells l r n)
    (sym (rest_is bytes (at + 1))) spells) in
    let err = c.in-Err.is in absurd cc)
