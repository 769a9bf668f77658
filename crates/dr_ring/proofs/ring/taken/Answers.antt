use Rattle.std.proofs.{Common.{◌≡◌, false, ◌==◌, Some, ap, sym, arith, rules}, lemmas.Bool.Decides.nat_tests}
use Rattle.dr_entry.specs.declared.entry.Item.TheVariants.{Text}
use Rattle.dr_words.specs.Packing.{ring_low}
use Rattle.dr_ring.{specs.{Pieces.null_mark, Slots.slot_of}, proofs.Readiness.item_there}
use Rattle.dr_ring.proofs.ring.taken.Goals as goal

pub returns : goal.returns
returns c =
    let slot = slot_of c.args.shape.now.window c.args.rows.now c.args.row c.args.k in
    let head : c.unpack_ring-head.result.1 ≡ ring_low (slot 0) = search rules in
    let text : (ring_low (slot 0) == null_mark) ≡ false = grind (arith, nat_tests) in
    record {
      item = rw (item_there c.args.k slot c.requires.ready, text, ← head)
          (ap (λ m. Some (Text m)) (sym c.body_at.ensures));
    }
