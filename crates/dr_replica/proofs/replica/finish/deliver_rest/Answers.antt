use Rattle.std.proofs.Common.{◌≡◌, ◌+◌, ◌<◌, ℕ, ◌++◌, length, List, sym, ap, ◌∙◌, arith}
use Rattle.dr_entry.specs.declared.entry.{Entry.Entry, Item.Item}
use Rattle.dr_order.proofs.Merges.{fewer_left}
use Rattle.dr_machine.specs.Effects.{entries_of}
use Rattle.dr_replica.specs.{History.Kept, Items.sender_held_at, Rests.{merged_from, with_item}}
use Rattle.dr_replica.proofs.Delivering.{history_is, merged_longer, next_merged, none_merged}
use Rattle.dr_replica.proofs.replica.finish.deliver_rest.Goals as goal

pub deliver-requires-clause-room : goal.deliver-requires-clause-room
deliver-requires-clause-room c =
    let longer = merged_longer c.args.items.now c.loop-spot.history.entries c.loop-spot.rest.trims.items
    c.loop-spot.rest.next.place in
    omega (arith, longer, ap length c.loop-spot.invariant.history, c.requires.room, c.loop-spot.invariant.room)

pub loop-spot-smaller : goal.loop-spot-smaller
loop-spot-smaller c =
    let some : 0 < length c.loop-spot.rest.trims.items = omega (arith, c.loop-spot.rest.spot.rank) in
    let trims = ap (λ (v : _). v.items) c.in-Some.ensures.trims in
    let behind = c.in-Some.ensures.behind in
    rw (trims, behind) (fewer_left c.loop-spot.rest.trims.items c.loop-spot.rest.next.place
    c.in-Some.spot.place some c.in-Some.ensures.next)

pub loop-spot-preserved : goal.loop-spot-preserved
loop-spot-preserved c = record {
  history =
      let same = ap (λ (v : _). v.items) c.in-Some.ensures.trims in
      let behind = c.in-Some.ensures.behind in
      rw (same, behind)
      (ap (λ (es : List Entry). merged_from c.args.items.now es trims (c.in-Some.spot.place + 1)) entries
      ∙ sym next ∙ c.loop-spot.invariant.history);
  roster = ap (λ (h : Kept). h.roster) c.deliver.ensures ∙ c.loop-spot.invariant.roster;
  room = ap (λ (h : Kept). h.room) c.deliver.ensures ∙ c.loop-spot.invariant.room;
  trims = c.in-Some.ensures.trims ∙ c.loop-spot.invariant.trims;
}
  where
    trims : List ℕ
    trims = c.loop-spot.rest.trims.items

    before : List Entry
    before = c.loop-spot.history.entries

    next : merged_from c.args.items.now before trims c.loop-spot.rest.next.place ≡ merged_from c.args.items.now
        (with_item c.args.items.now before c.in-Some.spot.place) trims (c.in-Some.spot.place + 1)
    next = next_merged c.args.items.now before trims c.loop-spot.rest.next.place c.in-Some.spot.place
        (omega (arith, c.loop-spot.rest.spot.rank)) c.in-Some.ensures.next

    entries : c.deliver.new.self.entries ≡ with_item c.args.items.now before c.in-Some.spot.place
    entries = ap (λ (h : Kept). h.entries) c.deliver.ensures ∙ ap (λ (s : ℕ). before
        ++ entries_of before s c.item_at.result.now) c.sender_at.ensures.sender ∙ ap (λ (x : Item). before
        ++ entries_of before (sender_held_at c.args.items.now c.in-Some.spot.place) x) c.item_at.ensures

pub returns : goal.returns
returns c = history_is c.loop-spot.history c.args.history.now
    (merged_from c.args.items.now c.args.history.now.entries c.args.rest.trims.items c.args.rest.next.place)
    c.loop-spot.invariant.roster (sym none ∙ c.loop-spot.invariant.history) c.loop-spot.invariant.room
  where
    none : merged_from c.args.items.now c.loop-spot.history.entries c.loop-spot.rest.trims.items
        c.loop-spot.rest.next.place ≡ c.loop-spot.history.entries
    none = none_merged c.args.items.now c.loop-spot.history.entries c.loop-spot.rest.trims.items
        c.loop-spot.rest.next.place (omega (arith, c.loop-spot.rest.spot.rank)) c.in_default.ensures.next
