use Rattle.std.proofs.Common.{◌<◌, ℕ, List, length, ap, ◌∙◌, arith}
use Rattle.dr_order.proofs.Merges.{fewer_left}
use Rattle.dr_program.specs.Replica.{Replica}
use Rattle.dr_trim.specs.Trims.{trims_by_rank}
use Rattle.dr_replica.{specs.Rests.has_taken, proofs.Places.trims_held}
use Rattle.dr_replica.proofs.Delivering.{counted_all, counted_few, counted_more, fits_is, fits_told, taken_within}
use Rattle.dr_replica.proofs.replica.Replica.has_room_for.Goals as goal

pub returns-then-entries-room : goal.returns-then-entries-room
returns-then-entries-room c =
    let few = counted_few c.self.inside.items c.self.inside.history.entries
    (trims_by_rank c.self.inside.members c.args.trim.now) c.self.inside.next.place c.loop-spot.rest.next.place
    c.me-me.result c.loop-spot.entries c.loop-spot.own c.loop-spot.invariant.counted in
    let full = few.0 in
    grind (
      arith,
      full,
      c.if-entries-room.true,
      c.room-room.ensures,
      fits_is c.self.inside c.args.self.now c.args.trim.now c.self.view_is c.self.invariant,
    )

pub added_at-more-requires-clause-held : goal.added_at-more-requires-clause-held
added_at-more-requires-clause-held c =
    let within = taken_within c.self.inside c.args.trim.now c.self.invariant.members
    (ap (λ (r : Replica). has_taken r c.args.trim.now) c.self.view_is ∙ c.requires) in
    let next = rw c.loop-spot.invariant.trims at c.in-Some.ensures.next in
    trims_held c.self.inside.items (trims_by_rank c.self.inside.members c.args.trim.now) c.in-Some.spot.place
    within next.1

pub overflow_add-own : goal.overflow_add-own
overflow_add-own c =
    let few = counted_few c.self.inside.items c.self.inside.history.entries
    (trims_by_rank c.self.inside.members c.args.trim.now) c.self.inside.next.place c.loop-spot.rest.next.place
    c.me-me.result c.loop-spot.entries c.loop-spot.own c.loop-spot.invariant.counted in
    omega (
      arith,
      few.1,
      c.if-entries-room.false,
      c.room-room.ensures,
      c.entries-entries.ensures.form.small,
      c.added_at-more.ensures.few,
      c.added_at-more.ensures.one,
    )

pub loop-spot-smaller : goal.loop-spot-smaller
loop-spot-smaller c =
    let some : 0 < length c.loop-spot.rest.trims.items = omega (arith, c.loop-spot.rest.spot.rank) in
    let trims = ap (λ (v : _). v.items) c.in-Some.ensures.trims in
    let behind = c.in-Some.ensures.behind in
    rw (trims, behind) (fewer_left c.loop-spot.rest.trims.items c.loop-spot.rest.next.place
    c.in-Some.spot.place some c.in-Some.ensures.next)

pub loop-spot-preserved : goal.loop-spot-preserved
loop-spot-preserved c =
    let trims : List ℕ = trims_by_rank c.self.inside.members c.args.trim.now in
    let some : 0 < length trims = omega (arith, c.loop-spot.rest.spot.rank, ap length c.loop-spot.invariant.trims) in
    let next = rw c.loop-spot.invariant.trims at c.in-Some.ensures.next in
    let behind = c.in-Some.ensures.behind in
    record {
      trims = ap (λ (v : _). v.items) c.in-Some.ensures.trims ∙ c.loop-spot.invariant.trims;
      counted = rw behind (counted_more c.self.inside.items c.self.inside.history.entries trims
          c.self.inside.next.place c.loop-spot.rest.next.place c.in-Some.spot.place c.me-me.result
          c.loop-spot.entries c.loop-spot.own c.added_at-more.result.0 c.added_at-more.result.1 some next
          c.loop-spot.invariant.counted c.added_at-more.ensures.entries c.added_at-more.ensures.own);
    }

pub returns-then-entries-room-2 : goal.returns-then-entries-room-2
returns-then-entries-room-2 c =
    let trims : List ℕ = trims_by_rank c.self.inside.members c.args.trim.now in
    let some : 0 < length trims = omega (arith, c.loop-spot.rest.spot.rank, ap length c.loop-spot.invariant.trims) in
    let none = rw c.loop-spot.invariant.trims at c.in_default.ensures.next in
    let all = counted_all c.self.inside.items c.self.inside.history.entries trims c.self.inside.next.place
    c.loop-spot.rest.next.place c.me-me.result c.loop-spot.entries c.loop-spot.own some none
    c.loop-spot.invariant.counted in
    fits_told c.self.inside c.args.self.now c.args.trim.now c.loop-spot.entries c.loop-spot.own c.len.result
    c.me-me.result c.self.view_is c.self.invariant c.me-me.ensures.me (omega arith)
    (omega (arith, c.if-entries-room-2.true, c.room-room.ensures)) all.0 all.1

pub returns-else-entries-room-2 : goal.returns-else-entries-room-2
returns-else-entries-room-2 c =
    let trims : List ℕ = trims_by_rank c.self.inside.members c.args.trim.now in
    let some : 0 < length trims = omega (arith, c.loop-spot.rest.spot.rank, ap length c.loop-spot.invariant.trims) in
    let none = rw c.loop-spot.invariant.trims at c.in_default.ensures.next in
    let all = counted_all c.self.inside.items c.self.inside.history.entries trims c.self.inside.next.place
    c.loop-spot.rest.next.place c.me-me.result c.loop-spot.entries c.loop-spot.own some none
    c.loop-spot.invariant.counted in
    let entries = all.0 in
    grind (
      arith,
      entries,
      c.if-entries-room-2.false,
      c.room-room.ensures,
      fits_is c.self.inside c.args.self.now c.args.trim.now c.self.view_is c.self.invariant,
    )
