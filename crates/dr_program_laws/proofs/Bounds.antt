-- In a world that is reached a history is never longer than the start, a View for each bank and the messages
-- that the script can give. So a replica with room for one entry more has the room that a step asks for.
use Rattle.std.{specs.Prelude.Option, proofs.Common.{refl, ap, ℕ, ◌+◌, ◌*◌, ◌<◌, ◌≤◌, List, length, arith}}
use Rattle.std.proofs.Math.Nat.{mul-le-mul}
use Rattle.dr_entry.specs.declared.limits.TheConstants.{MAX_MEMBERS, MAX_MESSAGES}
use Rattle.dr_entry.proofs.ListPlaces.{greatest_within}
use Rattle.dr_machine.specs.{Acts.{CanTake, effect_of}, Group.{Group, IsGroup, roster, banks}, Run.IsReached}
use Rattle.dr_machine.{specs.{World.World, declared.step.Step.Step}, proofs.Events.taken_reached}
use Rattle.dr_machine.proofs.{Groups.{messages_each, each_is}, Presence.late_few}
use Rattle.dr_faithful.proofs.Copies.{inside}
use Rattle.dr_program.{specs.{Reading.{Shared, world_of}, Replica.{Replica, greatest}}, proofs.Holdings.held_of}
use Rattle.dr_program.proofs.Replicas.{greatest_at}
use Rattle.dr_world_laws.proofs.{Rooms.history_below, Worlds.{all_go_on, known}}
use Rattle.dr_refine.{specs.Programs.{HasRoomFor, IsMember}, proofs.{Members.fits, Tests.room_by}}

-- ---- histories

pub history_bounded : (g : Group) (w : World) (m : ℕ) → IsGroup g → IsReached g w → m < roster g
    → length (w.past.history m) ≤ length g.opening.start + banks g + greatest (messages_each g) * roster g
history_bounded g w m is r l = history_below g w m (greatest (messages_each g)) is r l
    (λ s. omega (arith, each_is g s, greatest_at (messages_each g) s))

-- no script gives more
pub history_small : (g : Group) (w : World) (m : ℕ) → IsGroup g → IsReached g w → m < roster g
    → length (w.past.history m) ≤ length g.opening.start + 2 * MAX_MEMBERS + MAX_MESSAGES * MAX_MEMBERS
history_small g w m is reached l =
    let each : greatest (messages_each g) ≤ MAX_MESSAGES = greatest_within (messages_each g) 0 MAX_MESSAGES
    (omega arith) (λ s. omega (arith, each_is g s, is.messages s)) in
    let product = mul-le-mul each is.most_members in
    omega (arith, history_bounded g w m is reached l, product, is.most_members, late_few g)

-- ---- room

-- the room for a step is there by itself
pub has_room : (g : Group) (rs : List (Option Replica)) (table : Shared) (m : ℕ) (r : Replica) (s : Step)
    → IsMember g rs table m r → length g.opening.start + banks g + greatest r.totals * roster g < r.room
    → IsReached g (world_of g rs table) → CanTake g (world_of g rs table) m s → HasRoomFor r s
has_room g rs table m r s is room reached can = room_by g rs table m r s is can
    (omega (arith, short w reached, ap (λ h. length h.history) (held_of g rs table m r is.there), room))
    counts (omega (arith, short after goes_on, room)) (λ can. omega (
      arith,
      ((all_go_on g w is.group (known g w is.group reached)).finish m can).few,
      ap length is.of.messages,
    ))
  where
    w : World
    w = world_of g rs table

    after : World
    after = effect_of g w m s

    goes_on : IsReached g after
    goes_on = taken_reached g w after m s reached can refl

    short : (u : World) → IsReached g u
        → length (u.past.history m) ≤ length g.opening.start + banks g + greatest r.totals * roster g
    short u reached = history_below g u m (greatest r.totals) is.group reached (inside g m r.rows r.view
        (fits g rs table m r is)) (λ i. omega (arith, is.of.totals i, greatest_at r.totals i))

    -- no more items are counted than some member has messages
    counts : (v i : ℕ) → after.past.count m v i ≤ greatest r.totals
    counts v i =
        let few = (known g after is.group goes_on).chosen.faithful.counts.few m v i in
        omega (arith, few.1, is.of.totals few.0, greatest_at r.totals few.0)
