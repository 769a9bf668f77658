use Rattle.std.specs.{Prelude.{vec_capacity, Option}, declared.alloc.AllocError.AllocError}
use Rattle.std.proofs.Common.{length, length-append, ◌+◌, ◌≤◌, ◌≡◌, ◌<◌, ◌++◌, List, sym, ap, ◌∙◌, subst, arith, Result, Ok, Err, IsOk, is_ok, if◌then◌else◌, true≢false}
use Rattle.atomic_table.specs.{Seated.TableId, Table.Me}
use Rattle.dr_program.{specs.Running.Running, proofs.Present.each_append}
use Rattle.dr_table.specs.{Cards.{AreOf, AreReached, Cards, DealtTable, board_size}, Slots.Slot}
use Rattle.dr_table.{specs.{Steps.{IsReachedMember, idle}, declared.rule.View.View}, proofs.Cuts.join_allowed}
use Rattle.dr_table.proofs.{Keeping.{no_errand, no_slots}, Posting.free, hand.gather_hands.Goals.After-append}
use Rattle.dr_table.proofs.hand.gather_hands.Goals as goal

pub join_seat-requires : goal.join_seat-requires
join_seat-requires c =
    let id : DealtTable → TableId = λ t. t.id in
    let home = sym (ap (λ (w : Cards). w.table.id) c.board.view_is) in
    let a = ap (λ (w : Cards). w.table.id) c.a.view_is ∙ ap id c.requires.first ∙ home in
    let b = ap (λ (w : Cards). w.table.id) c.b.view_is ∙ ap id c.requires.second ∙ home in (
      a,
      b,
      no_slots c.b.inside.seat.me _ c.b.invariant.known,
      subst (λ (t : TableId). 0 < t.words) a c.a.invariant.words,
      join_allowed _ _ _ _ _ (no_errand c.a.inside.seat.me _ c.a.invariant.known)
          (no_errand c.b.inside.seat.me _ c.b.invariant.known),
    )

pub count_at-requires-clause-table : goal.count_at-requires-clause-table
count_at-requires-clause-table c = c.join_seat.ensures.0 ∙ ap (λ (w : Cards). w.table.id) c.a.view_is
    ∙ ap (λ (t : DealtTable). t.id) c.requires.first

pub count_at-requires-clause-words : goal.count_at-requires-clause-words
count_at-requires-clause-words c = subst (λ (t : TableId). 0 < t.words)
    (ap (λ (w : Cards). w.table.id) c.a.view_is ∙ ap (λ (t : DealtTable). t.id) c.requires.first) c.a.invariant.words

appended : (r : Result (Unit {0}) AllocError) (new a b : List (Option Running))
    → new ≡ (if is_ok r then a ++ b else a) → IsOk r → new ≡ a ++ b
appended (Ok x) new a b e is = e
appended (Err x) new a b e is = absurd (true≢false (sym is))

-- the board counts as many places as the first hand
places : (c : After-append) → length c.args.board.now.members ≡ c.a.inside.places
places c = sym (ap (λ (w : Cards). length w.members) c.board.view_is)
    ∙ ap (λ (w : Cards). w.table.places) c.board.view_is ∙ sym (ap (λ (t : DealtTable). t.places) c.requires.first)
    ∙ sym (ap (λ (w : Cards). w.table.places) c.a.view_is)

-- the seat has the members of both
both : (c : After-append) → c.join_seat.new.seat.me ≡ idle (c.a.inside.members.items ++ c.b.inside.members.items)
both c = c.join_seat.ensures.2
    ∙ (λ z. (free ((c.a.invariant.known z).0.members ++ (c.b.invariant.known z).0.members), (c.a.invariant.known z).1))

-- there is room for them
fits : (c : After-append)
    → length c.a.inside.members.items + length c.b.inside.members.items ≤ vec_capacity c.a.inside.members
fits c =
    let few : length (c.a.inside.members.items ++ c.b.inside.members.items) ≤ c.a.inside.places =
    subst (λ n. length (c.a.inside.members.items ++ c.b.inside.members.items) ≤ n) (places c)
    (subst (λ (m : Me Slot View). length m.0.members ≤ length c.args.board.now.members) (both c)
    c.count_at.ensures.few) in
    omega (arith, few, length-append c.a.inside.members.items c.b.inside.members.items, c.a.invariant.room)

both_there : (c : After-append) → IsOk c.append.result
both_there c = let fit = fits c in c.append.ensures.succeeds
    (omega (arith, fit, c.a.inside.members.ok, c.b.inside.members.ok))

pub unwrap-requires : goal.unwrap-requires
unwrap-requires c = both_there c

pub invariant_of-result : goal.invariant_of-result
invariant_of-result c =
    let x = c.a.inside.members in
    let y = c.b.inside.members in
    let items = appended c.append.result c.append.new.self.items x.items y.items c.append.ensures.items
    (both_there (goal.at.invariant_of-result c).After-append) in
    let table = c.count_at.ensures.seat.0 ∙ c.join_seat.ensures.0 in
    let tables = ap (λ (t : DealtTable). t.id) (ap (λ (w : Cards). w.table) c.a.view_is ∙ c.requires.first
    ∙ sym c.requires.second ∙ sym (ap (λ (w : Cards). w.table) c.b.view_is)) in record {
      known = c.count_at.ensures.seat.1 ∙ both (goal.at.invariant_of-result c).After-append ∙ ap idle (sym items);
      reached = subst AreReached (sym items)
          (each_append IsReachedMember x.items y.items c.a.invariant.reached c.b.invariant.reached);
      of = subst (AreOf c.count_at.new.seat.table_id.words) (sym items)
          (subst (λ (t : TableId). AreOf t.words (x.items ++ y.items)) (sym table)
          (each_append (λ r. board_size r ≡ c.a.inside.seat.table_id.words) x.items y.items c.a.invariant.of
          (subst (λ (t : TableId). AreOf t.words y.items) (sym tables) c.b.invariant.of)));
      words = subst (λ (t : TableId). 0 < t.words) (sym table) c.a.invariant.words;
      room = omega (arith, c.a.invariant.room, c.append.ensures.capacity);
    }

pub returns-clause-members : goal.returns-clause-members
returns-clause-members c =
    let x = c.a.inside.members in
    let y = c.b.inside.members in
    appended c.append.result c.append.new.self.items x.items y.items c.append.ensures.items
    (both_there (goal.at.returns-clause-members c).After-append)
    ∙ (λ k. (ap (λ (w : Cards). w.members) c.a.view_is) k ++ (ap (λ (w : Cards). w.members) c.b.view_is) k)
