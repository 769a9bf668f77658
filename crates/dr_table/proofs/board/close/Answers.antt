use Rattle.std.specs.Prelude.{Some, option_map, slice_get}
use Rattle.std.proofs.Common.{◌≡◌, refl, sym, ap, ◌∙◌, subst, length, map}
use Rattle.dr_program.specs.Program.{IsRanFrom, Program, begun_program}
use Rattle.dr_table.specs.{Cards.{AreSame, Cards}, Rule.{hands, number}, Slots.Slot, declared.rule.View.View}
use Rattle.dr_table.proofs.{Hands.board_opened, Room.whole, Seats.hands_get}
use Rattle.atomic_table.specs.Table.{Me}
use Rattle.dr_table.proofs.board.close.Goals as goal
use Rattle.dr_entry.proofs.ListPlaces.{by_table}

pub returns-clause-ran : goal.returns-clause-ran
returns-clause-ran c =
    let final = c.close_with.ensures.values.2 in
    let s = final.0 in
    let kept = final.1.0 in
    let shared = c.board.inside.table.shared in
    let items = c.hand.inside.members.items in
    let is = ap (λ (w : Cards). w.members) c.hand.view_is in
    let mine : slice_get (hands s.views) c.hand.inside.seat.id ≡ Some items =
    hands_get s.views c.hand.inside.seat.id c.hand.inside.seat.me.0
    (by_table s.views c.hand.inside.seat.id c.hand.inside.seat.me.0 final.1.1) ∙ ap (λ (m : Me Slot View). Some m.0.members) c.hand.invariant.known in
    let all : AreSame shared.key.items items = ap (map (option_map number)) is
    ∙ c.requires.all ∙ ap (map (option_map number)) (sym (ap (λ (w : Cards). w.members) c.board.view_is)) in
    let same = whole shared.key.items s.words s.homes s.views c.hand.inside.seat.id items mine all kept in
    let begins = board_opened (record {
      table = record { id = shared.table_id; places = length shared.key.items };
      members = shared.key.items;
    }) c.args.board c.board.view_is refl kept.opening c.board.invariant in (
      kept.table,
      kept.letters,
      subst (λ (b : Program). IsRanFrom b (record { members = items; table = kept.table; letters = kept.letters }))
          (sym begins) (subst (λ l. IsRanFrom (begun_program kept.opening.group kept.opening.setups)
          (record { members = l; table = kept.table; letters = kept.letters })) same kept.ran),
    )
