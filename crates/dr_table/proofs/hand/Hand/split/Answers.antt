use Rattle.std.{specs.Prelude.Option, proofs.Common.{◌≡◌, ◌<◌, ◌++◌, List, drop, take, sym, ap, ◌∙◌, subst, arith}}
use Rattle.atomic_table.specs.{Seated.TableId, Table.Me}
use Rattle.dr_program.{specs.Running.Running, proofs.Present.{each_drop, each_take}}
use Rattle.dr_table.specs.{Cards.{AreOf, AreReached, Cards, DealtTable, board_size}, Slots.Slot}
use Rattle.dr_table.{specs.{Steps.{IsReachedMember, idle}, declared.rule.View.View}, proofs.Keeping.idle_is}
use Rattle.dr_table.proofs.hand.Hand.split.Goals as goal

pub cut_at-other-requires-clause-idle : goal.cut_at-other-requires-clause-idle
cut_at-other-requires-clause-idle c = idle_is c.self.inside.seat.me _ c.self.invariant.known

pub invariant_of-result-2 : goal.invariant_of-result-2
invariant_of-result-2 c =
    let n = c.args.at in
    let x = c.self.inside.members.items in
    let items : c.move_tail.new.from.items ≡ take n x = c.move_tail.ensures.from.0 in
    let tables = c.cut_at-other.ensures.seat.0 ∙ sym (ap (λ (w : Cards). w.table.id) c.self.view_is
    ∙ ap (λ (t : DealtTable). t.id) c.requires.board) in
    record {
      known = c.cut_at-other.ensures.seat.1
          ∙ ap (λ (m : Me Slot View). idle (take n m.0.members)) c.self.invariant.known ∙ ap idle (sym items);
      reached = subst AreReached (sym items) (each_take IsReachedMember n x c.self.invariant.reached);
      of = subst (λ (t : TableId). AreOf t.words c.move_tail.new.from.items) (sym tables)
          (subst (AreOf c.self.inside.seat.table_id.words) (sym items)
          (each_take (λ r. board_size r ≡ c.self.inside.seat.table_id.words) n x c.self.invariant.of));
      words = subst (λ (t : TableId). 0 < t.words) (sym tables) c.self.invariant.words;
      room = omega (arith, c.self.invariant.room, c.move_tail.ensures.from.1);
    }

pub invariant_of-result-3 : goal.invariant_of-result-3
invariant_of-result-3 c =
    let n = c.args.at in
    let x = c.self.inside.members.items in
    let items : c.move_tail.new.into.items ≡ drop n x =
    c.move_tail.ensures.into.0 ∙ ap (λ (l : List (Option Running)). l ++ drop n x) c.in-Ok.ensures.items in
    let tables = c.cut_at-other.ensures.other.0 ∙ sym (ap (λ (w : Cards). w.table.id) c.self.view_is
    ∙ ap (λ (t : DealtTable). t.id) c.requires.board) in
    record {
      known = c.cut_at-other.ensures.other.1
          ∙ ap (λ (m : Me Slot View). idle (drop n m.0.members)) c.self.invariant.known ∙ ap idle (sym items);
      reached = subst AreReached (sym items) (each_drop IsReachedMember n x c.self.invariant.reached);
      of = subst (λ (t : TableId). AreOf t.words c.move_tail.new.into.items) (sym tables)
          (subst (AreOf c.self.inside.seat.table_id.words) (sym items)
          (each_drop (λ r. board_size r ≡ c.self.inside.seat.table_id.words) n x c.self.invariant.of));
      words = subst (λ (t : TableId). 0 < t.words) (sym tables) c.self.invariant.words;
      room = omega (
        arith,
        c.self.invariant.room,
        c.move_tail.ensures.into.1,
        c.in-Ok.ensures.capacity,
        c.capacity.ensures,
      );
    }
