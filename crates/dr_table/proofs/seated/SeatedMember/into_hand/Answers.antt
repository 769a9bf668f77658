use Rattle.std.{specs.Prelude.Some, proofs.Common.{◌≡◌, ◌++◌, [], ◌∷◌, sym, ap, ◌∙◌, subst, arith}}
use Rattle.dr_table.specs.{Cards.{AreOf, AreReached, IsAtEnd, Seated, board_size}, Steps.{IsReachedMember, idle}}
use Rattle.dr_table.proofs.Members.{known_at_end}
use Rattle.dr_table.proofs.seated.SeatedMember.into_hand.Goals as goal
use Rattle.dr_program.proofs.Present.{only_one}

pub invariant_of-result : goal.invariant_of-result
invariant_of-result c =
    let m = c.self.inside.member in
    let items : c.push_reserved.new.self.items ≡ Some m ∷ [] =
    c.push_reserved.ensures.items ∙ ap (λ l. l ++ Some m ∷ []) c.self.invariant.rest in
    let ended = subst (λ (w : Seated). IsAtEnd w.member) (sym c.self.view_is) c.requires.ended in record {
      known = known_at_end c.self.inside c.self.invariant ended ∙ ap idle (sym items);
      reached = subst AreReached (sym items)
          (λ k r there. subst IsReachedMember (only_one m r k there).1 c.self.invariant.reached);
      of = subst (AreOf c.self.inside.seat.table_id.words) (sym items) (λ k r there. subst
          (λ q. board_size q ≡ c.self.inside.seat.table_id.words) (only_one m r k there).1 c.self.invariant.of);
      words = c.self.invariant.words;
      room = omega (arith, c.self.invariant.room, c.push_reserved.ensures.capacity);
    }
