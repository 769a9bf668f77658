use Rattle.std.{specs.Prelude.Some, proofs.Common.{◌≡◌, ◌++◌, [], ◌∷◌, length, refl, ap, ◌∙◌, arith}}
use Rattle.dr_program.specs.Presence.{present_at}
use Rattle.dr_table.specs.{Cards.Cards, Steps.idle}
use Rattle.dr_entry.proofs.ListFacts.{last_one}
use Rattle.dr_table.proofs.hand.Hand.seated.Goals as goal

pub invariant_of-result : goal.invariant_of-result
invariant_of-result c =
    let m = c.in-Some.member in
    let one : length c.self.inside.members.items ≡ 1 =
    ap (λ (w : Cards). length w.members) c.self.view_is ∙ c.requires.one in
    let rest = last_one c.self.inside.members.items _ _ c.take_last.ensures.items one in
    let items : c.self.inside.members.items ≡ Some m ∷ [] =
    c.take_last.ensures.items ∙ (λ z. rest z ++ c.in-Some.is z ∷ []) in
    let here = ap (λ l. present_at l 0) items in record {
      known = (m, c.self.invariant.known ∙ ap idle items, ([], refl));
      reached = c.self.invariant.reached 0 m here;
      of = c.self.invariant.of 0 m here;
      words = c.self.invariant.words;
      rest = rest;
      room = omega (arith, c.self.invariant.room, c.take_last.ensures.capacity);
      one = omega (arith, one, c.self.inside.members.ok, c.take_last.ensures.capacity);
    }
