use Rattle.std.specs.Prelude.{Option, option_to_list}
use Rattle.std.proofs.Common.{rules, ◌≡◌, ◌+◌, ◌++◌, ◌∷◌, [], List, length, map, replicate, Some, ap, ◌∙◌, arith, append_assoc, length-append}
use Rattle.std.proofs.lemmas.List.{map-append, replicate-append-replicate, Elements.All-pop}
use Rattle.dr_program.specs.Replica.{LeftView, nothing_left}
use Rattle.dr_replica.specs.{Lefts.{IsSpare, left_of}, declared.left.Left.Left}
use Rattle.dr_replica.proofs.left.skip_views.Goals as goal

pub loop-preserved : goal.loop-preserved
loop-preserved c =
    let taken : c.loop.spares.items ≡ c.pop.new.self.items ++ c.unwrap-left.result ∷ [] =
    c.pop.ensures.items ∙ ap (λ (o : Option Left). c.pop.new.self.items ++ option_to_list o) c.unwrap-left.ensures in
    let pushed : c.push.new.self.items ≡ c.loop.lefts.items ++ c.empty.new.self ∷ [] = search rules in
    record {
      lefts = ap (map left_of) pushed ∙ map-append left_of c.loop.lefts.items (c.empty.new.self ∷ [])
          ∙ ap (λ (l : LeftView). map left_of c.loop.lefts.items ++ l ∷ []) c.empty.ensures
          ∙ ap (λ (ls : List LeftView). ls ++ nothing_left ∷ []) c.loop.invariant.lefts
          ∙ append_assoc (map left_of c.args.lefts.now.items) (replicate c.loop.counter nothing_left)
          (nothing_left ∷ []) ∙ ap (λ (ls : List LeftView). map left_of c.args.lefts.now.items ++ ls)
          (replicate-append-replicate c.loop.counter 1 nothing_left);
      room = omega (arith, c.loop.invariant.room, c.push.ensures.capacity);
      count = omega (
        arith,
        c.loop.invariant.count,
        ap length taken,
        length-append c.pop.new.self.items (c.unwrap-left.result ∷ []),
      );
      spare = λ columns roster most all.
          (All-pop (IsSpare columns roster most) c.loop.spares.items c.pop.new.self.items
          (Some c.unwrap-left.result) taken (c.loop.invariant.spare columns roster most all)).0;
    }
