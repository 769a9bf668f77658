-- The views of an age, each of which ends with a value: their members, how one follows another, and what
-- stays of a view that was left.
use Rattle.std.proofs.Common.{ap, arith, refl, ℕ, ◌∙◌}
use Rattle.dr_history_laws.proofs.Courses.{ended-steady}
use Rattle.dr_words.specs.{Columns.recv_column, Packing.{is_final, recv_count}}
use Rattle.dr_machine.specs.{Group.{Group, IsGroup}, Run.{PastGrew, WordsGrew}, World.World}
use Rattle.dr_faithful.specs.{Chosen.{Values, endings_by, views_by}, Faithful.Faithful}
use Rattle.dr_faithful.proofs.ChosenViews.{views-within}
use Rattle.dr_world_laws.specs.Historic.{HasEndedSafely}

-- ---- views that were left

-- a view that was left stays so: what is final there stays
pub left-steady : (g : Group) (values : Values) (w u : World) (v : ℕ) → IsGroup g
    → Faithful g (views_by g values) w → Faithful g (views_by g values) u
    → PastGrew w.past u.past → WordsGrew g w u → HasEndedSafely g values w v → HasEndedSafely g values u v
left-steady g values w u v is f f' grew words left = record {
  ended = ended-steady g.opening w.past.sent u.past.sent (endings_by g.opening values) v grew.sent left.ended;
  least = λ s member.
      let t = left.least s member in
      let same = (words.own t.0 v (recv_column s)).final s (views-within g values v s is member) refl t.2 in (
        t.0,
        t.1,
        ap is_final same ∙ t.2,
        omega (
          arith,
          t.3,
          ap recv_count same,
          f.counts.recv t.0 v s (views-within g values v s is member),
          f'.counts.recv t.0 v s (views-within g values v s is member),
        ),
      );
  covered = λ i s was remains member. omega (arith, left.covered i s was remains member, grew.count i v s);
}
