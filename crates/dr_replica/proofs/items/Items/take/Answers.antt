use Rattle.std.proofs.{Common.{rules, ◌<◌, length, sym, subst, arith}, lemmas.{Grind.common_steps, List.get_or_read}}
use Rattle.dr_entry.proofs.Items.{nulls_after}
use Rattle.dr_replica.{specs.Items.Held, proofs.Places.taken_above}
use Rattle.dr_replica.proofs.items.Items.take.Goals as goal

pub front_from-self-inside-requires-clause-held : goal.front_from-self-inside-requires-clause-held
front_from-self-inside-requires-clause-held c =
    taken_above c.self.inside c.args.self.now c.as_slice.result.now c.as_slice-2.result.now c.args.member
    c.from.result c.from-4.result c.index-count.result.now
    c.self.view_is c.self.invariant c.requires.member c.from.ensures c.from-4.ensures c.index-count.ensures
    c.as_slice.ensures.value c.as_slice-2.ensures.value

pub invariant_of-self : goal.invariant_of-self
invariant_of-self c =
    let mine : c.args.member < c.self.inside.roster =
    subst (λ (h : Held). c.args.member < h.roster) (sym c.self.view_is) c.requires.member in
    let there : c.args.member < length c.self.inside.counts.items =
    omega (arith, mine, c.self.invariant.form.counts) in
    let read = get_or_read c.self.inside.counts.items c.args.member c.index-count.result.now there
    (rw c.from.ensures at c.index-count.ensures) 0 in record {
      form = grind (arith, common_steps);
      front = search rules;
      nulls = rw (c.from-4.ensures, c.from-2.ensures, c.from-3.ensures) (nulls_after c.self.inside.counts.items
          c.self.inside.items.items c.self.inside.roster c.args.member c.index-count.result.now c.args.item
          there mine (omega (arith, read)) c.self.invariant.nulls);
      spot = search rules;
    }
