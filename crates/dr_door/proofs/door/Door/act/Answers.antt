use Rattle.std.{specs.Prelude.slice_set, proofs.Common.{◌∙◌, ap, refl, subst, sym}}
use Rattle.dr_program.specs.Running.{Running, next_deed}
use Rattle.dr_door.{specs.{Inside.{IsKept, door_inside}, Lone.Lone}, proofs.{Deeds.acted_is, Kept.kept_act}}
use Rattle.dr_door.proofs.door.Door.act.Goals as goal

pub invariant_of-self : goal.invariant_of-self
invariant_of-self c = record {
  form = c.acted.ensures.form;
  kept = subst (λ (x : Running). IsKept x.replica (slice_set c.self.inside.words.items c.args.index c.args.word))
      (sym (c.acted.ensures.after 0)) (kept_act c.self.inside.member c.self.inside.words.items c.args.index c.args.word
      c.self.invariant.form c.self.invariant.kept
      (ap (λ (d : Lone). next_deed d.member) c.self.view_is ∙ c.requires.due));
}

pub returns-clause-after : goal.returns-clause-after
returns-clause-after c = acted_is (door_inside c.self.inside) c.args.self.now c.acted.new.self c.args.index c.args.word
    (slice_set c.self.inside.words.items c.args.index c.args.word) c.self.view_is c.requires.due
    (c.acted.ensures.after 0) refl
