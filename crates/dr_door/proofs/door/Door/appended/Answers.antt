use Rattle.std.proofs.Common.{◌∙◌, ap, subst, sym}
use Rattle.dr_member.specs.Deeds.{is_append}
use Rattle.dr_program.specs.Running.{Running, next_deed}
use Rattle.dr_door.{specs.{Inside.{IsKept, door_inside}, Lone.Lone}, proofs.{Deeds.went_is, Kept.kept_append}}
use Rattle.dr_door.proofs.door.Door.appended.Goals as goal

pub invariant_of-self : goal.invariant_of-self
invariant_of-self c = record {
  form = c.appended.ensures.form;
  kept = subst (λ (x : Running). IsKept x.replica c.self.inside.words.items) (sym (c.appended.ensures.after 0))
      (kept_append c.self.inside.member c.self.inside.words.items c.self.invariant.form c.self.invariant.kept
      (ap (λ (d : Lone). is_append (next_deed d.member)) c.self.view_is ∙ sym c.appends.ensures ∙ c.if-not-appends.false));
}

pub returns-clause-done : goal.returns-clause-done
returns-clause-done c = (
  sym c.appends.ensures ∙ c.if-not-appends.false,
  went_is (door_inside c.self.inside) c.args.self.now c.appended.new.self c.self.view_is c.appended.ensures.after,
)
