use Rattle.std.{specs.Prelude.{max, slice_set}, proofs.Common.{◌<◌, ◌∙◌, ap, arith, length, subst, sym}}
use Rattle.dr_entry.proofs.ListPlaces.{found}
use Rattle.dr_door.{specs.{Coming.refusal, Inside.{IsKept, door_inside}, Lone.Lone}, proofs.Kept.kept_coming}
use Rattle.dr_door.proofs.door.Door.came.Goals as goal

pub invariant_of-self : goal.invariant_of-self
invariant_of-self c =
    let words = c.self.inside.words.items in
    let within : c.args.index < length words =
    omega (arith, c.judge.ensures.place c.in_default.is, ap (λ (d : Lone). length d.words) c.self.view_is) in
    record {
      form = c.self.invariant.form;
      kept = subst (λ w. IsKept c.self.inside.member.replica (slice_set words c.args.index w)) (sym (c.max.ensures
          ∙ ap (λ w. max w c.args.word) (found words c.args.index c.index-stands.result.now within c.index-stands.ensures)))
          (kept_coming (door_inside c.self.inside) c.args.index c.args.word c.self.invariant.form.replica c.self.invariant.kept within
          (ap (λ (d : Lone). refusal d c.args.index c.args.word) c.self.view_is ∙ sym c.judge.ensures.why
          ∙ c.in_default.is));
    }
