use Rattle.std.proofs.Common.{◌≡◌, refl, sym, ap, ◌∙◌}
use Rattle.dr_program.{specs.{Acts.taken, Replica.{Replica, acted}}, proofs.Keeps.taken_other}
use Rattle.dr_program.proofs.Replicas.{form_to, grown_to}
use Rattle.dr_form.proofs.Keeps.{taken_grown, taken_keeps}
use Rattle.dr_replica.proofs.replica.Replica.take.Goals as goal
use Rattle.dr_replica.proofs.replica.Replica.take.Goals.{After-stamp}

after : (c : After-stamp) → c.stamp.new.self ≡ taken c.args.self.now c.args.act
after c = c.stamp.ensures ∙ ap acted c.carry_out.ensures
    ∙ sym (taken_other c.args.self.now c.args.act c.in_default.not-Finish)

pub returns-in_default : goal.returns-in_default
returns-in_default c = record {
  after = after c;
  grown = λ same. grown_to c.args.self.now c.stamp.new.self c.args.self.now (taken c.args.self.now c.args.act) refl
      (after c) (taken_grown c.args.self.now c.args.act c.me.ensures.form c.requires.may
      (sym (ap (λ (r : Replica). r.view) (after c)) ∙ same));
  form = form_to c.stamp.new.self (taken c.args.self.now c.args.act) (after c)
      (taken_keeps c.args.self.now c.args.act c.me.ensures.form c.requires.may c.requires.free);
}
