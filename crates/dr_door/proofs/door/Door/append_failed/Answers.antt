use Rattle.std.proofs.Common.{subst, sym}
use Rattle.dr_program.specs.Running.{Running}
use Rattle.dr_door.specs.Inside.{IsKept}
use Rattle.dr_door.proofs.door.Door.append_failed.Goals as goal

pub invariant_of-self : goal.invariant_of-self
invariant_of-self c = record {
  form = c.append_failed.ensures.form;
  kept = subst (λ (x : Running). IsKept x.replica c.self.inside.words.items) (sym c.append_failed.ensures.after)
      c.self.invariant.kept;
}
