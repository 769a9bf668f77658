use Rattle.std.specs.declared.alloc.AllocError.{AllocError}
use Rattle.std.proofs.Common.{◌≡◌, ◌++◌, OnOk, Result, Some, ap, refl, string_bytes, subst}
use Rattle.dr_seeing.specs.{Output.Written, declared.output.Trouble.TheVariants.Memory}
use Rattle.dr_seeing.proofs.Outputs.{settled_flushed, settled_wanting}
use Rattle.dr_seeing.proofs.output.Output.settle.Goals as goal

pub returns-in-Ok-2 : goal.returns-in-Ok-2
returns-in-Ok-2 g c = λ text before none same calm waits.
    settled_flushed text before c.args.self.now c.flush.new.self none c.requires same calm
    (subst (λ (r : Result (Unit {0}) AllocError). OnOk r (c.args.self.now.waiting ≡ before.waiting ++ text))
    c.in-Ok-2.is waits) c.flush.ensures.tells

pub returns-in-Err : goal.returns-in-Err
returns-in-Err g c = λ text before none same calm waits. settled_wanting text before c.args.self.now (record {
  held = g.K.Sink.held c.self-in-Err.inside.sink;
  faults = g.K.Sink.faults c.self-in-Err.inside.sink;
  waiting = string_bytes c.self-in-Err.inside.waiting;
  trouble = Some Memory;
}) none same calm (ap (λ (w : Written). w.held) c.self-in-Err.view_is)
    (ap (λ (w : Written). w.faults) c.self-in-Err.view_is) refl
