use Rattle.std.{specs.Prelude.{IfSome, Option}, proofs.Common.{◌∙◌, sym, ap, subst, arith, ℕ}}
use Rattle.dr_disk.specs.{Calls.Sync, Disk.{Told, added, content_of}, Images.{Goes, ReadsAnImage}}
use Rattle.dr_io.specs.Faults.{Rose}
use Rattle.dr_log.specs.Standing.{KeepsRecords}
use Rattle.dr_log_bytes.specs.Grammar.{IsDamaged}
use Rattle.dr_ages.proofs.{Loans.{was_mounted, was_refused}, Staying.alike_same}
use Rattle.dr_ages.proofs.lending.mount.Goals as goal

pub returns-in-Err-clause-stopped : goal.returns-in-Err-clause-stopped
returns-in-Err-clause-stopped g c =
    let m = c.args.member in
    let count = g.Y.Store.Disk.faults in
    was_refused m (g.Y.Yard.told c.args.yard.now m) (g.Y.Yard.told c.give_back.new.self m)
    (g.Y.Yard.faults c.args.yard.now m) (g.Y.Yard.faults c.give_back.new.self m) c.in-Err.fault.why c.of_mount.result
    c.of_mount.ensures.memory c.of_mount.ensures.disk c.of_mount.ensures.damaged (λ e. subst
    (λ (n : ℕ). Rose n (g.Y.Yard.faults c.give_back.new.self m)) (c.in-Ok.ensures.count ∙ c.in-Ok.ensures.cause.calm)
    (subst (Rose (count c.in-Ok.disk)) (sym c.give_back.ensures.counted) (c.in-Err.ensures.fault e))) (λ at e. subst
    (λ (o : Option Told). IfSome o ReadsAnImage) c.in-Ok.ensures.told (c.in-Err.ensures.read_damaged at e))
    (λ at e. subst (λ (o : Option Told). IfSome o (λ t. IsDamaged (content_of t) at)) c.in-Ok.ensures.told
    (c.in-Err.ensures.damaged at e))
    (λ at e. c.give_back.ensures.told ∙ (c.in-Err.ensures.left_damaged at e ∙ ap (added Sync) c.in-Ok.ensures.told))
    (λ other. c.give_back.ensures.counted
    ∙ (c.in-Err.ensures.calm_err other ∙ (c.in-Ok.ensures.count ∙ c.in-Ok.ensures.cause.calm)))

pub returns-in-Ok-mount-clause-mounted : goal.returns-in-Ok-mount-clause-mounted
returns-in-Ok-mount-clause-mounted g c =
    let m = c.args.member in
    let is = c.in-Ok-mount.ensures in
    was_mounted g.Y.Store.Disk.told g.Y.Store.Disk.faults (g.Y.Yard.told c.args.yard.now m)
    (g.Y.Yard.faults c.args.yard.now m) c.in-Ok.disk c.in-Ok-mount.log c.in-Ok.ensures.told is.read is.records
    is.durable is.least is.limit is.whole is.any_moment
    (is.faults ∙ (c.in-Ok.ensures.count ∙ c.in-Ok.ensures.cause.calm)) is.calls

pub returns-in-Err-clause-on : goal.returns-in-Err-clause-on
returns-in-Err-clause-on g c =
    let m = c.args.member in
    let old : Option Told = g.Y.Yard.told c.args.yard.now m in
    let new : Option Told = g.Y.Yard.told c.give_back.new.self m in
    record {
      moments = subst (λ (o : Option Told). Goes o new KeepsRecords) c.in-Ok.ensures.told
          (subst (λ (o : Option Told). Goes (g.Y.Store.Disk.told c.in-Ok.disk) o KeepsRecords)
          (sym c.give_back.ensures.told) c.in-Err.ensures.any_moment_err);
      later = omega (
        arith,
        c.give_back.ensures.counted,
        c.in-Err.ensures.faults_err,
        c.in-Ok.ensures.count,
        c.in-Ok.ensures.cause.later,
      );
    }

pub returns-in_default-clause-on : goal.returns-in_default-clause-on
returns-in_default-clause-on g c =
    let m = c.args.member in
    alike_same (g.Y.Yard.told c.args.yard.now m) (g.Y.Yard.told c.lend.new.self m) (g.Y.Yard.faults c.args.yard.now m)
    (g.Y.Yard.faults c.lend.new.self m) c.in_default.ensures.kept.1 c.in_default.ensures.cause.later
