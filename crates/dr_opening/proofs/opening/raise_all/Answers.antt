use Rattle.std.proofs.Common.{◌∙◌, sym, subst, arith, ℕ}
use Rattle.dr_opening.specs.Logs.{ComeBelow, GotStart, LacksStart}
use Rattle.dr_opening.proofs.Placing.{none_come, one_more, still_there, stops_here}
use Rattle.dr_opening.proofs.opening.raise_all.Goals as goal

pub loop-m-init : goal.loop-m-init
loop-m-init g c = none_come (GotStart g.D.Disk.told g.D.Disk.faults c.args.start.now) c.args.logs.now

pub raise_at-requires-clause-ready : goal.raise_at-requires-clause-ready
raise_at-requires-clause-ready g c κs h = λ log at. c.requires.ready c.loop-m.m log
    (sym (still_there (GotStart g.D.Disk.told g.D.Disk.faults c.args.start.now) c.args.logs.now c.loop-m.logs c.loop-m.m
    c.index-logs-m.result c.loop-m.invariant (omega (arith, c.loop-m-test.true, c.loop-m.invariant.all))) ∙ at)

pub loop-m-preserved : goal.loop-m-preserved
loop-m-preserved g c =
    one_more (GotStart g.D.Disk.told g.D.Disk.faults c.args.start.now) c.args.logs.now c.loop-m.logs c.loop-m.m
    c.index-logs-m.result c.raise_at.new.place c.loop-m.invariant
    (omega (arith, c.loop-m-test.true, c.loop-m.invariant.all)) c.in_default.ensures.raised

pub returns-in-Err-clause-stopped : goal.returns-in-Err-clause-stopped
returns-in-Err-clause-stopped g c = stops_here (GotStart g.D.Disk.told g.D.Disk.faults c.args.start.now)
    (λ old new. LacksStart g.D.Disk.told g.D.Disk.faults c.args.start.now old new c.in-Err.why) c.args.logs.now
    c.loop-m.logs c.loop-m.m c.index-logs-m.result c.raise_at.new.place c.loop-m.invariant
    (omega (arith, c.loop-m-test.true, c.loop-m.invariant.all)) c.in-Err.ensures.stuck

pub returns-clause-raised : goal.returns-clause-raised
returns-clause-raised g c = subst (λ (n : ℕ). ComeBelow (GotStart g.D.Disk.told g.D.Disk.faults c.args.start.now)
    c.args.logs.now c.loop-m.logs n) (omega (arith, c.loop-m-test.false, c.loop-m.auto.m-end)) c.loop-m.invariant
