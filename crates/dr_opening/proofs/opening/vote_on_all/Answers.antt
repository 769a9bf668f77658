use Rattle.std.proofs.Common.{◌∙◌, sym, subst, arith, ℕ}
use Rattle.dr_opening.specs.Logs.{ComeBelow, GotVote, LacksVote}
use Rattle.dr_opening.proofs.Placing.{none_come, one_more, still_there, stops_here}
use Rattle.dr_opening.proofs.opening.vote_on_all.Goals as goal

pub loop-m-init : goal.loop-m-init
loop-m-init g c = none_come (GotVote g.D.Disk.told g.D.Disk.faults c.args.start.now) c.args.logs.now

pub vote_at-requires-clause-whole : goal.vote_at-requires-clause-whole
vote_at-requires-clause-whole g c κs h = λ log at. c.requires.whole c.loop-m.m log
    (sym (still_there (GotVote g.D.Disk.told g.D.Disk.faults c.args.start.now) c.args.logs.now c.loop-m.logs c.loop-m.m
    c.index-logs-m.result c.loop-m.invariant (omega (arith, c.loop-m-test.true, c.loop-m.invariant.all))) ∙ at)

pub loop-m-preserved : goal.loop-m-preserved
loop-m-preserved g c =
    one_more (GotVote g.D.Disk.told g.D.Disk.faults c.args.start.now) c.args.logs.now c.loop-m.logs c.loop-m.m
    c.index-logs-m.result c.vote_at.new.place c.loop-m.invariant
    (omega (arith, c.loop-m-test.true, c.loop-m.invariant.all)) c.in_default.ensures.voted

pub returns-in-Err-clause-stopped : goal.returns-in-Err-clause-stopped
returns-in-Err-clause-stopped g c = stops_here (GotVote g.D.Disk.told g.D.Disk.faults c.args.start.now)
    (λ old new. LacksVote g.D.Disk.told g.D.Disk.faults c.args.start.now old new c.in-Err.why) c.args.logs.now
    c.loop-m.logs c.loop-m.m c.index-logs-m.result c.vote_at.new.place c.loop-m.invariant
    (omega (arith, c.loop-m-test.true, c.loop-m.invariant.all)) c.in-Err.ensures.stuck

pub returns-clause-voted : goal.returns-clause-voted
returns-clause-voted g c = subst (λ (n : ℕ). ComeBelow (GotVote g.D.Disk.told g.D.Disk.faults c.args.start.now)
    c.args.logs.now c.loop-m.logs n) (omega (arith, c.loop-m-test.false, c.loop-m.auto.m-end)) c.loop-m.invariant
