use Rattle.std.proofs.Common.{◌∙◌}
use Rattle.dr_world.proofs.Taking.{ran_more}
use Rattle.dr_world.proofs.world.World.run.Goals as goal

pub loop-event-preserved : goal.loop-event-preserved
loop-event-preserved c = record {
  run = ran_more c.args.self.now c.loop-event.self c.step.new.self c.args.events.now
      c.loop-event.event-index _ c.loop-event.invariant.script c.loop-event.invariant.start
      c.loop-event-test.true c.step.ensures.event c.loop-event.invariant.run;
  script = c.step.ensures.script ∙ c.loop-event.invariant.script;
  start = c.step.ensures.start ∙ c.loop-event.invariant.start;
}
