use Rattle.std.proofs.Common.{◌≡◌, take}
use Rattle.dr_machine.specs.Run.{Run}
use Rattle.dr_world.specs.Held.{its_group, its_world}
use Rattle.dr_world.proofs.world.World.run.Given as goal

abbrev pub invariant-loop-event : goal.invariant-loop-event
invariant-loop-event l = record {
  run : Run (its_group l.fn.self) (its_world l.fn.self) (take l.event-index l.events) (its_world l.self);
  script : l.self.script ≡ l.fn.self.script;
  start : l.self.start ≡ l.fn.self.start;
}
