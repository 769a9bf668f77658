use Rattle.std.proofs.Common.{◌≡◌, length, map}
use Rattle.dr_live.specs.Live.{AreReadyFor, calm_yard}
use Rattle.dr_live.proofs.live.run_live.Given as goal

abbrev pub invariant-loop : goal.invariant-loop
invariant-loop g l = record {
  given : l.senders.given ≡ map g.A.App.left l.fn.apps.items;
  all : length l.senders.taken ≡ l.plan.members;
  count : length l.group.ages.items ≡ l.counter;
  ready : AreReadyFor l.plan l.senders.taken l.group.ages.items (calm_yard l.group.yard);
}
