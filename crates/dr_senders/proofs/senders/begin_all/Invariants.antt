use Rattle.std.proofs.Common.{◌≡◌, map}
use Rattle.dr_senders.specs.Senders.{given_in}
use Rattle.dr_senders.proofs.senders.begin_all.Given as goal

abbrev pub invariant-loop-app : goal.invariant-loop-app
invariant-loop-app g l = given_in g.A.App.left l.senders.items ≡ map g.A.App.left l.yielded
