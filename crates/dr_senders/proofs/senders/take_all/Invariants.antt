use Rattle.std.proofs.Common.{◌≡◌, length}
use Rattle.dr_senders.specs.Senders.{HaveGrown, given_in, taken_in}
use Rattle.dr_senders.proofs.senders.take_all.Given as goal

abbrev pub invariant-loop-m : goal.invariant-loop-m
invariant-loop-m g l = record {
  all : length l.senders ≡ length l.fn.senders;
  given : given_in g.A.App.left l.senders ≡ given_in g.A.App.left l.fn.senders;
  grown : HaveGrown (taken_in l.fn.senders) (taken_in l.senders);
}
