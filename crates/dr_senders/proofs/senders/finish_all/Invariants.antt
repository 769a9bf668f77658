use Rattle.std.proofs.Common.{◌≡◌, All, List, ℕ}
use Rattle.dr_entry.specs.Messages.{IsMessage}
use Rattle.dr_senders.specs.Senders.{HaveGrown, given_in, taken_in}
use Rattle.dr_senders.proofs.senders.finish_all.Given as goal

abbrev pub invariant-loop-sender : goal.invariant-loop-sender
invariant-loop-sender g l = record {
  all : l.lists.items ≡ given_in g.A.App.left l.yielded;
  grown : HaveGrown (taken_in l.yielded) l.lists.items;
  fit : All (λ (list : List (List ℕ)). All IsMessage list) l.lists.items;
}
