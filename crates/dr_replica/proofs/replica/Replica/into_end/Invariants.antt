use Rattle.std.{specs.Prelude.vec_capacity, proofs.Common.{◌≡◌, ◌≤◌, ◌++◌, map}}
use Rattle.dr_program.specs.Program.{sent_before}
use Rattle.dr_replica.specs.Lefts.{left_of}
use Rattle.dr_replica.proofs.replica.Replica.into_end.Given as goal

abbrev pub invariant-loop-left : goal.invariant-loop-left
invariant-loop-left l = record {
  next : (goal.iterator-loop-left).can_next l.left-iterator;
  finite : (goal.iterator-loop-left).is_finite l.left-iterator;
  told : l.sent.items ≡ sent_before 0 (map left_of l.yielded);
  all : map left_of (l.yielded ++ l.left-iterator.rest.items) ≡ l.fn.self.left;
  room : l.fn.self.banks ≤ vec_capacity l.sent;
}
