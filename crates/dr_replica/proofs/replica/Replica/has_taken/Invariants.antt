use Rattle.std.{specs.{List.list_all, Prelude.{nat_lt, slice_index}}, proofs.Common.{◌≡◌, ◌+◌, drop}}
use Rattle.dr_program.specs.Replica.{count}
use Rattle.dr_replica.specs.Rests.{has_taken}
use Rattle.dr_replica.proofs.replica.Replica.has_taken.Given as goal

abbrev pub invariant-loop-member : goal.invariant-loop-member
invariant-loop-member l = list_all (λ s. nat_lt (slice_index l.trim s) (count l.self s + 1))
    (drop l.member-index l.member-items) ≡ has_taken l.self l.trim
