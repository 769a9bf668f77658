use Rattle.std.{specs.List.list_all, proofs.Common.{◌≡◌, ◌==◌, drop, length, slice_index}}
use Rattle.dr_history.specs.Order.{messages_from}
use Rattle.dr_program.specs.Replica.{holds_all}
use Rattle.dr_replica.proofs.replica.Replica.holds_all.Given as goal

abbrev pub invariant-loop-member : goal.invariant-loop-member
invariant-loop-member l = list_all (λ s. length (messages_from s l.self.history) == slice_index l.self.totals s)
    (drop l.member-index l.member-items) ≡ holds_all l.self
