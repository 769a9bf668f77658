use Rattle.std.{specs.Prelude.vec_capacity, proofs.Common.{◌≡◌, ◌≤◌, replicate}}
use Rattle.dr_entry.specs.declared.entry.Item.TheVariants.{Null}
use Rattle.dr_replica.proofs.items.nulls.Given as goal

abbrev pub invariant-loop : goal.invariant-loop
invariant-loop l = record { items : l.items.items ≡ replicate l.counter Null; room : l.count ≤ vec_capacity l.items }
