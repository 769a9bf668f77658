use Rattle.std.{specs.List.Sorted.IsPartitionPoint, proofs.Common.{leb, rules, tests, subst, List, ◌≡◌, true, false}}
use Rattle.std.proofs.lemmas.List.Sorted.{IsPartitionPoint-from_clause, IsPartitionedBy-leb}
use Rattle.dr_store.specs.declared.changes.Change.{Change}
use Rattle.dr_store.proofs.changes.Changes.count_to.Goals as goal

pub returns-clause-parted : goal.returns-clause-parted
returns-clause-parted c =
    let cs = c.self.inside.changes.items in let v = c.args.version in
    let parted = rw c.as_slice.ensures.value at c.partition_point.ensures.partitioned in
    subst (λ (xs : List Change). IsPartitionPoint (λ (change : Change). leb change.version v ≡ true)
    (λ (change : Change). leb change.version v ≡ false) xs c.partition_point.result) c.self.view_is
    (IsPartitionPoint-from_clause (λ (change : Change). leb change.version v) cs c.partition_point.result
    parted (IsPartitionedBy-leb (λ (change : Change). change.version) cs v c.self.invariant)
    (λ a r q k. search (rules, tests)))
