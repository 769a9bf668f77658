use Rattle.std.proofs.Common.{◌≡◌, ℕ, ◌<◌, ◌≤◌, ◌⊎◌, length, slice_index_or}
use Rattle.dr_entry.specs.declared.entry.Item.TheVariants.{Null}
use Rattle.dr_replica.proofs.items.Items.renew.Given as goal

abbrev pub invariant-loop-place : goal.invariant-loop-place
invariant-loop-place l = record {
  members : l.self-inside.members ≡ l.initial.self-inside.members;
  roster : l.self-inside.roster ≡ l.initial.self-inside.roster;
  most : l.self-inside.most ≡ l.initial.self-inside.most;
  counts : l.self-inside.counts ≡ l.initial.self-inside.counts;
  long : length l.self-inside.items.items ≡ length l.initial.self-inside.items.items;
  nulls : (k : ℕ) → (k < l.place) ⊎ (l.used ≤ k) → slice_index_or l.self-inside.items.items k Null ≡ Null;
}
