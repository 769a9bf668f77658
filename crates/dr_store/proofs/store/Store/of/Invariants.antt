use Rattle.std.proofs.Common.{◌≡◌, take}
use Rattle.dr_store.specs.Stock.{IsStoreOf}
use Rattle.dr_store.proofs.store.Store.of.Given as goal

abbrev pub invariant-loop-entry : goal.invariant-loop-entry
invariant-loop-entry l = IsStoreOf l.store (take l.entry-index l.history) × (l.store.oldest ≡ 0)
