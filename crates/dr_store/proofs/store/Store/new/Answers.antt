use Rattle.std.proofs.Common.{ap, sym, subst, []}
use Rattle.std.specs.FinMap as maps
use Rattle.dr_entry.proofs.ListFacts.{by_bytes}
use Rattle.dr_store.specs.{Stock.{ChangesByKey, HasNothingLater, Stock, IsStoreOf}, Tables.{KeyTable, listed}}
use Rattle.dr_store.proofs.{Standing.{kept-new, stands-new}, Tables.changes_none}
use Rattle.dr_store.proofs.store.Store.new.Goals as goal

fresh : ChangesByKey → Stock
fresh m = record { changes = m; version = 0; oldest = 0 }

pub invariant_of-result : goal.invariant_of-result
unfolding fresh
invariant_of-result c = (
  ap (λ (es : KeyTable). maps.is_sorted by_bytes (listed es)) c.new.ensures.empty,
  subst (λ m. HasNothingLater (fresh m)) (sym (changes_none c.new.result.entries c.new.ensures.empty)) kept-new,
)

pub returns-clause-empty : goal.returns-clause-empty
unfolding fresh
returns-clause-empty c = ap fresh (changes_none c.new.result.entries c.new.ensures.empty)

pub returns-clause-stands : goal.returns-clause-stands
unfolding fresh
returns-clause-stands c = subst (λ s. IsStoreOf s []) (sym (returns-clause-empty c)) stands-new
