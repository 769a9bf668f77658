-- How a store reads its table.
use Rattle.std.specs.{Bool.IsTrue, Cmp.Lexicographic.slice_cmp, Option.unwrap_or, Ordering.nat_cmp}
use Rattle.std.specs.{Prelude.{ℕ, List, [], ◌∷◌, ◌++◌, map, Option, None, Some, Vec}, declared.alloc.Global.Global}
use Rattle.std.specs.FinMap as maps
use Rattle.dr_store.specs.{Commands.StoreCommand, Stock.ChangesByKey, declared.changes.Change.Change}

-- the table of a store: its keys with their changes
abbrev pub KeyTable : Type 0
KeyTable = List (Vec ℕ Global × List Change)

-- its entries, each key as its bytes
abbrev pub listed : KeyTable → List (List ℕ × List Change)
listed es = map (λ e. (e.0.items, e.1)) es

-- the keys ascend
abbrev pub IsInOrder : KeyTable → Type 0
IsInOrder es = IsTrue (maps.is_sorted (slice_cmp nat_cmp) (listed es))

-- the table as a map
abbrev pub changes_of : KeyTable → ChangesByKey
changes_of es = maps.from_sorted (listed es)

-- the map with one more change of a key
abbrev pub with_change : ChangesByKey → List ℕ → Change → ChangesByKey
with_change m key c = maps.insert m key (unwrap_or (maps.get m key) [] ++ c ∷ [])

-- the map with what a message asks for at this version
abbrev pub with_command : ChangesByKey → ℕ → Option StoreCommand → ChangesByKey
with_command m n None = m
with_command m n (Some (key, value)) = with_change m key (record { version = n; value = value })
