-- How a store reads and writes its table.
use Rattle.std.specs.{BTreeMap.insert_entry, List.Sorted.IsStrictlySortedBy, Prelude.{Option, Some, Vec, is_some}}
use Rattle.std.specs.{Cmp.Lexicographic.nat_list_cmp_total, declared.cmp.Ordering.TheVariants.{Less, Equal, Greater}}
use Rattle.std.specs.{FinMap.Entries.{below_all, by_order}, Option.unwrap_or, Ordering.{match_ordering, is_eq, is_lt}}
use Rattle.std.specs.{List.AllByRecursion, Map.{keys_of, lookup, set_value}, declared.alloc.Global.Global}
use Rattle.std.proofs.Common.{◌≡◌, ℕ, true, false, cond, List, [], ◌∷◌, refl, ap, sym, ◌∙◌}
use Rattle.std.specs.FinMap as maps
use Rattle.dr_entry.proofs.{BoolFacts.{holds, equal, shadowed, swapped}, ListFacts.{by_bytes, is_key}}
use Rattle.dr_entry.proofs.{ListPlaces.apart_by, NumberFacts.both, PlainFacts.same_key}
use Rattle.dr_store.specs.{Tables.{KeyTable, listed, IsInOrder, changes_of}, declared.changes.Change.Change}

below_all_listed : (k : Vec ℕ Global) (es : KeyTable)
    → AllByRecursion (λ (y : Vec ℕ Global). by_bytes k.items y.items ≡ Less) (keys_of es)
    → below_all by_bytes k.items (listed es) ≡ true
below_all_listed k [] below = refl
below_all_listed k (e ∷ es) below = both _ _ (holds (ap is_lt below.0)) (holds (below_all_listed k es below.1))

-- the order that a call tells of
pub sorted_listed : (es : KeyTable)
    → IsStrictlySortedBy (λ (x y : Vec ℕ Global). by_bytes x.items y.items) (keys_of es) → IsInOrder es
unfolding IsStrictlySortedBy
sorted_listed [] sorted = refl
sorted_listed (e ∷ es) sorted =
    both _ _ (holds (below_all_listed e.0 es sorted.0)) (holds (sorted_listed es sorted.1))

find_listed : (q : List ℕ) (es : KeyTable) → maps.find by_bytes q (listed es) ≡ lookup (is_key q) es
find_listed q [] = refl
find_listed q (e ∷ es) = ap (cond (is_key q e.0) (Some e.1)) (find_listed q es)

-- what is found at a key
pub get_listed : (es : KeyTable) (q : List ℕ) → IsInOrder es → maps.get (changes_of es) q ≡ lookup (is_key q) es
get_listed es q sorted = maps.get-from_sorted by_bytes (listed es) q (holds sorted) ∙ find_listed q es

module _ (k q : List ℕ) (w : List Change) where
  -- what is found once the changes of a key were written
  found_written : (es : KeyTable) → is_some (lookup (is_key k) es) ≡ true
      → lookup (is_key q) (set_value (is_key k) es w) ≡ cond (is_eq (by_bytes q k)) (Some w) (lookup (is_key q) es)
  found_written [] some = absurd (cc some)
  found_written (e ∷ es) some =
      elim (is_key k e.0) as (λ b. is_key k e.0 ≡ b → is_some (cond b (Some e.1) (lookup (is_key k) es)) ≡ true
      → lookup (is_key q) (cond b ((e.0, w) ∷ es) (e ∷ set_value (is_key k) es w)) ≡ cond
      (is_eq (by_bytes q k)) (Some w) (cond (is_key q e.0) (Some e.1) (lookup (is_key q) es))) [
        | true ↦ λ t _. shadowed (is_key q e.0) (Some w) (Some e.1) (lookup (is_key q) es)
            ∙ ap (λ x. cond (is_eq (by_bytes q x)) (Some w) (cond (is_key q e.0) (Some e.1) (lookup (is_key q) es)))
            (sym (same_key k e.0.items (equal _ t)))
        | false ↦ λ f more. ap (cond (is_key q e.0) (Some e.1)) (found_written es more)
            ∙ swapped (is_key q e.0) (is_eq (by_bytes q k)) _ _ _ (apart_by q k e.0 f)
      ] refl some

listed_insert : (es : KeyTable) (k : Vec ℕ Global) (v : List Change)
    → listed (insert_entry (λ (x y : Vec ℕ Global). by_bytes x.items y.items) es k v) ≡ maps.put by_bytes
    k.items v (listed es)
listed_insert [] k v = refl
listed_insert (e ∷ es) k v = elim (by_bytes k.items e.0.items) as
    (λ r. listed (match_ordering r ((k, v) ∷ e ∷ es) ((e.0, v) ∷ es)
    (e ∷ insert_entry (λ (x y : Vec ℕ Global). by_bytes x.items y.items) es k v)) ≡ by_order r
    ((k.items, v) ∷ listed (e ∷ es)) ((e.0.items, v) ∷ listed es)
    ((e.0.items, e.1) ∷ maps.put by_bytes k.items v (listed es))) [
      | Less ↦ refl
      | Equal ↦ refl
      | Greater ↦ ap (λ rest. (e.0.items, e.1) ∷ rest) (listed_insert es k v)
    ]

-- the map once the changes of a key were written
pub map_written : (es new : KeyTable) (k : List ℕ) (w : List Change) → IsInOrder es → IsInOrder new
    → is_some (lookup (is_key k) es) ≡ true → new ≡ set_value (is_key k) es w
    → changes_of new ≡ maps.insert (changes_of es) k w
map_written es new k w sorted still some is = maps.same_map nat_list_cmp_total same_key _ _
    (λ q. get_listed new q still ∙ ap (lookup (is_key q)) is
    ∙ found_written k q w es some ∙ ap (cond (is_eq (by_bytes q k)) (Some w)) (sym (get_listed es q sorted))
    ∙ sym (maps.get-insert nat_list_cmp_total (changes_of es) k w q))

-- the map once a key with its changes was put in
pub map_inserted : (es new : KeyTable) (k : Vec ℕ Global) (w : List Change) → IsInOrder es → IsInOrder new
    → new ≡ insert_entry (λ (x y : Vec ℕ Global). by_bytes x.items y.items) es k w
    → changes_of new ≡ maps.insert (changes_of es) k.items w
map_inserted es new k w sorted still is = maps.same_entries_map _ _
    (maps.entries-from_sorted by_bytes (listed new) (holds still)
    ∙ ap listed is ∙ listed_insert es k w ∙ sym (maps.entries-insert nat_list_cmp_total (changes_of es) k.items w
    ∙ ap (maps.put by_bytes k.items w) (maps.entries-from_sorted by_bytes (listed es) (holds sorted))))

-- the changes of a key, as they are found
pub changes_found : (es : KeyTable) (key : List ℕ) (x : Option (List Change)) → IsInOrder es
    → lookup (is_key key) es ≡ x → unwrap_or (maps.get (changes_of es) key) [] ≡ unwrap_or x []
changes_found es key x sorted is = ap (λ y. unwrap_or y []) (get_listed es key sorted ∙ is)

-- a table without a key
pub changes_none : (es : KeyTable) → es ≡ [] → changes_of es ≡ maps.empty
changes_none es none = ap changes_of none ∙ maps.same_map nat_list_cmp_total same_key _ _
    (λ q. maps.get-from_sorted by_bytes [] q tt ∙ sym (maps.get-empty by_bytes q))
