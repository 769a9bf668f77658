-- What a scan finds is what stands in the contents.
use Rattle.std.specs.{Cmp.Lexicographic.nat_list_cmp_total, Option.unwrap_or, declared.cmp.Ordering.TheVariants.Equal}
use Rattle.std.specs.{FinMap.Entries.{below_all, is_sorted-where_key, find-where_key, same_entries}, Ordering.is_eq}
use Rattle.std.specs.List.{cons_option, starts_with}
use Rattle.std.specs.Prelude.{Option, None, Some, filter, filter_map, nat_eq, option_map}
use Rattle.std.proofs.Common.{◌≡◌, ℕ, Bool, true, false, cond, List, [], ◌∷◌, refl, ap, sym, ◌∙◌}
use Rattle.std.specs.FinMap as maps
use Rattle.dr_entry.proofs.{BoolFacts.{holds, equal, first, second, not_equal, true_of}, ListFacts.by_bytes}
use Rattle.dr_entry.proofs.{NumberFacts.both, PlainFacts.same_key}
use Rattle.dr_store.specs.{Commands.Contents, Stock.{Stock, begun_with, found_at, value_by, value_at, values_at}}
use Rattle.dr_store.specs.declared.changes.Change.{Change}

-- a key with its value at a version
with_value : ℕ → List ℕ × List Change → Option (List ℕ × List ℕ)
with_value v e = option_map (λ value. (e.0, value)) (value_by v e.1)

-- all keys with a value at a version
abbrev valued : ℕ → List (List ℕ × List Change) → List (List ℕ × List ℕ)
valued v es = filter_map (with_value v) es

-- those of them whose keys pass a test
found_valued : (prefix : List ℕ) (v : ℕ) (es : List (List ℕ × List Change))
    → filter_map (found_at prefix v) es ≡ filter (λ e. starts_with nat_eq e.0 prefix) (valued v es)
unfolding with_value
found_valued prefix v [] = refl
found_valued prefix v (e ∷ es) = elim (value_by v e.1) as
    (λ x. cons_option (cond (starts_with nat_eq e.0 prefix) (option_map (λ value. (e.0, value)) x) None)
    (filter_map (found_at prefix v) es) ≡ filter (λ e. starts_with nat_eq e.0 prefix)
    (cons_option (option_map (λ value. (e.0, value)) x) (valued v es))) [
      | None ↦ skipped (starts_with nat_eq e.0 prefix) ∙ found_valued prefix v es
      | Some x ↦ taken (starts_with nat_eq e.0 prefix) (e.0, x) _ _ (found_valued prefix v es)
    ]
  where
    skipped : (b : Bool) → cons_option (cond b None None) (filter_map (found_at prefix v) es) ≡ filter_map
        (found_at prefix v) es
    skipped true = refl
    skipped false = refl

    taken : (b : Bool) (x : List ℕ × List ℕ) (xs ys : List (List ℕ × List ℕ)) → xs ≡ ys
        → cons_option (cond b (Some x) None) xs ≡ cond b (x ∷ ys) ys
    taken true x xs ys same = ap (λ rest. x ∷ rest) same
    taken false x xs ys same = same

below_valued : (v : ℕ) (k : List ℕ) (es : List (List ℕ × List Change)) → below_all by_bytes k es ≡ true
    → below_all by_bytes k (valued v es) ≡ true
unfolding with_value
below_valued v k [] below = refl
below_valued v k (e ∷ es) below =
    let rest = below_valued v k es (second _ _ below) in
    elim (value_by v e.1) as
    (λ x. below_all by_bytes k (cons_option (option_map (λ value. (e.0, value)) x) (valued v es)) ≡ true) [
      | None ↦ rest
      | Some x ↦ both _ _ (holds (first _ _ below)) (holds rest)
    ]

-- they are in order
sorted_valued : (v : ℕ) (es : List (List ℕ × List Change)) → maps.is_sorted by_bytes es ≡ true
    → maps.is_sorted by_bytes (valued v es) ≡ true
unfolding with_value
sorted_valued v [] sorted = refl
sorted_valued v (e ∷ es) sorted =
    let rest = sorted_valued v es (second _ _ sorted) in
    elim (value_by v e.1) as
    (λ x. maps.is_sorted by_bytes (cons_option (option_map (λ value. (e.0, value)) x) (valued v es))
    ≡ true) [ None ↦ rest | Some x ↦ both _ _ (holds (below_valued v e.0 es (first _ _ sorted))) (holds rest) ]

find_below : (q : List ℕ) (es : List (List ℕ × List Change)) → below_all by_bytes q es ≡ true
    → maps.find by_bytes q es ≡ None
find_below q [] below = refl
find_below q (e ∷ es) below = ap (λ b. cond b (Some e.1) (maps.find by_bytes q es)) (not_equal _ (first _ _ below))
    ∙ find_below q es (second _ _ below)

-- what is found of them at a key is its value
find_valued : (v : ℕ) (q : List ℕ) (es : List (List ℕ × List Change)) → maps.is_sorted by_bytes es ≡ true
    → maps.find by_bytes q (valued v es) ≡ value_by v (unwrap_or (maps.find by_bytes q es) [])
unfolding with_value
find_valued v q [] sorted = refl
find_valued v q (e ∷ es) sorted =
    let rest = find_valued v q es (second _ _ sorted) in
    elim (is_eq (by_bytes q e.0)) as (λ b. is_eq (by_bytes q e.0) ≡ b
    → maps.find by_bytes q (cons_option (option_map (λ value. (e.0, value)) (value_by v e.1))
    (valued v es)) ≡ value_by v (unwrap_or (cond b (Some e.1) (maps.find by_bytes q es)) [])) [
      | true ↦ λ at. elim (value_by v e.1) as
          (λ x. maps.find by_bytes q (cons_option (option_map (λ value. (e.0, value)) x) (valued v es)) ≡ x) [
            | None ↦ rest ∙ ap (λ x. value_by v (unwrap_or x [])) (ap (λ k. maps.find by_bytes k es)
                (same_key q e.0 (equal _ at)) ∙ find_below e.0 es (first _ _ sorted))
            | Some x ↦ ap (λ b. cond b (Some x) (maps.find by_bytes q (valued v es))) at
          ]
      | false ↦ λ apart. elim (value_by v e.1) as
          (λ x. maps.find by_bytes q (cons_option (option_map (λ value. (e.0, value)) x) (valued v es))
          ≡ value_by v (unwrap_or (maps.find by_bytes q es) [])) [
            | None ↦ rest
            | Some x ↦ ap (λ b. cond b (Some x) (maps.find by_bytes q (valued v es))) apart ∙ rest
          ]
    ] refl

-- what a store finds is what stands in contents that give the same values
pub values_in : (s : Stock) (prefix : List ℕ) (v : ℕ) (m : Contents)
    → ((key : List ℕ) → value_at s key v ≡ maps.get m key) → values_at s prefix v ≡ begun_with prefix m
values_in s prefix v m gives =
    let es = maps.entries s.changes in let sorted = true_of _ (maps.entries_sorted s.changes) in
    let begins : List ℕ → Bool = λ key. starts_with nat_eq key prefix in
    let tied : (q x : List ℕ) → by_bytes q x ≡ Equal → begins x ≡ begins q =
    λ q x tie. ap begins (sym (same_key q x tie)) in
    found_valued prefix v es ∙ same_entries by_bytes nat_list_cmp_total same_key (filter (λ e. begins e.0)
    (valued v es)) (maps.entries (maps.retain_keys m begins)) (is_sorted-where_key by_bytes begins
    (valued v es) (holds (sorted_valued v es sorted))) (maps.entries_sorted (maps.retain_keys m begins))
    (λ q. find-where_key by_bytes begins q (tied q) (valued v es) ∙ ap (λ x. cond (begins q) x None)
    (find_valued v q es sorted ∙ ap (λ x. value_by v (unwrap_or x [])) (sym (maps.get-entries s.changes q)) ∙ gives q)
    ∙ sym (maps.get-retain_keys m begins q (tied q)) ∙ maps.get-entries (maps.retain_keys m begins) q)

-- two stores that give the same values find the same
pub values_alike : (one other : Stock) (prefix : List ℕ) (v : ℕ)
    → ((key : List ℕ) → value_at one key v ≡ value_at other key v) → values_at one prefix v ≡ values_at other prefix v
values_alike one other prefix v alike =
    let here = maps.entries one.changes in let there = maps.entries other.changes in
    let sorted = true_of _ (maps.entries_sorted one.changes) in let sorted' =
    true_of _ (maps.entries_sorted other.changes) in
    found_valued prefix v here ∙ ap (filter (λ e. starts_with nat_eq e.0 prefix))
    (same_entries by_bytes nat_list_cmp_total same_key (valued v here) (valued v there)
    (holds (sorted_valued v here sorted)) (holds (sorted_valued v there sorted')) (λ q. find_valued v q here sorted
    ∙ ap (λ x. value_by v (unwrap_or x [])) (sym (maps.get-entries one.changes q)) ∙ alike q
    ∙ ap (λ x. value_by v (unwrap_or x [])) (maps.get-entries other.changes q) ∙ sym (find_valued v q there sorted')))
    ∙ sym (found_valued prefix v there)
