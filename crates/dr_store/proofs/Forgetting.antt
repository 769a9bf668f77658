-- A table from which what is not needed was dropped.
use Rattle.std.specs.{List.{AllByRecursion, Sorted.IsStrictlySortedBy}, Map.{keys_of, lookup, Calls.RetainsPairs}}
use Rattle.std.specs.{Option.unwrap_or, Ordering.is_eq, Prelude.{None, Some, All, Vec}, declared.alloc.Global.Global}
use Rattle.std.specs.declared.cmp.Ordering.TheVariants.{Less}
use Rattle.std.proofs.Common.{◌≡◌, ℕ, ◌≤◌, Bool, true, false, cond, List, [], ◌∷◌, refl, ap, sym, subst, ◌∙◌}
use Rattle.std.specs.FinMap as maps
use Rattle.dr_entry.proofs.{BoolFacts.equal, ListFacts.{by_bytes, is_key}, PlainFacts.same_key}
use Rattle.dr_store.specs.{Stock.value_by, Tables.{KeyTable, IsInOrder, changes_of}, declared.changes.Change.Change}
use Rattle.dr_store.proofs.Tables.{changes_found}

-- of the changes of a key those were dropped that no version from this one on needs
pub record Thinned (below : ℕ) (old new : List Change) : Type 0 where
  pub same : (v : ℕ) → below ≤ v → value_by v new ≡ value_by v old
  pub fewer : (n : ℕ) → All (λ c. c.version ≤ n) old → All (λ c. c.version ≤ n) new

-- each key of a table kept what it needs, and was dropped where that is nothing
abbrev pub AreThinned : ℕ → KeyTable → KeyTable → Type 0
AreThinned below [] kept = kept ≡ []
AreThinned below (e ∷ es) kept = (b : Bool) × (w : List Change) × (rest : KeyTable)
    × Thinned below e.1 w × (b ≡ false → w ≡ []) × AreThinned below es rest × (kept ≡ cond b ((e.0, w) ∷ rest) rest)

-- what the calls of a test tell that stays as it is
pub thinned-retain : {F : Type 0} (below : ℕ) (D : F → Vec ℕ Global → List Change → Bool → List Change → F
    → Type 0) (f : F) → ((k : Vec ℕ Global) (v : List Change) (b : Bool) (w : List Change) (g : F)
    → D f k v b w g → ((u : ℕ) → below ≤ u → value_by u w ≡ value_by u v) × ((n : ℕ)
    → All (λ c. c.version ≤ n) v → All (λ c. c.version ≤ n) w) × (b ≡ false → w ≡ []) × (g ≡ f))
    → (es kept : KeyTable) → RetainsPairs D f es kept → AreThinned below es kept
thinned-retain below D f each [] kept r = r
thinned-retain below D f each (e ∷ es) kept r =
    let so = each e.0 e.1 r.0 r.1 r.2 r.4 in (
      r.0,
      r.1,
      r.3,
      record { same = so.0; fewer = so.1 },
      so.2,
      thinned-retain below D f each es r.3 (subst (λ g. RetainsPairs D g es r.3) so.3 r.5),
      r.6,
    )

-- an entry that was kept or not under another key
dropped : (q : List ℕ) (k : Vec ℕ Global) (b : Bool) (w : List Change) (rest : KeyTable) → is_key q k ≡ false
    → lookup (is_key q) (cond b ((k, w) ∷ rest) rest) ≡ lookup (is_key q) rest
dropped q k true w rest f = ap (λ x. cond x (Some w) (lookup (is_key q) rest)) f
dropped q k false w rest f = refl

-- a key that was not there is not there
absent_still : (below : ℕ) (q : List ℕ) (es kept : KeyTable) → AreThinned below es kept
    → lookup (is_key q) es ≡ None → lookup (is_key q) kept ≡ None
absent_still below q [] kept t none = ap (lookup (is_key q)) t
absent_still below q (e ∷ es) kept t none = elim (is_key q e.0) as (λ b. is_key q e.0 ≡ b → cond b
    (Some e.1) (lookup (is_key q) es) ≡ None → lookup (is_key q) kept ≡ None) [
      | true ↦ λ _ no. absurd (cc no)
      | false ↦ λ f no. ap (lookup (is_key q)) t.6 ∙ dropped q e.0 t.0 t.1 t.2 f ∙ absent_still below q es t.2 t.5 no
    ] refl none

-- a key below all others isn't among them
below_absent : (k : List ℕ) (es : KeyTable)
    → AllByRecursion (λ (y : Vec ℕ Global). by_bytes k y.items ≡ Less) (keys_of es) → lookup (is_key k) es ≡ None
below_absent k [] below = refl
below_absent k (e ∷ es) below = ap (λ r. cond (is_eq r) (Some e.1) (lookup (is_key k) es)) below.0
    ∙ below_absent k es below.1

nothing : (below : ℕ) → Thinned below [] []
nothing below = record { same = λ v later. refl; fewer = λ n all. all }

-- what is left of the changes of each key
thinned_at : (below : ℕ) (q : List ℕ) (es kept : KeyTable)
    → IsStrictlySortedBy (λ (x y : Vec ℕ Global). by_bytes x.items y.items) (keys_of es) → AreThinned below es kept
    → Thinned below (unwrap_or (lookup (is_key q) es) []) (unwrap_or (lookup (is_key q) kept) [])
unfolding IsStrictlySortedBy
thinned_at below q [] kept sorted t = subst (λ x. Thinned below [] (unwrap_or (lookup (is_key q) x) []))
    (sym t) (nothing below)
thinned_at below q (e ∷ es) kept sorted t = elim (is_key q e.0) as (λ b. is_key q e.0 ≡ b → Thinned below
    (unwrap_or (cond b (Some e.1) (lookup (is_key q) es)) []) (unwrap_or (lookup (is_key q) kept) [])) [
      | true ↦ λ at. subst (λ x. Thinned below e.1 (unwrap_or (lookup (is_key q) x) [])) (sym t.6) (here at t.0 t.4)
      | false ↦ λ f. subst (λ x. Thinned below (unwrap_or (lookup (is_key q) es) []) (unwrap_or x []))
          (sym (ap (lookup (is_key q)) t.6 ∙ dropped q e.0 t.0 t.1 t.2 f)) (thinned_at below q es t.2 sorted.1 t.5)
    ] refl
  where
    here : is_key q e.0 ≡ true → (b : Bool) → (b ≡ false → t.1 ≡ [])
        → Thinned below e.1 (unwrap_or (lookup (is_key q) (cond b ((e.0, t.1) ∷ t.2) t.2)) [])
    here at true left =
        subst (λ x. Thinned below e.1 (unwrap_or (cond x (Some t.1) (lookup (is_key q) t.2)) [])) (sym at) t.3
    here at false left =
        let is = sym (same_key q e.0.items (equal _ at)) in
        let absent = ap (λ k. lookup (is_key k) es) (sym is) ∙ below_absent e.0.items es sorted.0 in
        subst (λ x. Thinned below e.1 x) (left refl
        ∙ ap (λ x. unwrap_or x []) (sym (absent_still below q es t.2 t.5 absent))) t.3

-- the same of maps
pub thinned_map : (below : ℕ) (es kept : KeyTable) → IsInOrder es → IsInOrder kept
    → IsStrictlySortedBy (λ (x y : Vec ℕ Global). by_bytes x.items y.items) (keys_of es)
    → AreThinned below es kept → (q : List ℕ)
    → Thinned below (unwrap_or (maps.get (changes_of es) q) []) (unwrap_or (maps.get (changes_of kept) q) [])
thinned_map below es kept here still sorted t q =
    subst (λ x. Thinned below x (unwrap_or (maps.get (changes_of kept) q) [])) (sym (changes_found es q _ here refl))
    (subst (λ x. Thinned below (unwrap_or (lookup (is_key q) es) []) x)
    (sym (changes_found kept q _ still refl)) (thinned_at below q es kept sorted t))
