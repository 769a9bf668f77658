-- What the changes of a key give at a version: the last of those up to it decides.
use Rattle.std.specs.{List.{AllWithin, Sorted.IsPartitionPoint}, Prelude.{Option, None, is_some}}
use Rattle.std.proofs.Common.{◌≡◌, ℕ, zero, suc, ◌+◌, ◌-◌, ◌≤◌, ◌<◌, true, false, cond, leb, List, [], ◌∷◌, ◌++◌, length, get_or, drop, fold, refl, ap, subst, sym, ◌∙◌, arith, get_or-drop, length-drop}
use Rattle.std.proofs.lemmas.Bool.{leb-true, le-leb}
use Rattle.dr_entry.proofs.OptionFacts.{no_value}
use Rattle.dr_store.specs.{Stock.value_by, declared.changes.Change.Change}

-- the value after a change
abbrev pub turned : ℕ → Option (List ℕ) → Change → Option (List ℕ)
turned v value c = cond (leb c.version v) c.value value

-- changes above the version change nothing
pub turned-above : (v : ℕ) (x : Option (List ℕ)) (cs : List Change)
    → AllWithin (λ c. leb c.version v ≡ false) cs 0 (length cs) → fold (turned v) x cs ≡ x
turned-above v x [] above = refl
turned-above v x (c ∷ cs) above = ap (λ b. fold (turned v) (cond b c.value x) cs) (above 0 c
    (omega arith) (omega arith)) ∙ turned-above v x cs (λ k d low high. above (suc k) d (omega arith) (omega arith))

-- a change up to the version decides
pub turned-at : (v : ℕ) (x : Option (List ℕ)) (cs : List Change) (j : ℕ) (d : Change) → j < length cs
    → leb (get_or cs j d).version v ≡ true
    → fold (turned v) x cs ≡ fold (turned v) (get_or cs j d).value (drop (suc j) cs)
turned-at v x [] j d within up_to = absurd (omega arith)
turned-at v x (c ∷ cs) zero d within up_to = ap (λ b. fold (turned v) (cond b c.value x) cs) up_to
turned-at v x (c ∷ cs) (suc j) d within up_to = turned-at v (turned v x c) cs j d (omega arith) up_to

-- what stands before it is not needed
pub turned-drop : (v : ℕ) (x y : Option (List ℕ)) (cs : List Change) (j : ℕ) (d : Change) → j < length cs
    → leb (get_or cs j d).version v ≡ true → fold (turned v) y (drop j cs) ≡ fold (turned v) x cs
turned-drop v x y [] j d within up_to = absurd (omega arith)
turned-drop v x y (c ∷ cs) zero d within up_to = ap (λ b. fold (turned v) (cond b c.value y) cs) up_to
    ∙ sym (ap (λ b. fold (turned v) (cond b c.value x) cs) up_to)
turned-drop v x y (c ∷ cs) (suc j) d within up_to = turned-drop v (turned v x c) y cs j d (omega arith) up_to

-- a change behind the others
pub given-push : (v : ℕ) (x : Option (List ℕ)) (cs : List Change) (c : Change)
    → fold (turned v) x (cs ++ c ∷ []) ≡ turned v (fold (turned v) x cs) c
given-push v x [] c = refl
given-push v x (d ∷ cs) c = given-push v (turned v x d) cs c

-- where there are none, no value is value_by
pub given-none : (v : ℕ) (cs : List Change) → AllWithin (λ c. leb c.version v ≡ false) cs 0 (length cs)
    → value_by v cs ≡ None
given-none v cs above = turned-above v None cs above

-- the last of them gives the value
pub given-last : (v : ℕ) (cs : List Change) (j : ℕ) (d : Change) → j < length cs
    → AllWithin (λ c. leb c.version v ≡ true) cs 0 (j + 1)
    → AllWithin (λ c. leb c.version v ≡ false) cs (j + 1) (length cs) → value_by v cs ≡ (get_or cs j d).value
given-last v cs j d within below above = turned-at v None cs j d within (below j d (omega arith) (omega arith))
    ∙ turned-above v (get_or cs j d).value (drop (suc j) cs) (λ k e low high. subst (λ x. leb x.version v ≡ false)
    (sym (get_or-drop (suc j) cs k e)) (above (suc j + k) e (omega arith) (omega (arith, length-drop (suc j) cs))))

-- changes up to a version are up to each later one
pub still_up_to : (below v : ℕ) (c : Change) → below ≤ v → leb c.version below ≡ true → leb c.version v ≡ true
still_up_to below v c later up_to = le-leb c.version v (omega (arith, leb-true c.version below up_to))

-- from a version on, none but the last of those up to it is needed
pub given-from_last : (below v : ℕ) (cs : List Change) (j : ℕ) (d : Change) → below ≤ v → j < length cs
    → leb (get_or cs j d).version below ≡ true → value_by v (drop j cs) ≡ value_by v cs
given-from_last below v cs j d later within up_to =
    turned-drop v None None cs j d within (still_up_to below v (get_or cs j d) later up_to)

-- nor that one, where it gives no value
pub given-behind_last : (below v : ℕ) (cs : List Change) (j : ℕ) (d : Change) → below ≤ v → j < length cs
    → leb (get_or cs j d).version below ≡ true → (get_or cs j d).value ≡ None
    → value_by v (drop (suc j) cs) ≡ value_by v cs
given-behind_last below v cs j d later within up_to none = ap (λ x. fold (turned v) x (drop (suc j) cs)) (sym none)
    ∙ sym (turned-at v None cs j d within (still_up_to below v (get_or cs j d) later up_to))

-- what the last of the first n changes is worth, where these are the ones up to the version
pub given-counted : (v : ℕ) (cs : List Change) (n : ℕ) (d : Change) → n ≤ length cs → (n ≡ 0 → ⊥)
    → IsPartitionPoint (λ c. leb c.version v ≡ true) (λ c. leb c.version v ≡ false) cs n
    → d ≡ get_or cs (n - 1) d → value_by v cs ≡ d.value
given-counted v cs n d few some parted is = given-last v cs (n - 1) d (omega arith) (λ k e low high. parted.0 k e low
    (omega arith)) (λ k e low high. parted.1 k e (omega arith) high) ∙ ap (λ c. c.value) (sym is)

-- the last of the first n changes is one of those up to the version
pub counted : (v : ℕ) (cs : List Change) (n : ℕ) (d : Change) → n ≤ length cs → (n ≡ 0 → ⊥)
    → IsPartitionPoint (λ c. leb c.version v ≡ true) (λ c. leb c.version v ≡ false) cs n
    → leb (get_or cs (n - 1) d).version v ≡ true
counted v cs n d few some parted = parted.0 (n - 1) d (omega arith) (omega arith)

-- what is left where the last of the first n changes gives no value, and no version needs it
pub given-behind_counted : (below v : ℕ) (cs : List Change) (n : ℕ) (d : Change) → below ≤ v → n ≤ length cs
    → (n ≡ 0 → ⊥) → leb (get_or cs (n - 1) d).version below ≡ true → d ≡ get_or cs (n - 1) d
    → is_some d.value ≡ false → value_by v (drop n cs) ≡ value_by v cs
given-behind_counted below v cs n d later few some up_to is none =
    let counts : n ≡ suc (n - 1) = omega arith in
    ap (λ k. value_by v (drop k cs)) counts ∙ given-behind_last below v cs
    (n - 1) d later (omega arith) up_to (ap (λ c. c.value) (sym is) ∙ no_value d.value none)
