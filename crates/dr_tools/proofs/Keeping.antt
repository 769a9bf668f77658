-- One part more of those that stay.
use Rattle.std.proofs.Common.{◌≡◌, subst, ℕ, ◌+◌, ◌<◌, Bool, if◌then◌else◌, List, [], ◌∷◌, ◌++◌, get_or, length, take}
use Rattle.dr_entry.proofs.ListFacts.{numbered_texts_more}
use Rattle.dr_tools.specs.Parts.{kept, stays}

pub kept_more : {A : Type 0} (keeps : List Bool) (xs : List A) (i : ℕ) (keep : Bool) (x : A) (now new : List A)
    → i < length xs → x ≡ get_or xs i x → keep ≡ stays keeps i → now ≡ kept keeps (take i xs)
    → new ≡ now ++ (if keep then x ∷ [] else []) → new ≡ kept keeps (take (i + 1) xs)
kept_more keeps xs i keep x now new below is stay before after =
    numbered_texts_more (λ t. if stays keeps t.0 then t.1 ∷ [] else []) xs i x [] now new below is before
    (subst (λ (b : Bool). new ≡ now ++ (if b then x ∷ [] else [])) stay after)
