-- Scripts of which all stays.
use Rattle.std.specs.List.{enumerate_from, flat_map}
use Rattle.std.proofs.Common.{◌≡◌, ◌∙◌, refl, ap, subst, sym, ℕ, zero, suc, ◌+◌, arith, Bool, true, Global, if◌then◌else◌, List, [], ◌∷◌, drop, length, Result, Ok, Err, IfOk, String, string_bytes}
use Rattle.dr_json.specs.Json.{script_json}
use Rattle.dr_script.specs.declared.script.Script.{Script}
use Rattle.dr_tools.specs.{Outcomes.TextEndsSo, Parts.{kept, kept_lists, kept_parts, stays}}
use Rattle.dr_tools.specs.Shrinking.{EndsSoWith, IsSmaller}

-- everything stays
abbrev pub AllStay : List Bool → Type 0
AllStay keeps = (n : ℕ) → stays keeps n ≡ true

stays_behind : (n : ℕ) (keeps : List Bool) (k : ℕ) → stays (drop n keeps) k ≡ stays keeps (n + k)
stays_behind zero keeps k = let same : k ≡ zero + k = omega arith in ap (stays keeps) same
stays_behind (suc n) [] k = refl
stays_behind (suc n) (b ∷ bs) k =
    let same : suc (n + k) ≡ suc n + k = omega arith in stays_behind n bs k ∙ ap (stays (b ∷ bs)) same

drop_stays : (keeps : List Bool) (n : ℕ) → AllStay keeps → AllStay (drop n keeps)
drop_stays keeps n all k = stays_behind n keeps k ∙ all (n + k)

kept_from : {A : Type 0} (keeps : List Bool) (n : ℕ) (xs : List A) → AllStay keeps
    → flat_map (λ t. if stays keeps t.0 then t.1 ∷ [] else []) (enumerate_from n xs) ≡ xs
kept_from keeps n [] all = refl
kept_from keeps n (x ∷ xs) all = rw (all n) (ap (λ ys. x ∷ ys) (kept_from keeps (n + 1) xs all))

pub all_kept : {A : Type 0} (keeps : List Bool) (xs : List A) → AllStay keeps → kept keeps xs ≡ xs
all_kept keeps xs all = kept_from keeps 0 xs all

pub all_lists_kept : {A : Type 0} (keeps : List Bool) (ls : List (List A)) → AllStay keeps → kept_lists keeps ls ≡ ls
all_lists_kept keeps [] all = refl
all_lists_kept keeps (l ∷ ls) all =
    let rest = all_lists_kept (drop (length l) keeps) ls (drop_stays keeps (length l) all) in
    let own = all_kept keeps l all in λ i. own i ∷ rest i

-- the script is the whole one
pub all_parts_kept : (keeps : List Bool) (s : Script) → AllStay keeps → kept_parts keeps s ≡ s
all_parts_kept keeps s all =
    let faults = all_kept keeps s.faults all in
    let lists = all_lists_kept (drop (length s.faults) keeps) s.messages (drop_stays keeps (length s.faults) all) in
    λ i. record s { faults = faults i; messages = lists i }

-- the text of what is left of a script that ends so
pub smaller_if : {E : Type 0} (r : Result (String Global) E) (script fewer : Script) (late : ℕ) (wanted : List ℕ)
    (keeps given : List Bool) → given ≡ keeps → fewer ≡ kept_parts given script
    → EndsSoWith script late wanted keeps → IfOk r (λ text. string_bytes text ≡ script_json fewer)
    → IfOk r (λ text. IsSmaller script late wanted (string_bytes text))
smaller_if (Ok text) script fewer late wanted keeps given same cut ends is =
    let whole : string_bytes text ≡ script_json (kept_parts keeps script) =
    is ∙ ap script_json (cut ∙ ap (λ (k : List Bool). kept_parts k script) same) in
    record {
      keeps = keeps;
      cut = whole;
      ends = subst (λ (t : List ℕ). TextEndsSo t late wanted true) (sym whole) ends;
    }
smaller_if (Err e) script fewer late wanted keeps given same cut ends is = tt
