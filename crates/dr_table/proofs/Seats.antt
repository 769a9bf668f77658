-- The hands of the seats, as one of these changes.
use Rattle.std.specs.Prelude.{Some, option_map, slice_get, slice_set}
use Rattle.std.proofs.{Common.{◌≡◌, refl, ap, ◌∙◌, ℕ, zero, suc, List, [], ◌∷◌, ◌++◌}, lemmas.Option.slice_get-map}
use Rattle.dr_entry.proofs.ListPlaces.{set_again}
use Rattle.dr_table.specs.{Rule.hands, declared.rule.View.View}

pub hands_get : (views : List View) (id : ℕ) (v : View) → slice_get views id ≡ Some v
    → slice_get (hands views) id ≡ Some v.members
hands_get views id v is =
    slice_get-map (λ (w : View). w.members) views id ∙ ap (option_map (λ (w : View). w.members)) is

pub hands_set : (views : List View) (id : ℕ) (w : View)
    → hands (slice_set views id w) ≡ slice_set (hands views) id w.members
hands_set [] id w = refl
hands_set (v ∷ vs) zero w = refl
hands_set (v ∷ vs) (suc id) w = ap (λ hs. v.members ∷ hs) (hands_set vs id w)

pub hands_behind : (views : List View) (w : View) → hands (views ++ w ∷ []) ≡ hands views ++ w.members ∷ []
hands_behind [] w = refl
hands_behind (v ∷ vs) w = ap (λ hs. v.members ∷ hs) (hands_behind vs w)

-- a seat that keeps its members leaves the hands
pub hands_same : (views : List View) (id : ℕ) (v w : View) → slice_get views id ≡ Some v
    → w.members ≡ v.members → hands (slice_set views id w) ≡ hands views
hands_same views id v w is same = hands_set views id w ∙ ap (slice_set (hands views) id) same
    ∙ set_again (hands views) id v.members (hands_get views id v is)
