-- The arrays in messages.
use Rattle.std.{specs.{List.list_all, Prelude.{◌==◌, ◌&&◌, is_some}}, proofs.Common.{◌≡◌, ℕ, List, length, map, refl}}
use Rattle.std.proofs.lemmas.List.{length-map, Folds.list_all-map}
use Rattle.serde_json.specs.{View.view, declared.value.Value.Value}
use Rattle.dr_script.specs.{Json.list_of, Rules.are_lists}

-- as many arrays as members, by the values of an array
pub are_lists_map : (members : ℕ) (vs : List Value) → are_lists members (map view vs)
    ≡ ((length vs == members) && list_all (λ v. is_some (list_of (view v))) vs)
are_lists_map members vs = rw (length-map, list_all-map) refl
