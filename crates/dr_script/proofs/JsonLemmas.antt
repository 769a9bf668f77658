-- Which value of JSON bytes are, and the elements and keys of its arrays and objects.
use Rattle.std.specs.{List.list_all, Map.keys_of, Str.{IsUtf8, is_utf8}, declared.alloc.Global.Global}
use Rattle.std.proofs.Common.{◌≡◌, ℕ, Bool, true, false, cond, List, [], ◌∷◌, Option, Some, None, refl, ap, String, string_bytes, ◌&&◌, suc, length}
use Rattle.std.proofs.lemmas.Str.{is_utf8-from_IsUtf8, IsUtf8-from_is_utf8}
use Rattle.serde_json.specs.{Data.Data, Read.read, View.{items_of, members_view}, declared.value.Value.Value}
use Rattle.dr_script.specs.Json.{json_of, elements, keys}

-- bytes that are UTF-8 are the value that is read
pub json_of_text : (bytes : List ℕ) (d : Data) → IsUtf8 bytes → read bytes ≡ Some d → json_of bytes ≡ Some d
json_of_text bytes d text is = rw (is_utf8-from_IsUtf8 bytes text) is

none_either_way : (test : Bool) (o : Option Data) → (test ≡ true → o ≡ None) → cond test o None ≡ None
none_either_way true o refused = refused refl
none_either_way false o refused = refl

-- bytes of which nothing is read where they are UTF-8 are no value
pub json_of_none : (bytes : List ℕ) → (IsUtf8 bytes → read bytes ≡ None) → json_of bytes ≡ None
json_of_none bytes refused = none_either_way (is_utf8 bytes) (read bytes)
    (λ is. refused (IsUtf8-from_is_utf8 bytes is))

-- the elements of an array are those that it was made of
pub elements_of_items : (ds : List Data) → elements (items_of ds) ≡ ds
elements_of_items [] = refl
elements_of_items (d ∷ ds) = ap (λ es. d ∷ es) (elements_of_items ds)

-- a test of each key of an object is a test of each key of the map that holds it
pub all_keys : (test : List ℕ → Bool) (entries : List (String Global × Value))
    → list_all test (keys (members_view entries)) ≡ list_all (λ key. test (string_bytes key)) (keys_of entries)
all_keys test [] = refl
all_keys test (e ∷ entries) = ap (λ rest. test (string_bytes e.0) && rest) (all_keys test entries)

-- an object has as many keys as the map that holds it
pub count_of_keys : (entries : List (String Global × Value)) → length (keys (members_view entries)) ≡ length entries
count_of_keys [] = refl
count_of_keys (e ∷ entries) = ap suc (count_of_keys entries)
