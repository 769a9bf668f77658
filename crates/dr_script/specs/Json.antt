-- Looking into JSON text.
use Rattle.std.specs.{List.{list_all, list_any}, Option.option_map_or, Str.{is_utf8, bytes_eq}}
use Rattle.std.specs.Prelude.{ℕ, List, [], ◌∷◌, Bool, false, ◌&&◌, nat_le, nat_lt, if◌then◌else◌, Option, Some, None, is_some, option_map, option_and_then, unwrap_or}
use Rattle.serde_json.specs.Data.{Data, Items, no_items, item, Members, no_members, member}
use Rattle.serde_json.specs.{Find.{get, as_number, as_u64, as_array, as_object}, Read.read}

infixl 10 ◌>>=◌
-- what the second step makes of what the first one gave
abbrev pub ◌>>=◌ : {A B : Type 0} → Option A → (A → Option B) → Option B
o >>= f = option_and_then f o

-- x, where the test holds
abbrev pub only_if : {A : Type 0} → Bool → A → Option A
only_if test x = if test then Some x else None

-- the value that these bytes are, where they are UTF-8 and JSON
abbrev pub json_of : List ℕ → Option Data
json_of bytes = if is_utf8 bytes then read bytes else None

-- the elements of an array, in order
abbrev pub elements : Items → List Data
elements no_items = []
elements (item d ds) = d ∷ elements ds

-- the keys of an object
abbrev pub keys : Members → List (List ℕ)
keys no_members = []
keys (member key d ms) = key ∷ keys ms

-- a name is one of these
abbrev pub is_among : List (List ℕ) → List ℕ → Bool
is_among names key = list_any (λ name. bytes_eq name key) names

-- the value is an object, and each of its keys is one of these names
abbrev pub has_only : List (List ℕ) → Data → Bool
has_only names d = option_map_or (λ ms. list_all (is_among names) (keys ms)) (as_object d) false

-- each of these names is a key of the value
abbrev pub has_every : List (List ℕ) → Data → Bool
has_every names d = list_all (λ name. is_some (get name d)) names

-- the value is an object whose keys are exactly these names
abbrev pub has_exactly : List (List ℕ) → Data → Bool
has_exactly names d = has_only names d && has_every names d

-- the elements of the array that a value is
abbrev pub list_of : Data → Option (List Data)
list_of d = option_map elements (as_array d)

-- the elements of the array at a key
abbrev pub list_at : List ℕ → Data → Option (List Data)
list_at key d = get key d >>= list_of

-- the elements of a value, none where it is no array
abbrev pub elements_of : Data → List Data
elements_of d = unwrap_or (list_of d) []

-- the whole number that a value is
abbrev pub whole_of : Data → Option ℕ
whole_of d = as_number d >>= as_u64

-- a number from low to high
abbrev pub within : ℕ → ℕ → ℕ → Option ℕ
within low high n = only_if (nat_le low n && nat_le n high) n

-- a number below a limit
abbrev pub below : ℕ → ℕ → Option ℕ
below limit n = only_if (nat_lt n limit) n

-- the whole number at a key, from low to high
abbrev pub number_at : List ℕ → ℕ → ℕ → Data → Option ℕ
number_at key low high d = get key d >>= whole_of >>= within low high

-- the whole number at a key, below a limit
abbrev pub number_below : List ℕ → ℕ → Data → Option ℕ
number_below key limit d = get key d >>= whole_of >>= below limit

-- the two whole numbers of a list of two
abbrev pub pair_in : List Data → Option (ℕ × ℕ)
pair_in (first ∷ second ∷ []) = whole_of first >>= (λ m. option_map (λ n. (m, n)) (whole_of second))
pair_in _ = None

-- the two whole numbers of the array of two at a key
abbrev pub pair_at : List ℕ → Data → Option (ℕ × ℕ)
pair_at key d = list_at key d >>= pair_in
