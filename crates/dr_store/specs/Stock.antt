-- What a store keeps, what it answers, and which histories it stands for.
use Rattle.std.specs.{Cmp.Lexicographic.slice_cmp, Coded.{Coded, code_by, coded×, coded_list, coded_option, coded_ℕ}}
use Rattle.std.specs.{List.starts_with, Option.unwrap_or, Ordering.nat_cmp}
use Rattle.std.specs.Prelude.{refl, ◌≡◌, ℕ, ◌≤◌, nat_le, nat_lt, nat_eq, if◌then◌else◌, List, [], length, filter_map, fold, All, Option, None, Some, option_map}
use Rattle.std.specs.FinMap as map
use Rattle.dr_entry.specs.declared.entry.Entry.{Entry}
use Rattle.dr_store.specs.{Commands.{Contents, contents, messages}, declared.changes.Change.Change}
use Rattle.dr_store.specs.declared.fault.AtFault.{AtFault, TheVariants.{Ahead, Forgotten}}

-- the changes of each key, in their order
abbrev pub ChangesByKey : Type 0
ChangesByKey = map.FinMap (slice_cmp nat_cmp) (List Change)

-- what a store keeps
pub record Stock : Type 0 where
  pub changes : ChangesByKey
  -- how many messages were applied
  pub version : ℕ
  -- the least version that was not forgotten
  pub oldest : ℕ

-- the value that changes of a key give at a version: that of the last of them up to it
abbrev pub value_by : ℕ → List Change → Option (List ℕ)
value_by v cs = fold (λ value c. if nat_le c.version v then c.value else value) None cs

-- the changes of a key: none where it was never put
abbrev pub changes_at : Stock → List ℕ → List Change
changes_at s key = unwrap_or (map.get s.changes key) []

-- the value of a key at a version
abbrev pub value_at : Stock → List ℕ → ℕ → Option (List ℕ)
value_at s key v = value_by v (changes_at s key)

-- a key with its value at a version, where it begins with the prefix and has one
abbrev pub found_at : List ℕ → ℕ → List ℕ × List Change → Option (List ℕ × List ℕ)
found_at prefix v e =
    if starts_with nat_eq e.0 prefix then option_map (λ value. (e.0, value)) (value_by v e.1) else None

-- the keys that begin with a prefix and have a value at a version, ascending, each with its value
abbrev pub values_at : Stock → List ℕ → ℕ → List (List ℕ × List ℕ)
values_at s prefix v = filter_map (found_at prefix v) (map.entries s.changes)

-- the keys of some contents that begin with a prefix, ascending, each with its value
abbrev pub begun_with : List ℕ → Contents → List (List ℕ × List ℕ)
begun_with prefix m = map.entries (map.retain_keys m (λ key. starts_with nat_eq key prefix))

-- why a store does not answer at a version
abbrev pub refusal_at : Stock → ℕ → Option AtFault
refusal_at s v =
    if nat_lt s.version v then Some (Ahead s.version)
    else (if nat_lt v s.oldest then Some (Forgotten s.oldest) else None)

-- A store stands for a history: it has the version of all its messages, and at each version that was not
-- forgotten it gives what these make of a store that held nothing.
pub record IsStoreOf (s : Stock) (h : List Entry) : Type 0 where
  pub version : s.version ≡ length (messages h)
  pub gives : (v : ℕ) (key : List ℕ) → s.oldest ≤ v → v ≤ s.version
      → value_at s key v ≡ map.get (contents h v) key

-- nothing was forgotten that did not come, and no change has a version that did not
pub record HasNothingLater (s : Stock) : Type 0 where
  pub come : s.oldest ≤ s.version
  pub up_to : (key : List ℕ) → All (λ c. c.version ≤ s.version) (changes_at s key)

-- a change is stored as its two parts
abbrev pub change_code : Coded Change
change_code = code_by (ℕ × Option (List ℕ)) (coded× coded_ℕ (coded_option (coded_list coded_ℕ)))
    (λ c. (c.version, c.value)) (λ p. record { version = p.0; value = p.1 }) (λ _. refl)

-- a stock is stored as its three parts
abbrev pub stock_code : Coded Stock
stock_code = code_by (ChangesByKey × (ℕ × ℕ))
    (coded× (map.code {R = slice_cmp nat_cmp} (coded_list coded_ℕ) (coded_list change_code))
    (coded× coded_ℕ coded_ℕ))
    (λ s. (s.changes, (s.version, s.oldest)))
    (λ p. record { changes = p.0; version = p.1.0; oldest = p.1.1 }) (λ _. refl)
