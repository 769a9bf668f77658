-- Scripts of which some faults and messages are left out.
use Rattle.std.specs.List.{enumerate_from, flat_map}
use Rattle.std.specs.Prelude.{ℕ, Bool, true, if◌then◌else◌, List, [], ◌∷◌, drop, length, slice_get, unwrap_or}
use Rattle.dr_script.specs.declared.script.Script.{Script}

-- whether the part with this number stays, by what is said of the parts in turn
abbrev pub stays : List Bool → ℕ → Bool
stays keeps n = unwrap_or (slice_get keeps n) true

-- those elements that stay
abbrev pub kept : {A : Type 0} → List Bool → List A → List A
kept keeps xs = flat_map (λ t. if stays keeps t.0 then t.1 ∷ [] else []) (enumerate_from 0 xs)

-- those elements of lists that stay
abbrev pub kept_lists : {A : Type 0} → List Bool → List (List A) → List (List A)
kept_lists keeps [] = []
kept_lists keeps (l ∷ ls) = kept keeps l ∷ kept_lists (drop (length l) keeps) ls

-- the script with those of its faults, and behind them of its messages, that stay
abbrev pub kept_parts : List Bool → Script → Script
kept_parts keeps s = record s {
  faults = kept keeps s.faults;
  messages = kept_lists (drop (length s.faults) keeps) s.messages;
}
