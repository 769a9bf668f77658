-- A table of verbs as code holds it finds what the table of their words does.
use Rattle.std.specs.{List.find, Prelude.bytes_eq}
use Rattle.std.proofs.Common.{◌≡◌, refl, ℕ, Bool, true, false, if◌then◌else◌, List, [], ◌∷◌, map, Option, Some, option_map, Bor}
use Rattle.dr_commands.specs.{Words.verb_by, declared.words.Verb.Verb}

abbrev pub Held : Type 0
Held = Bor (List ℕ) × Verb

abbrev pub read : Held → List ℕ × Verb
read row = (row.0.now, row.1)

either : (row : Held) (held : Option Held) (found : Option (List ℕ × Verb)) (is : Bool)
    → option_map (λ r. r.1) held ≡ option_map (λ r. r.1) found
    → option_map (λ (r : Held). r.1) (if is then Some row else held)
    ≡ option_map (λ (r : List ℕ × Verb). r.1) (if is then Some (read row) else found)
either row held found true same = refl
either row held found false same = same

pub verb_found : (table : List Held) (word : List ℕ)
    → option_map (λ row. row.1) (find (λ row. bytes_eq row.0.now word) table) ≡ verb_by (map read table) word
verb_found [] word = refl
verb_found (row ∷ rows) word = either row (find (λ r. bytes_eq r.0.now word) rows)
    (find (λ r. bytes_eq r.0 word) (map read rows)) (bytes_eq row.0.now word) (verb_found rows word)
