-- The places of a script's text, and the rules that are broken at them.
use Rattle.std.specs.{Fmt.decimal, List.concat}
use Rattle.std.specs.Prelude.{ℕ, ◌+◌, List, [], ◌∷◌, ◌++◌, Bool, if◌then◌else◌, codes, Option, Some, None}
use Rattle.dr_script.specs.declared.passage.{Broken.Broken, Passage.Passage}
use Rattle.dr_script.specs.declared.passage.Passage.TheVariants.{Whole, Members, Window, Turns, Patience, Ages, Messages, Texts, Text, Faults, Fault, Schedule}

-- the path of a place, from the whole text down
abbrev pub path_text : Passage → List ℕ
path_text Whole = codes "/"
path_text Members = codes "/members"
path_text Window = codes "/window"
path_text Turns = codes "/turns"
path_text Patience = codes "/patience"
path_text Ages = codes "/ages"
path_text Messages = codes "/messages"
path_text (Texts member) = concat (codes "/messages/" ∷ decimal member ∷ [])
path_text (Text member index) =
    concat (codes "/messages/" ∷ decimal member ∷ codes "/" ∷ decimal index ∷ [])
path_text Faults = codes "/faults"
path_text (Fault index) = concat (codes "/faults/" ∷ decimal index ∷ [])
path_text Schedule = codes "/schedule"

-- the place, where the test fails
abbrev pub unless : Bool → Passage → List Passage
unless test place = if test then [] else place ∷ []

-- the places that the elements give, in order, numbered from n
abbrev pub each_from : {A : Type 0} → ℕ → (ℕ → A → List Passage) → List A → List Passage
each_from n places [] = []
each_from n places (x ∷ xs) = places n x ++ each_from (n + 1) places xs

-- the places that the elements give, in order, numbered from 0
abbrev pub each : {A : Type 0} → (ℕ → A → List Passage) → List A → List Passage
each = each_from 0

-- the rule, broken at the first of these places
abbrev pub broken_at : ℕ → List Passage → Option Broken
broken_at rule [] = None
broken_at rule (place ∷ places) = Some (record { rule = rule; place = place })

-- the first where there is one, and the second else
abbrev pub or_else : {A : Type 0} → Option A → Option A → Option A
or_else None second = second
or_else (Some x) second = Some x
