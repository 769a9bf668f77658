-- Scripts of which less is left.
use Rattle.std.specs.Prelude.{ℕ, ◌+◌, ◌-◌, ◌*◌, ◌==◌, min, if◌then◌else◌, List, [], ◌∷◌, ◌++◌, drop, length, slice_get, take, unwrap_or}
use Rattle.dr_script.specs.declared.script.{Fault.Fault, Script.Script, What.{What, TheVariants.{Crash, Suspect}}}

-- the limit with this number, and 0 behind the last one
abbrev pub limit : List ℕ → ℕ → ℕ
limit limits n = unwrap_or (slice_get limits n) 0

-- what happens no later than in this turn, where it is a crash, before this push
abbrev pub earlier : ℕ → ℕ → What → What
earlier turn push (Crash t p) = Crash (min turn t) (min push p)
earlier turn push (Suspect t other) = Suspect (min turn t) other

-- a fault no later than before this turn, and than before this push: none where this is 0
abbrev pub limited_fault : ℕ → ℕ → Fault → List Fault
limited_fault bound push f = if bound == 0 then [] else record f { what = earlier (bound - 1) push f.what } ∷ []

-- faults by two limits each
abbrev pub limited_faults : List ℕ → List Fault → List Fault
limited_faults limits [] = []
limited_faults limits (f ∷ fs) =
    limited_fault (limit limits 0) (limit limits 1) f ++ limited_faults (drop 2 limits) fs

-- a text that is shorter than this: none where it is 0
abbrev pub limited_text : ℕ → List ℕ → List (List ℕ)
limited_text bound text = if bound == 0 then [] else take (bound - 1) text ∷ []

-- texts by a limit each
abbrev pub limited_texts : List ℕ → List (List ℕ) → List (List ℕ)
limited_texts limits [] = []
limited_texts limits (text ∷ texts) = limited_text (limit limits 0) text ++ limited_texts (drop 1 limits) texts

abbrev pub limited_lists : List ℕ → List (List (List ℕ)) → List (List (List ℕ))
limited_lists limits [] = []
limited_lists limits (l ∷ ls) = limited_texts limits l ∷ limited_lists (drop (length l) limits) ls

-- the script of which no more is left than these limits let, in turn of its turns, of its faults and of its messages
abbrev pub limited : List ℕ → Script → Script
limited limits s = record s {
  turns = min (limit limits 0) s.turns;
  faults = limited_faults (drop 1 limits) s.faults;
  messages = limited_lists (drop (2 * length s.faults) (drop 1 limits)) s.messages;
}

-- ---- the least limits that let all of it

abbrev pub turn_of : What → ℕ
turn_of (Crash turn push) = turn
turn_of (Suspect turn other) = turn

abbrev pub push_of : What → ℕ
push_of (Crash turn push) = push
push_of (Suspect turn other) = 0

abbrev pub faults_limits : List Fault → List ℕ
faults_limits [] = []
faults_limits (f ∷ fs) = (turn_of f.what + 1) ∷ push_of f.what ∷ faults_limits fs

abbrev pub texts_limits : List (List ℕ) → List ℕ
texts_limits [] = []
texts_limits (text ∷ texts) = (length text + 1) ∷ texts_limits texts

abbrev pub lists_limits : List (List (List ℕ)) → List ℕ
lists_limits [] = []
lists_limits (l ∷ ls) = texts_limits l ++ lists_limits ls

abbrev pub limits_of : Script → List ℕ
limits_of s = s.turns ∷ faults_limits s.faults ++ lists_limits s.messages
