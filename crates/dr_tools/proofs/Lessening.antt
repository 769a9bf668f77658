-- Limits that let all of a script, and lesser ones.
use Rattle.std.{specs.List.sum, proofs.{Math.Nat.min-eq_left, lemmas.List.{take_all, Sums.sum_by-set}}}
use Rattle.std.proofs.Common.{◌≡◌, ◌∙◌, refl, sym, subst, ap, ℕ, suc, ◌+◌, ◌-◌, ◌*◌, ◌<◌, ◌==◌, arith, min, true, false, List, [], ◌∷◌, ◌++◌, drop, get_or, length, set, take, MatchOption, Option, None, Some, Bool, Global, String, Result, Ok, Err, IfOk, string_bytes}
use Rattle.dr_script.specs.declared.script.{Fault.Fault, Script.Script, What.{What, TheVariants.{Crash, Suspect}}}
use Rattle.dr_tools.specs.Limits.{earlier, faults_limits, limited, limited_fault, limited_faults, limited_lists, limited_text, limited_texts, limits_of, lists_limits, push_of, texts_limits, turn_of}
use Rattle.dr_tools.specs.{Outcomes.TextEndsSo, Parts.kept_parts, Shrinking.{AreLeast, EndsUnder, IsLeast, IsLeastAt}}
use Rattle.dr_json.specs.Json.{script_json}

-- under less than these limits
pub lesser_under : (script : Script) (late : ℕ) (wanted limits less : List ℕ) (i n : ℕ) → less ≡ set limits i n
    → i < length limits → n < get_or limits i 0 → EndsUnder script late wanted less true
    → EndsUnder script late wanted less true × (sum less < sum limits)
lesser_under script late wanted limits less i n is below fewer ends = (
  ends,
  subst (λ (xs : List ℕ). sum xs < sum limits) (sym is)
      (omega (arith, sum_by-set (λ m. m) limits i n 0 below, fewer)),
)

-- where a limit can be no 0, and if it can't be one less either, it is least
pub least_if : {A : Type 0} (script : Script) (late : ℕ) (wanted limits : List ℕ) (i : ℕ) (Q : A → Type 0)
    (found : Option A) → EndsUnder script late wanted (set limits i 0) false
    → MatchOption found (EndsUnder script late wanted (set limits i (get_or limits i 0 - 1)) false) Q
    → MatchOption found (IsLeastAt script late wanted limits i) Q
least_if script late wanted limits i Q None without is = λ some. (without, is)
least_if script late wanted limits i Q (Some a) without is = is

-- where nothing is found, all of them are
pub least_left : {A : Type 0} (script : Script) (late : ℕ) (wanted limits : List ℕ) (Q : A → Type 0) (found : Option A)
    → ((a : A) → ¬ (found ≡ Some a)) → MatchOption found (AreLeast script late wanted limits) Q
    → AreLeast script late wanted limits
least_left script late wanted limits Q None none is = is
least_left script late wanted limits Q (Some a) none is = absurd (none a refl)

what_whole : (what : What) → earlier (turn_of what) (push_of what) what ≡ what
what_whole (Crash turn push) =
    let turns : min turn turn ≡ turn = min-eq_left (omega arith) in
    let pushes : min push push ≡ push = min-eq_left (omega arith) in λ i. Crash (turns i) (pushes i)
what_whole (Suspect turn other) =
    let turns : min turn turn ≡ turn = min-eq_left (omega arith) in λ i. Suspect (turns i) other

fault_whole : (f : Fault) → limited_fault (turn_of f.what + 1) (push_of f.what) f ≡ f ∷ []
fault_whole f =
    let some : (turn_of f.what + 1 == 0) ≡ false = grind arith in
    let same : turn_of f.what + 1 - 1 ≡ turn_of f.what = omega arith in
    rw some (ap (λ turn. record f { what = earlier turn (push_of f.what) f.what } ∷ []) same
    ∙ ap (λ (what : What). record f { what = what } ∷ []) (what_whole f.what))

faults_whole : (fs : List Fault) (rest : List ℕ) → limited_faults (faults_limits fs ++ rest) fs ≡ fs
faults_whole [] rest = refl
faults_whole (f ∷ fs) rest = ap (λ own. own ++ limited_faults (faults_limits fs ++ rest) fs) (fault_whole f)
    ∙ ap (λ others. f ∷ others) (faults_whole fs rest)

behind_faults : (fs : List Fault) (rest : List ℕ) → drop (2 * length fs) (faults_limits fs ++ rest) ≡ rest
behind_faults [] rest = refl
behind_faults (f ∷ fs) rest =
    let two : 2 * length (f ∷ fs) ≡ suc (suc (2 * length fs)) = omega arith in
    ap (λ n. drop n (faults_limits (f ∷ fs) ++ rest)) two ∙ behind_faults fs rest

text_whole : (text : List ℕ) → limited_text (length text + 1) text ≡ text ∷ []
text_whole text =
    let some : (length text + 1 == 0) ≡ false = grind arith in
    let same : length text + 1 - 1 ≡ length text = omega arith in
    rw some (ap (λ n. take n text ∷ []) same ∙ ap (λ t. t ∷ []) (take_all (length text) text (omega arith)))

texts_whole : (texts : List (List ℕ)) (rest : List ℕ) → limited_texts (texts_limits texts ++ rest) texts ≡ texts
texts_whole [] rest = refl
texts_whole (text ∷ texts) rest = ap (λ own. own ++ limited_texts (texts_limits texts ++ rest) texts)
    (text_whole text) ∙ ap (λ others. text ∷ others) (texts_whole texts rest)

behind_texts : (texts : List (List ℕ)) (rest : List ℕ) → drop (length texts) (texts_limits texts ++ rest) ≡ rest
behind_texts [] rest = refl
behind_texts (text ∷ texts) rest = behind_texts texts rest

lists_whole : (ls : List (List (List ℕ))) → limited_lists (lists_limits ls) ls ≡ ls
lists_whole [] = refl
lists_whole (l ∷ ls) = ap (λ own. own ∷ limited_lists (drop (length l) (lists_limits (l ∷ ls))) ls)
    (texts_whole l (lists_limits ls)) ∙ ap (λ others. l ∷ others)
    (ap (λ limits. limited_lists limits ls) (behind_texts l (lists_limits ls)) ∙ lists_whole ls)

-- the script is left whole
pub left_whole : (s : Script) → limited (limits_of s) s ≡ s
left_whole s =
    let faults = faults_whole s.faults (lists_limits s.messages) in
    let lists = ap (λ limits. limited_lists limits s.messages) (behind_faults s.faults (lists_limits s.messages))
    ∙ lists_whole s.messages in
    let turns : min s.turns s.turns ≡ s.turns = min-eq_left (omega arith) in
    λ i. record s { turns = turns i; faults = faults i; messages = lists i }

-- the text of what they leave of a script without some of its parts
pub least_text : {E : Type 0} (r : Result (String Global) E) (script fewer cut : Script) (late : ℕ) (wanted : List ℕ)
    (keeps : List Bool) (limits given : List ℕ) → given ≡ limits → fewer ≡ kept_parts keeps script
    → cut ≡ limited given fewer → EndsUnder fewer late wanted limits true → AreLeast fewer late wanted limits
    → IfOk r (λ text. string_bytes text ≡ script_json cut)
    → IfOk r (λ text. IsLeast script late wanted (string_bytes text))
least_text (Ok text) script fewer cut late wanted keeps limits given same without under ends least is =
    let here : string_bytes text ≡ script_json (limited limits fewer) =
    is ∙ ap script_json (under ∙ ap (λ (l : List ℕ). limited l fewer) same) in
    record {
      keeps = keeps;
      limits = limits;
      cut = here ∙ ap (λ (s : Script). script_json (limited limits s)) without;
      ends = subst (λ (t : List ℕ). TextEndsSo t late wanted true) (sym here) ends;
      least = subst (λ (s : Script). AreLeast s late wanted limits) without least;
    }
least_text (Err e) script fewer cut late wanted keeps limits given same without under ends least is = tt
