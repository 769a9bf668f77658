-- Letters: the entries up to the last View, and what that View says.
use Rattle.std.proofs.Common.{◌≡◌, ◌∙◌, ap, refl, ℕ, List, [], ◌∷◌, ◌++◌, Option, None, Some, filter_map, sym, Bool, true, false, ◌+◌, if◌then◌else◌, take, ◌⊎◌, ◌<◌, ◌-◌}
use Rattle.dr_entry.{specs.declared.entry.Entry.{Entry, TheVariants.{View, Msg}}, proofs.Entries.IsMessage}
use Rattle.dr_history.specs.{History.{before_some, last_view, up_to_view}, Members.has}

-- messages have no View
pub up_to_view-messages : {X : Type 0} (f : X → Option Entry) (xs : List X)
    → ((x : X) (e : Entry) → f x ≡ Some e → IsMessage e) → up_to_view (filter_map f xs) ≡ []
unfolding up_to_view
up_to_view-messages {X} f [] each = refl
up_to_view-messages {X} f (x ∷ xs) each = by (f x) refl (up_to_view-messages f xs each)
  where
    by : (r : Option Entry) → f x ≡ r → up_to_view (filter_map f xs) ≡ [] → up_to_view (filter_map f (x ∷ xs)) ≡ []
    by None e rest = rw e rest
    by (Some (View a n m)) e rest = absurd (each x (View a n m) e)
    by (Some (Msg s i b)) e rest = rw (e, rest) refl

-- the last View is the one behind which there is none
pub up_to_view-last : (h es : List Entry) (a n m : ℕ) → up_to_view es ≡ []
    → up_to_view (h ++ View a n m ∷ es) ≡ h ++ View a n m ∷ []
unfolding up_to_view
up_to_view-last [] es a n m none = ap (λ l. View a n m ∷ l) none
up_to_view-last (View b k l ∷ h) es a n m none = ap (λ t. View b k l ∷ t) (up_to_view-last h es a n m none)
up_to_view-last (Msg s i b ∷ h) es a n m none =
    ap (before_some (Msg s i b)) (up_to_view-last h es a n m none) ∙ kept h
  where
    kept : (h : List Entry) → before_some (Msg s i b) (h ++ View a n m ∷ []) ≡ Msg s i b ∷ h ++ View a n m ∷ []
    kept [] = refl
    kept (e ∷ h) = refl

-- and it says this
pub last_view-last : (h : List Entry) (x : ℕ × ℕ) (a n m : ℕ) → last_view x (h ++ View a n m ∷ []) ≡ (n, m)
unfolding last_view
last_view-last [] x a n m = refl
last_view-last (View b k l ∷ h) x a n m = last_view-last h (k, l) a n m
last_view-last (Msg s i b ∷ h) x a n m = last_view-last h x a n m

-- none of none
pub up_to_view-none : up_to_view [] ≡ []
unfolding up_to_view
up_to_view-none = refl

-- one View alone, and one message alone
pub up_to_view-View : (a n m : ℕ) → up_to_view (View a n m ∷ []) ≡ View a n m ∷ []
unfolding up_to_view
up_to_view-View a n m = refl

pub up_to_view-Msg : (s i : ℕ) (b : List ℕ) → up_to_view (Msg s i b ∷ []) ≡ []
unfolding up_to_view
up_to_view-Msg s i b = refl

-- the entries up to the last View stay where a message comes
pub up_to_view-stays : (h : List Entry) (s i : ℕ) (b : List ℕ) → up_to_view (h ++ Msg s i b ∷ []) ≡ up_to_view h
unfolding up_to_view
up_to_view-stays [] s i b = refl
up_to_view-stays (View a n m ∷ h) s i b = ap (λ t. View a n m ∷ t) (up_to_view-stays h s i b)
up_to_view-stays (Msg t k c ∷ h) s i b = ap (before_some (Msg t k c)) (up_to_view-stays h s i b)

-- an entry that is a View brings all of them, and another none
pub up_to_view-more : (h : List Entry) (e : Entry) (b : Bool) → up_to_view (e ∷ []) ≡ (if b then e ∷ [] else [])
    → up_to_view (h ++ e ∷ []) ≡ (if b then h ++ e ∷ [] else up_to_view h)
up_to_view-more h (View a n m) true is = up_to_view-last h [] a n m up_to_view-none
up_to_view-more h (View a n m) false is = absurd (cc (sym (up_to_view-View a n m) ∙ is))
up_to_view-more h (Msg s i b) true is = absurd (cc (sym (up_to_view-Msg s i b) ∙ is))
up_to_view-more h (Msg s i b) false is = up_to_view-stays h s i b

-- where the entries up to the last View end, an entry more behind them
pub end_more : (es : List Entry) (k end next : ℕ) (e : Entry) (b : Bool) → take (k + 1) es ≡ take k es
    ++ e ∷ [] → up_to_view (e ∷ []) ≡ (if b then e ∷ [] else []) → take end es ≡ up_to_view (take k es)
    → next ≡ (if b then k + 1 else end) → take next es ≡ up_to_view (take (k + 1) es)
end_more es k end next e true on is here at = rw (at, on) (sym (up_to_view-more (take k es) e true is))
end_more es k end next e false on is here at = rw (at, on) (here ∙ sym (up_to_view-more (take k es) e false is))

-- a member that has given one keeps that in its view
abbrev pub IsKept : (ℕ → ℕ) → (ℕ → ℕ) → ℕ → ℕ → ℕ → Type 0
IsKept view given giver v j = (has (given giver) j ≡ true) ⊎ (v < view giver)

pub last_view-none : (x : ℕ × ℕ) → last_view x [] ≡ x
unfolding last_view
last_view-none x = refl

-- a message leaves the last View
pub last_view-Msg : (h : List Entry) (x : ℕ × ℕ) (s i : ℕ) (b : List ℕ)
    → last_view x (h ++ Msg s i b ∷ []) ≡ last_view x h
unfolding last_view
last_view-Msg [] x s i b = refl
last_view-Msg (View a n m ∷ h) x s i b = last_view-Msg h (n, m) s i b
last_view-Msg (Msg t k c ∷ h) x s i b = last_view-Msg h x s i b

-- messages are no View
pub up_to_view-same : (h es : List Entry) → up_to_view es ≡ [] → up_to_view (h ++ es) ≡ up_to_view h
unfolding up_to_view
up_to_view-same [] es none = none
up_to_view-same (View a n m ∷ h) es none = ap (λ t. View a n m ∷ t) (up_to_view-same h es none)
up_to_view-same (Msg s i b ∷ h) es none = ap (before_some (Msg s i b)) (up_to_view-same h es none)
