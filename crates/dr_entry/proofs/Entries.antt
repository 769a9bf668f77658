-- Entries and their messages.
use Rattle.std.{specs.List.range_with_len, proofs.{Math.Seq.take-append-add, lemmas.Option.slice_get-get_or}}
use Rattle.std.specs.Prelude.{⊤, Option}
use Rattle.std.proofs.Common.{◌≡◌, refl, ◌+◌, List, [], ◌∷◌, ◌++◌, length, drop, ℕ, zero, suc, arith, ap, ◌≤◌, sym, ◌∙◌, ◌<◌, take, get_or, Contains, subst, ◌⊎◌, inl, inr, append_assoc, drop_at, ◌-◌, Bool, true, false, filter, append-nil, Some, fold, slice_get, length-append}
use Rattle.std.proofs.lemmas.List.{nil_from_length, take_more, take_all, get_or_default, take-append-drop, length-take-le, length-take, length-drop}
use Rattle.std.proofs.lemmas.List.Elements.{Contains-push_cases, All-cons, All-contains, All-nil, filter-append}
use Rattle.dr_entry.specs.declared.entry.Entry.{Entry, TheVariants.{Msg, View}}
use Rattle.dr_entry.proofs.ListPlaces.{slice_get-left, Contains-slice_get, take-next}

pub drop_start : (start own : List Entry) → drop (length start) (start ++ own) ≡ own
drop_start [] own = refl
drop_start (e ∷ start) own = drop_start start own

pub drop_none : (n : ℕ) → drop {A = Entry} n [] ≡ []
drop_none zero = refl
drop_none (suc n) = refl

pub empty : (es : List Entry) → length es ≡ 0 → [] ≡ es
empty [] none = refl
empty (e ∷ es) none = absurd (omega (arith, none))

pub length_behind : (n : ℕ) (g h : List Entry) → length g ≡ length h → length (drop n g) ≡ length (drop n h)
length_behind zero g h same = same
length_behind (suc n) [] [] same = refl
length_behind (suc n) [] (y ∷ h) same = absurd (omega (arith, same))
length_behind (suc n) (x ∷ g) [] same = absurd (omega (arith, same))
length_behind (suc n) (x ∷ g) (y ∷ h) same = length_behind n g h (omega (arith, same))

-- a first message without bytes
abbrev pub filler : Entry
filler = Msg 0 0 []

-- what is no longer than no history is none
pub as_empty : (h g l : List Entry) → g ≡ [] → l ≡ g → length h ≤ length l → h ≡ []
as_empty h g l none same short = nil_from_length h (omega (arith, short, ap length same, ap length none))

-- one entry more that is the same in both
pub same_more : (g h : List Entry) (n : ℕ) (x y : Entry) → n < length g → n < length h
    → x ≡ get_or g n x → y ≡ get_or h n y → x ≡ y → take n g ≡ take n h → take (n + 1) g ≡ take (n + 1) h
same_more g h n x y lg lh rx ry e same = take_more g n x lg ∙ (ap (λ (xs : List Entry). xs ++ get_or g n x ∷ []) same
    ∙ (ap (λ (z : Entry). take n h ++ z ∷ []) (sym rx ∙ (e ∙ ry)) ∙ sym (take_more h n y lh)))

-- none of the first so many is it
abbrev pub HasNoFirst : ℕ → List Entry → Type 0
HasNoFirst age es = (members : ℕ) → Contains es (View age 0 members) → ⊥

pub none_first : (age : ℕ) → HasNoFirst age []
none_first age members c = absurd (omega (arith, c.1))

pub no_first_more : (age : ℕ) (es : List Entry) (i : ℕ) (x : Entry) → i < length es → x ≡ get_or es i x
    → HasNoFirst age (take i es) → ((members : ℕ) → x ≡ View age 0 members → ⊥) → HasNoFirst age (take (i + 1) es)
no_first_more age es i x l read old here members c =
    by (Contains-push_cases (take i es) x (View age 0 members) (subst (λ xs. Contains xs (View age 0 members)) more c))
  where
    more : take (i + 1) es ≡ take i es ++ x ∷ []
    more = take_more es i x l ∙ ap (λ (y : Entry). take i es ++ y ∷ []) (sym read)

    by : Contains (take i es) (View age 0 members) ⊎ (x ≡ View age 0 members) → ⊥
    by (inl there) = old members there
    by (inr e) = here members e

pub no_first : (age : ℕ) (es : List Entry) (i : ℕ) → length es ≤ i → HasNoFirst age (take i es) → HasNoFirst age es
no_first age es i l none = subst (HasNoFirst age) (take_all i es l) none

pub first_there : (es : List Entry) (i : ℕ) (x y : Entry) → i < length es → x ≡ get_or es i x → x ≡ y → Contains es y
first_there es i x y l read e = (i, l, get_or_default es i y x l ∙ (sym read ∙ e))

pub lacking_all : (es rest start : List Entry) (v w : Entry) → es ++ rest ≡ start → v ≡ w
    → es ++ (rest ++ v ∷ []) ≡ start ++ w ∷ []
lacking_all es rest start v w is same = sym (append_assoc es rest (v ∷ [])) ∙ ap (λ (l : List Entry). l ++ v ∷ []) is
    ∙ ap (λ (x : Entry). start ++ x ∷ []) same

-- so what it lacks of all that the age begins with
pub lacked_is : (es rest whole : List Entry) → es ++ rest ≡ whole → rest ≡ drop (length es) whole
lacked_is es rest whole all = sym (drop_at es rest (length es) refl) ∙ ap (drop (length es)) all

-- the entry is a message, and no View
abbrev pub IsMessage : Entry → Type 0
IsMessage (View age number members) = ⊥
IsMessage (Msg s i b) = ⊤

pub one_is : (x y : Entry) → Contains (x ∷ []) y → y ≡ x
one_is x y c = All-contains (λ e. e ≡ x) (x ∷ []) y (All-cons (λ e. e ≡ x) x [] refl (All-nil (λ e. e ≡ x))) c

abbrev pub is_message : Entry → Bool
is_message (View a k m) = false
is_message (Msg s i b) = true

pub told-View : (h : List Entry) (a k m : ℕ) → filter is_message (h ++ View a k m ∷ []) ≡ filter is_message h
told-View h a k m = filter-append is_message h (View a k m ∷ []) ∙ append-nil (filter is_message h)

pub told-Msg : (h : List Entry) (s i : ℕ) (b : List ℕ)
    → filter is_message (h ++ Msg s i b ∷ []) ≡ filter is_message h ++ Msg s i b ∷ []
told-Msg h s i b = filter-append is_message h (Msg s i b ∷ [])

-- what a history holds it holds one entry later
pub held : (es : List Entry) (e x : Entry) → Contains es x → Contains (es ++ e ∷ []) x
held es e x there = Contains-slice_get (es ++ e ∷ []) there.0 x
    (slice_get-left es (e ∷ []) there.0 there.1 ∙ (slice_get-get_or es there.0 x there.1 ∙ ap Some there.2))

-- what is added at the places that pass a test, one after the other, where nothing is added at the others
pub rest-steps : (add : List Entry → ℕ → List Entry) (test : ℕ → Bool) (at : ℕ → List Entry)
    (p d : ℕ) → ((q : ℕ) → test q ≡ true → add (at q) q ≡ at (q + 1)) → ((q : ℕ) → test q ≡ false → at (q + 1) ≡ at q)
    → fold add (at p) (filter test (range_with_len p d)) ≡ at (p + d)
rest-steps add test at p zero more none = let same : p ≡ p + 0 = omega arith in ap at same
rest-steps add test at p (suc d) more none =
    by (test p) refl (rest-steps add test at (p + 1) d more none) ∙ ap at next
  where
    next : p + 1 + d ≡ p + suc d
    next = omega arith

    by : (b : Bool) → test p ≡ b → fold add (at (p + 1)) (filter test (range_with_len (p + 1) d)) ≡ at (p + 1 + d)
        → fold add (at p) (filter test (range_with_len p (suc d))) ≡ at (p + 1 + d)
    by true e rest = rw e (ap (λ es. fold add es (filter test (range_with_len (p + 1) d))) (more p e) ∙ rest)
    by false e rest = rw e (ap (λ es. fold add es (filter test (range_with_len (p + 1) d))) (sym (none p e)) ∙ rest)

-- one entry more
pub more : (es : List Entry) (i : ℕ) (e : Entry) → slice_get es i ≡ Some e → take (suc i) es ≡ take i es ++ e ∷ []
more es i e at =
    let next : suc i ≡ i + 1 = omega arith in ap (λ (j : ℕ). take j es) next ∙ take-next es i e at

-- the letters so far, and who has given them, in which view
pub record Letters : Type 0 where
  pub view : ℕ → ℕ
  pub given : ℕ → ℕ
  pub letter : ℕ → Option (List Entry)

-- a front of a list and the next element are the next front
pub next_front : (xs : List Entry) (n : ℕ) → n ≤ length xs → take n xs
    ++ take 1 (drop (length (take n xs)) xs) ≡ take (n + 1) xs
next_front xs n within =
    let len = length-take-le n xs within in
    ap (λ k. take n xs ++ take 1 (drop k xs)) len ∙ sym (take-append-add (take n xs) (drop n xs) 1)
    ∙ ap (take (length (take n xs) + 1)) (take-append-drop n xs) ∙ ap (λ k. take (k + 1) xs) len

pub longer : (log history : List Entry) → length log < length history
    → length log < length (log ++ take 1 (drop (length log) history))
longer log history l = omega (
  arith,
  l,
  length-append log (take 1 (drop (length log) history)),
  length-take 1 (drop (length log) history),
  length-drop (length log) history,
)
