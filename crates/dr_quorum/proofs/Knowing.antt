-- The greatest of ages, as they come one by one.
use Rattle.std.specs.Prelude.{IfNone, IfSome, option_map}
use Rattle.std.proofs.Common.{◌≡◌, refl, ap, sym, ◌∙◌, subst, ◌⊎◌, inl, inr, ℕ, ◌+◌, ◌<◌, ◌≤◌, nat_lt, arith, Bool, true, false, if◌then◌else◌, List, [], ◌∷◌, ◌++◌, length, take, get_or, Contains, Option, None, Some}
use Rattle.std.proofs.lemmas.{List.{get_or_default, take_all, take_more}, Option.{none-some, same_Some}}
use Rattle.std.proofs.lemmas.List.Elements.{Contains-append_left, Contains-push, Contains-push_cases}
use Rattle.dr_entry.specs.{declared.entry.Entry.{Entry, TheVariants.{View, Msg}}, declared.record.AgeVote.AgeVote}
use Rattle.dr_entry.specs.declared.record.Vote.{Vote}
use Rattle.dr_history.specs.History.{GroupView, view_of}
use Rattle.dr_restart.specs.Choosing.{EndsInAge, Handed, HasAge, IsAgeAfter, IsLastAge}
use Rattle.dr_restart.specs.declared.lists.LogLists.{LogLists}
use Rattle.dr_quorum.{specs.Handing.handed_by, proofs.Holding.handed_within}
use Rattle.dr_quorum.specs.Knowing.{HasAgeVoteOf, HasViewOfAge, HasVoteOfAge, HaveNoView, IsGreatestAge, OfLog, OfSomeLog, age_of_view, later_age}

-- it is the same of ages that are the same
pub same_ages : (P Q : ℕ → Type 0) (best : Option ℕ) → ((a : ℕ) → P a → Q a) → ((a : ℕ) → Q a → P a)
    → IsGreatestAge P best → IsGreatestAge Q best
same_ages P Q best to from p = record { one = λ a e. to a (p.one a e); most = λ a k. p.most a (from a k) }

-- of two kinds
pub joined_ages : (P Q : ℕ → Type 0) (one other : Option ℕ) → IsGreatestAge P one → IsGreatestAge Q other
    → IsGreatestAge (λ a. P a ⊎ Q a) (later_age one other)
joined_ages P Q None other p q = record { one = λ a e. inr (q.one a e); most = by }
  where
    by : (a : ℕ) → P a ⊎ Q a → (b : ℕ) × (other ≡ Some b) × (a ≤ b)
    by a (inl x) = let t = p.most a x in absurd (none-some t.0 t.1)
    by a (inr y) = q.most a y
joined_ages P Q (Some x) None p q = record { one = λ a e. inl (p.one a e); most = by }
  where
    by : (a : ℕ) → P a ⊎ Q a → (b : ℕ) × (Some x ≡ Some b) × (a ≤ b)
    by a (inl k) = p.most a k
    by a (inr k) = let t = q.most a k in absurd (none-some t.0 t.1)
joined_ages P Q (Some x) (Some y) p q = pick (nat_lt x y) refl
  where
    below-x : (a : ℕ) → P a → a ≤ x
    below-x a k = let t = p.most a k in omega (arith, same_Some x t.0 t.1, t.2)

    below-y : (a : ℕ) → Q a → a ≤ y
    below-y a k = let t = q.most a k in omega (arith, same_Some y t.0 t.1, t.2)

    pick : (b : Bool) → nat_lt x y ≡ b → IsGreatestAge (λ a. P a ⊎ Q a) (if b then Some y else Some x)
    pick true e = record { one = λ a i. inr (q.one a i); most = by }
      where
        less : x < y
        less = grind (arith, e)

        by : (a : ℕ) → P a ⊎ Q a → (b : ℕ) × (Some y ≡ Some b) × (a ≤ b)
        by a (inl k) = (y, refl, omega (arith, below-x a k, less))
        by a (inr k) = (y, refl, below-y a k)
    pick false e = record { one = λ a i. inl (p.one a i); most = by }
      where
        more : y ≤ x
        more = grind (arith, e)

        by : (a : ℕ) → P a ⊎ Q a → (b : ℕ) × (Some x ≡ Some b) × (a ≤ b)
        by a (inl k) = (x, refl, below-x a k)
        by a (inr k) = (x, refl, omega (arith, below-y a k, more))

-- ---- of the elements of a list

abbrev pub OfSome : {A : Type 0} → (A → ℕ → Type 0) → List A → ℕ → Type 0
OfSome {A} R xs a = (x : A) × Contains xs x × R x a

pub none_known : {A : Type 0} (R : A → ℕ → Type 0) → IsGreatestAge (OfSome R []) None
none_known R = record { one = λ a e. absurd (none-some a e); most = λ a k. absurd (omega (arith, k.1.1)) }

pub more_known : {A : Type 0} (R : A → ℕ → Type 0) (xs : List A) (i : ℕ) (x : A) (best next other : Option ℕ)
    → i < length xs → x ≡ get_or xs i x → IsGreatestAge (OfSome R (take i xs)) best
    → IsGreatestAge (R x) other → next ≡ later_age best other → IsGreatestAge (OfSome R (take (i + 1) xs)) next
more_known {A} R xs i x best next other l read old new is = subst (IsGreatestAge (OfSome R (take (i + 1) xs)))
    (sym is) (same_ages (λ a. OfSome R (take i xs) a ⊎ R x a) (OfSome R (take (i + 1) xs))
    (later_age best other) to from (joined_ages (OfSome R (take i xs)) (R x) best other old new))
  where
    more : take (i + 1) xs ≡ take i xs ++ x ∷ []
    more = take_more xs i x l ∙ ap (λ (y : A). take i xs ++ y ∷ []) (sym read)

    to : (a : ℕ) → OfSome R (take i xs) a ⊎ R x a → OfSome R (take (i + 1) xs) a
    to a (inl (y, c, r)) =
        (y, subst (λ ys. Contains ys y) (sym more) (Contains-append_left (take i xs) (x ∷ []) y c), r)
    to a (inr r) = (x, subst (λ ys. Contains ys x) (sym more) (Contains-push (take i xs) x), r)

    from : (a : ℕ) → OfSome R (take (i + 1) xs) a → OfSome R (take i xs) a ⊎ R x a
    from a (y, c, r) = by (Contains-push_cases (take i xs) x y (subst (λ ys. Contains ys y) more c))
      where
        by : Contains (take i xs) y ⊎ (x ≡ y) → OfSome R (take i xs) a ⊎ R x a
        by (inl there) = inl (y, there, r)
        by (inr e) = inr (subst (λ z. R z a) (sym e) r)

pub all_known : {A : Type 0} (R : A → ℕ → Type 0) (xs : List A) (i : ℕ) (best : Option ℕ) → length xs ≤ i
    → IsGreatestAge (OfSome R (take i xs)) best → IsGreatestAge (OfSome R xs) best
all_known R xs i best l known = subst (λ ys. IsGreatestAge (OfSome R ys) best) (take_all i xs l) known

-- one age
one_known : (a : ℕ) → IsGreatestAge (λ b. a ≡ b) (Some a)
one_known a = record { one = λ b e. same_Some a b e; most = λ b e. (a, refl, omega (arith, e)) }

pub more_aged : {A : Type 0} (age : A → ℕ) (xs : List A) (i : ℕ) (d : A) (best next : Option ℕ) → i < length xs
    → IsGreatestAge (OfSome (λ x a. age x ≡ a) (take i xs)) best → next ≡ later_age best (Some (age (get_or xs i d)))
    → IsGreatestAge (OfSome (λ x a. age x ≡ a) (take (i + 1) xs)) next
more_aged age xs i d best next l old is = more_known (λ x a. age x ≡ a) xs i (get_or xs i d) best next
    (Some (age (get_or xs i d))) l (get_or_default xs i d (get_or xs i d) l) old (one_known (age (get_or xs i d))) is

-- or one that may be none
pub option_known : (o : Option ℕ) → IsGreatestAge (λ b. o ≡ Some b) o
option_known o = record { one = λ b e. e; most = λ b e. (b, e, omega arith) }

-- ---- Views

abbrev pub IsViewOf : Entry → ℕ → Type 0
IsViewOf e a = age_of_view e ≡ Some a

pub views_known : (es : List Entry) (best : Option ℕ) → IsGreatestAge (OfSome IsViewOf es) best
    → IsGreatestAge (HasViewOfAge es) best
views_known es best known = same_ages (OfSome IsViewOf es) (HasViewOfAge es) best to from known
  where
    to : (a : ℕ) → OfSome IsViewOf es a → HasViewOfAge es a
    to a (View age n m, c, e) = (n, m, subst (λ b. Contains es (View b n m)) (same_Some age a e) c)
    to a (Msg s i b, c, e) = absurd (none-some a e)

    from : (a : ℕ) → HasViewOfAge es a → OfSome IsViewOf es a
    from a (n, m, c) = (View a n m, c, refl)

-- ---- a log

pub log_known : (log : LogLists) (es : List Entry) (votes : List Vote) (age_votes : List AgeVote)
    (a b c voted best : Option ℕ) → es ≡ log.entries → votes ≡ log.votes → age_votes ≡ log.age_votes
    → IsGreatestAge (HasViewOfAge es) a → IsGreatestAge (HasVoteOfAge votes) b
    → IsGreatestAge (HasAgeVoteOf age_votes) c → voted ≡ later_age b c → best ≡ later_age a voted
    → IsGreatestAge (HasAge log) best
log_known log es votes age_votes a b c voted best e f g x y z v w = subst (IsGreatestAge (HasAge log)) (sym w)
    (joined_ages (HasViewOfAge log.entries) Q a voted (subst (λ xs. IsGreatestAge (HasViewOfAge xs) a) e x)
    (subst (IsGreatestAge Q) (sym v) (joined_ages (HasVoteOfAge log.votes) (HasAgeVoteOf log.age_votes) b c
    (subst (λ xs. IsGreatestAge (HasVoteOfAge xs) b) f y) (subst (λ xs. IsGreatestAge (HasAgeVoteOf xs) c) g z))))
  where
    Q : ℕ → Type 0
    Q age = HasVoteOfAge log.votes age ⊎ HasAgeVoteOf log.age_votes age

-- ---- logs that may be missing

pub nothing_known : (says : LogLists → ℕ → Type 0) → IsGreatestAge (OfLog says None) None
nothing_known says = record { one = λ a e. absurd (none-some a e); most = λ a k. absurd k }

pub lists_known : (says : LogLists → ℕ → Type 0) (lists : List (Option LogLists)) (best : Option ℕ)
    → IsGreatestAge (OfSome (OfLog says) lists) best → IsGreatestAge (OfSomeLog says (handed_by lists)) best
lists_known says lists best known =
    same_ages (OfSome (OfLog says) lists) (OfSomeLog says (handed_by lists)) best to from known
  where
    to : (a : ℕ) → OfSome (OfLog says) lists a → OfSomeLog says (handed_by lists) a
    to a (None, c, r) = absurd r
    to a (Some log, c, r) = (c.0, log, get_or_default lists c.0 None (Some log) c.1 ∙ c.2, r)

    from : (a : ℕ) → OfSomeLog says (handed_by lists) a → OfSome (OfLog says) lists a
    from a (m, log, at, r) =
        let l = handed_within lists m log at in (Some log, (m, l, get_or_default lists m (Some log) None l ∙ at), r)

-- ---- the age after all

pub after_none : (h : Handed) → IsGreatestAge (OfSomeLog HasAge h) None → IsAgeAfter h 0
after_none h known = record {
  above = λ m a log at has. let t = known.most a (m, log, at, has) in absurd (none-some t.0 t.1);
  next = inl refl;
}

pub after_some : (h : Handed) (age : ℕ) → IsGreatestAge (OfSomeLog HasAge h) (Some age) → IsAgeAfter h (age + 1)
after_some h age known = record {
  above = λ m a log at has. let t = known.most a (m, log, at, has) in
      omega (arith, same_Some age t.0 t.1, t.2);
  next = let t = known.one age refl in inr (age, t.0, t.1, t.2, t.3, refl);
}

-- ---- the last age

pub end_known : (log : LogLists) (o : Option GroupView) → o ≡ view_of log.entries
    → IsGreatestAge (EndsInAge log) (option_map (λ v. v.age) o)
end_known log None e = record { one = λ a i. absurd (none-some a i); most = λ a k. absurd (none-some k.0 (e ∙ k.1)) }
end_known log (Some v) e = record {
  one = λ a i. (v, sym e, same_Some v.age a i);
  most = λ a k. (v.age, refl, omega (arith, ap (λ (u : GroupView). u.age) (same_Some v k.0 (e ∙ k.1)), k.2));
}

last_some : (h : Handed) (age : ℕ) → IsGreatestAge (OfSomeLog EndsInAge h) (Some age) → IsLastAge h age
last_some h age known = record {
  some = known.one age refl;
  greatest = λ m a log at ends. let t = known.most a (m, log, at, ends) in
      omega (arith, same_Some age t.0 t.1, t.2);
}

last_none : (h : Handed) → IsGreatestAge (OfSomeLog EndsInAge h) None → HaveNoView h
last_none h known m log at = by (view_of log.entries) refl
  where
    by : (o : Option GroupView) → view_of log.entries ≡ o → view_of log.entries ≡ None
    by None e = e
    by (Some v) e = let t = known.most v.age (m, log, at, (v, e, refl)) in absurd (none-some t.0 t.1)

pub last_if_some : (h : Handed) (o : Option ℕ) → IsGreatestAge (OfSomeLog EndsInAge h) o → IfSome o (IsLastAge h)
last_if_some h None known = tt
last_if_some h (Some age) known = last_some h age known

pub last_if_none : (h : Handed) (o : Option ℕ) → IsGreatestAge (OfSomeLog EndsInAge h) o → IfNone o (HaveNoView h)
last_if_none h None known = last_none h known
last_if_none h (Some age) known = tt
