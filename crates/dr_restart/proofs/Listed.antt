-- The entries and votes on the logs of a list, log by log.
use Rattle.std.specs.{Option.option_map_or, Prelude.option_map}
use Rattle.std.proofs.Common.{◌≡◌, refl, ap, sym, ◌∙◌, ℕ, List, Option, None, Some, slice_get, subst, arith, Bool, true, false, nat_lt, if◌then◌else◌, [], ◌∷◌, Contains, ◌⊎◌, inl, inr, ◌<◌, ◌≤◌}
use Rattle.std.proofs.lemmas.Option.{none-some, same_Some, slice_get-map}
use Rattle.dr_entry.specs.{declared.entry.Entry.Entry, declared.record.Vote.Vote}
use Rattle.dr_entry.proofs.ListParts.{in-head, in-tail, in-nothing, in-cases}
use Rattle.dr_restart.specs.{Choosing.highest, Left.entries_on_logs, declared.lists.LogLists.LogLists}

-- those of a log
pub listed : (logs : List LogLists) (m : ℕ) (log : LogLists) → slice_get logs m ≡ Some log
    → slice_get (entries_on_logs logs) m ≡ Some log.entries
listed logs m log at = slice_get-map (λ (l : LogLists). l.entries) logs m
    ∙ ap (option_map (λ (l : LogLists). l.entries)) at

-- and the log that they are on
pub log-listed : (logs : List LogLists) (m : ℕ) (es : List Entry) → slice_get (entries_on_logs logs) m ≡ Some es
    → (log : LogLists) × (slice_get logs m ≡ Some log) × (log.entries ≡ es)
log-listed logs m es at = by (slice_get logs m) refl (sym (slice_get-map (λ (l : LogLists). l.entries) logs m) ∙ at)
  where
    by : (o : Option LogLists) → slice_get logs m ≡ o
        → option_map (λ (l : LogLists). l.entries) (slice_get logs m) ≡ Some es
        → (log : LogLists) × (slice_get logs m ≡ Some log) × (log.entries ≡ es)
    by None e h = absurd (none-some es (ap (option_map (λ (l : LogLists). l.entries)) (sym e) ∙ h))
    by (Some log) e h = (log, e, same_Some log.entries es (ap (option_map (λ (l : LogLists). l.entries)) (sym e) ∙ h))

pub highest-in : (xs : List Vote) (y : Vote) → highest xs ≡ Some y → Contains xs y
unfolding highest
highest-in [] y e = absurd (none-some y e)
highest-in (x ∷ xs) y e = by (λ z f. highest-in xs z f) (highest xs) refl e
  where
    two : (z : Vote) → Contains xs z → (b : Bool) → nat_lt x.ballot z.ballot ≡ b
        → Some (if nat_lt x.ballot z.ballot then z else x) ≡ Some y → Contains (x ∷ xs) y
    two z c true f h =
        let one : z ≡ y = grind (arith, f, h) in in-tail x y xs (subst (Contains xs) one c)
    two z c false f h =
        let one : x ≡ y = grind (arith, f, h) in subst (Contains (x ∷ xs)) one (in-head x xs)

    by : ((z : Vote) → highest xs ≡ Some z → Contains xs z) → (o : Option Vote) → highest xs ≡ o
        → Some (option_map_or (λ z. if nat_lt x.ballot z.ballot then z else x) (highest xs) x) ≡ Some y
        → Contains (x ∷ xs) y
    by rest None f h =
        let one : x ≡ y = grind (arith, f, h) in subst (Contains (x ∷ xs)) one (in-head x xs)
    by rest (Some z) f h = two z (rest z f) (nat_lt x.ballot z.ballot) refl
        (ap (λ o. Some (option_map_or (λ z. if nat_lt x.ballot z.ballot then z else x) o x)) (sym f) ∙ h)

-- where there is a vote, there is one of the highest ballot
pub highest-is : (xs : List Vote) (z : Vote) → Contains xs z
    → (y : Vote) × (highest xs ≡ Some y) × (z.ballot ≤ y.ballot)
unfolding highest
highest-is [] z c = absurd (in-nothing z c)
highest-is (x ∷ xs) z c = by (λ h. highest-is xs z h) (highest xs) refl (in-cases x z xs c)
  where
    two : (y : Vote) → (z.ballot ≤ x.ballot) ⊎ (z.ballot ≤ y.ballot) → (b : Bool) → nat_lt x.ballot y.ballot ≡ b
        → (w : Vote) × (Some (if nat_lt x.ballot y.ballot then y else x) ≡ Some w) × (z.ballot ≤ w.ballot)
    two y h true e = rw e (y, refl, low h)
      where
        less : x.ballot < y.ballot
        less = grind (arith, e)

        low : (z.ballot ≤ x.ballot) ⊎ (z.ballot ≤ y.ballot) → z.ballot ≤ y.ballot
        low (inl l) = omega (arith, l, less)
        low (inr l) = l
    two y h false e = rw e (x, refl, low h)
      where
        more : y.ballot ≤ x.ballot
        more = grind (arith, e)

        low : (z.ballot ≤ x.ballot) ⊎ (z.ballot ≤ y.ballot) → z.ballot ≤ x.ballot
        low (inl l) = l
        low (inr l) = omega (arith, l, more)

    by : (Contains xs z → (y : Vote) × (highest xs ≡ Some y) × (z.ballot ≤ y.ballot))
        → (o : Option Vote) → highest xs ≡ o → (x ≡ z) ⊎ Contains xs z → (y : Vote)
        × (Some (option_map_or (λ y. if nat_lt x.ballot y.ballot then y else x) (highest xs) x) ≡ Some y)
        × (z.ballot ≤ y.ballot)
    by rest None e (inl same) = rw e (x, refl, omega (arith, ap (λ (v : Vote). v.ballot) same))
    by rest None e (inr h) = let r = rest h in absurd (none-some r.0 (sym e ∙ r.1))
    by rest (Some y) e (inl same) = rw e (two y (inl (omega (arith, ap (λ (v : Vote). v.ballot) same)))
        (nat_lt x.ballot y.ballot) refl)
    by rest (Some y) e (inr h) =
        let r = rest h in
        let one : r.0 ≡ y = same_Some r.0 y (sym r.1 ∙ e) in
        rw e (two y (inr (subst (λ (v : Vote). z.ballot ≤ v.ballot) one r.2)) (nat_lt x.ballot y.ballot) refl)
