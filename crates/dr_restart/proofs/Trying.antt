-- Tries to open, one behind another.
use Rattle.std.proofs.Common.{◌≡◌, ℕ, arith, List, Some, slice_get, true, [], ◌∷◌, ◌++◌, refl, ap, sym, ◌∙◌, ◌⊎◌, inl, inr, Bool, false, subst, length, append-nil, ◌<◌}
use Rattle.std.proofs.lemmas.Option.{slice_get_within, same_Some}
use Rattle.dr_entry.{specs.declared.entry.Entry.Entry, proofs.ListPlaces.slice_get-some}
use Rattle.dr_history.specs.{History.IsPrefixOf, Members.has, declared.opening.Opening.Opening}
use Rattle.dr_history.proofs.Lists.{prefix-split, prefix_refl}
use Rattle.dr_machine.specs.Group.{Group}
use Rattle.dr_restart.specs.{Choosing.of_set, declared.start.Start.Start}
use Rattle.dr_restart.specs.Trying.{IsTry, BeginsWithCommon, first_view_of, MayBeBroughtUp, MayHaveAgeVote}
use Rattle.dr_restart.{specs.declared.lists.{Attempt.Attempt, LogLists.LogLists}, proofs.ByMessages.start-by-messages}

-- a log after it is one before it
pub old-log : (g : Group) (before after : List LogLists) (try : Attempt) → IsTry g.opening before after try
    → (m : ℕ) (new : LogLists) → slice_get after m ≡ Some new → (old : LogLists) × (slice_get before m ≡ Some old)
old-log g before after try t m new at =
    slice_get-some before m (omega (arith, slice_get_within after m new at, t.places))

-- its entries are as before, or the try was opened and they are brought up to its start
abbrev pub IsBroughtUp : Attempt → ℕ → LogLists → LogLists → Type 0
IsBroughtUp try m old new = (try.opened ≡ true) × (has try.set m ≡ true) × IsPrefixOf new.entries
    (try.start.entries ++ first_view_of try.start ∷ []) × BeginsWithCommon old.entries try.start.entries new.entries

pub entries-case : (g : Group) (before after : List LogLists) (try : Attempt) → IsTry g.opening before after try
    → (m : ℕ) (old new : LogLists) → slice_get before m ≡ Some old → slice_get after m ≡ Some new
    → (new.entries ≡ old.entries) ⊎ IsBroughtUp try m old new
entries-case g before after try t m old new was is = by (has try.set m) (try.opened) refl refl
  where
    vote : MayHaveAgeVote try.start old new → new.entries ≡ old.entries
    vote (inl e) = ap (λ (l : LogLists). l.entries) e
    vote (inr e) = ap (λ (l : LogLists). l.entries) e

    up : try.opened ≡ true → has try.set m ≡ true → MayBeBroughtUp try.start old.entries new.entries
        → (new.entries ≡ old.entries) ⊎ IsBroughtUp try m old new
    up o h (inl e) = inl e
    up o h (inr p) = inr (o, h, p.0, p.1)

    by : (b o : Bool) → has try.set m ≡ b → try.opened ≡ o → (new.entries ≡ old.entries) ⊎ IsBroughtUp try m old new
    by false o e f = inl (ap (λ (l : LogLists). l.entries) (same_Some new old (sym is ∙ t.others m e ∙ was)))
    by true false e f = inl (vote (t.waits f m old new (e, was) is))
    by true true e f = up f e (t.brought f m old new (e, was) is)

-- a try goes by the messages alone
pub try_by : (o p : Opening) (before after : List LogLists) (try : Attempt) → o.messages ≡ p.messages
    → IsTry o before after try → IsTry p before after try
try_by o p before after try same t = record {
  choice = start-by-messages o p (of_set before try.set) try.start same t.choice;
  set = t.set;
  places = t.places;
  others = t.others;
  votes = t.votes;
  opened = t.opened;
  unopened = t.unopened;
  waits = t.waits;
  brought = t.brought;
}

-- the first ones of a start, and maybe its View
pub front_case : (start : Start) (es : List Entry) → IsPrefixOf es (start.entries ++ first_view_of start ∷ [])
    → IsPrefixOf es start.entries ⊎ (es ≡ start.entries ++ first_view_of start ∷ [])
front_case start es p = by (prefix-split es start.entries (first_view_of start ∷ []) p)
  where
    one : (f : List Entry) → es ≡ start.entries ++ f → IsPrefixOf f (first_view_of start ∷ [])
        → IsPrefixOf es start.entries ⊎ (es ≡ start.entries ++ first_view_of start ∷ [])
    one [] e q = inl (subst (λ l. IsPrefixOf l start.entries) (sym (e ∙ append-nil start.entries))
        (prefix_refl start.entries))
    one (x ∷ []) e q = inr (e ∙ ap (λ y. start.entries ++ y ∷ []) (head x [] q.0 q.1))
      where
        head : (x : Entry) (xs ys : List Entry) → x ∷ (xs ++ ys) ≡ first_view_of start ∷ [] → x ≡ first_view_of start
        head x xs ys h = cc
    one (x ∷ (y ∷ f)) e q = absurd (none q.1)
      where
        none : x ∷ (y ∷ (f ++ q.0)) ≡ first_view_of start ∷ [] → ⊥
        none h = absurd (omega (arith, ap length h))

    by : IsPrefixOf es start.entries ⊎ ((f : List Entry) × (es ≡ start.entries ++ f) × IsPrefixOf f
        (first_view_of start ∷ [])) → IsPrefixOf es start.entries ⊎ (es ≡ start.entries ++ first_view_of start ∷ [])
    by (inl q) = inl q
    by (inr t) = one t.0 t.1 t.2

-- what is so of each try before and of the new one is so of each
pub each-try : (P : Attempt → Type 0) (tries : List Attempt) (try one : Attempt) (k : ℕ)
    → ((k : ℕ) (one : Attempt) → slice_get tries k ≡ Some one → P one) → P try
    → ((k < length tries) × (slice_get tries k ≡ Some one)) ⊎ ((k ≡ length tries) × (try ≡ one)) → P one
each-try P tries try one k old new (inl (l, at)) = old k one at
each-try P tries try one k old new (inr (l, same)) = subst P same new

abbrev pub nothing_on : LogLists
nothing_on = record { entries = []; votes = []; age_votes = [] }
