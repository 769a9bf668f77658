-- The entries of a history: Views and messages of the script behind the first entries, and each of them a
-- valid record.
use Rattle.std.proofs.Common.{◌≡◌, ap, ℕ, ◌<◌, arith, inl, inr, List, [], length, Some, slice_get, refl, subst, Option, None, option_map, All, option_to_list, option_and_then}
use Rattle.std.proofs.lemmas.{Bool.cases_lt, List.{get_or_past, Elements.{All-nil, All-cons}}}
use Rattle.std.proofs.lemmas.Option.{slice_get_within, none-some, same_Some}
use Rattle.dr_entry.specs.declared.{end.SentItem.{SentItem, TheVariants.{Index, Null}}, entry.Entry.Entry}
use Rattle.dr_entry.specs.declared.entry.Entry.TheVariants.{Msg}
use Rattle.dr_history.specs.History.{messages_of, entry_of}
use Rattle.dr_machine.{specs.Group.{Group, roster}, proofs.Groups.IsOfScript}

-- who has a message is of the roster
pub of_roster : (g : Group) (s i : ℕ) (b : List ℕ) → slice_get (messages_of g.opening s) i ≡ Some b → s < roster g
of_roster g s i b e = elim (cases_lt s (roster g)) [
  | inl within ↦ within
  | inr past ↦ absurd (omega (
    arith,
    slice_get_within (messages_of g.opening s) i b e,
    ap length (get_or_past g.opening.messages s [] past),
  ))
]

-- the entry of a sent item is a message of the script
item_of_script : (g : Group) (s : ℕ) (item : SentItem) (e : Entry) → entry_of g.opening s item ≡ Some e
    → IsOfScript g e
item_of_script g s Null e is = absurd (none-some e is)
item_of_script g s (Index i) e is = by (slice_get (messages_of g.opening s) i) refl is
  where
    by : (r : Option (List ℕ)) → slice_get (messages_of g.opening s) i ≡ r
        → option_map (λ b. Msg s i b) r ≡ Some e → IsOfScript g e
    by None at is = absurd (none-some e is)
    by (Some b) at is = subst (IsOfScript g) (same_Some (Msg s i b) e is) (of_roster g s i b at, at)

-- so is what a place adds
pub place_of_script : (g : Group) (place : Option (ℕ × SentItem))
    → All (IsOfScript g) (option_to_list (option_and_then (λ t. entry_of g.opening t.0 t.1) place))
place_of_script g None = All-nil (IsOfScript g)
place_of_script g (Some (s, item)) = by (entry_of g.opening s item) refl
  where
    by : (r : Option Entry) → entry_of g.opening s item ≡ r → All (IsOfScript g) (option_to_list r)
    by None is = All-nil (IsOfScript g)
    by (Some e) is = All-cons (IsOfScript g) e [] (item_of_script g s item e is) (All-nil (IsOfScript g))
