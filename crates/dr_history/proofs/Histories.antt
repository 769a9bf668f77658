-- Histories, their fronts, and who is among their members.
use Rattle.std.{specs.Option.option_map_or, proofs.lemmas.Option.{same_Some, none-some, slice_get_within}}
use Rattle.std.{specs.Prelude.All, proofs.lemmas.List.Elements.{All-cons, All-head, All-tail}}
use Rattle.std.proofs.Common.{◌≡◌, ℕ, Contains, List, suc, ◌∷◌, arith, ◌⊎◌, inl, inr, ap, [], Option, Some, None, ◌<◌, ◌≤◌, true, false, drop, take, take-append-drop, ◌++◌, length, slice_get, sym, ◌∙◌, append_assoc, Bool, refl, ◌+◌, slice_index, slice_set, subst, ◌-◌, le_refl}
use Rattle.std.proofs.lemmas.List.{drop_at, get_or-set_same, get_or-set_other, length-set, take_rest, take_all}
use Rattle.dr_entry.specs.{Spelling.IsValidEntry, declared.end.{AgeEnd.AgeEnd, MemberEnd.MemberEnd}}
use Rattle.dr_entry.{specs.declared.entry.Entry.{Entry, TheVariants.{View, Msg}}, proofs.NumberFacts.total}
use Rattle.dr_entry.proofs.OptionFacts.{below_or_last}
use Rattle.dr_history.specs.Agreement.{accounts_of, SamePast}
use Rattle.dr_history.specs.History.{GroupView, view_after, view_of, IsPrefixOf, Sent, place_at, messages_of, before_some, up_to_view}
use Rattle.dr_history.specs.{Members.{members_of, has}, Order.{IsInNoView, messages_from}, Soundness.Sound}
use Rattle.dr_history.{specs.declared.opening.Opening.Opening, proofs.{NumberedLemmas.from_before, Tests.IsFilledTo}}

-- a view is that of a View among the entries
pub record IsAmong (es : List Entry) (v : GroupView) : Type 0 where
  pub mask : ℕ
  pub view : Contains es (View v.age v.number mask)
  pub members : members_of mask ≡ v.members

-- and of one entry more
later : (e : Entry) (es : List Entry) (v : GroupView) → IsAmong es v → IsAmong (e ∷ es) v
later e es v a = record {
  mask = a.mask;
  view = (suc a.view.0, omega (arith, a.view.1), a.view.2);
  members = a.members;
}

-- the view after some entries was there before, or is among them
among : (u : Option GroupView) (es : List Entry) (v : GroupView) → view_after u es ≡ Some v
    → (u ≡ Some v) ⊎ IsAmong es v
unfolding view_after
among u [] v is = inl is
among u (View a n m ∷ es) v is = by (among (Some (record { age = a; number = n; members = members_of m })) es v is)
  where
    by : (Some (record { age = a; number = n; members = members_of m }) ≡ Some v) ⊎ IsAmong es v
        → (u ≡ Some v) ⊎ IsAmong (View a n m ∷ es) v
    by (inl e) =
        let same : record { age = a; number = n; members = members_of m } ≡ v = same_Some _ v e in
        inr (record {
          mask = m;
          view = (0, omega arith, ap (λ (w : GroupView). View w.age w.number m) same);
          members = ap (λ (w : GroupView). w.members) same;
        })
    by (inr found) = inr (later (View a n m) es v found)
among u (Msg s k b ∷ es) v is = by (among u es v is)
  where
    by : (u ≡ Some v) ⊎ IsAmong es v → (u ≡ Some v) ⊎ IsAmong (Msg s k b ∷ es) v
    by (inl e) = inl e
    by (inr found) = inr (later (Msg s k b) es v found)

-- so the view that a history is in is among its entries
pub last_among : (h : List Entry) (v : GroupView) → view_of h ≡ Some v → IsAmong h v
last_among h v is = by (among None h v is)
  where
    by : (None ≡ Some v) ⊎ IsAmong h v → IsAmong h v
    by (inl e) = absurd (none-some v e)
    by (inr found) = found

-- a log that holds the first entries of a history
pub log_is_front : (end : Option MemberEnd)
    → IsPrefixOf (option_map_or (λ (e : MemberEnd). take e.logged e.history) end [])
    (option_map_or (λ (e : MemberEnd). e.history) end [])
log_is_front None = ([], take-append-drop 0 [])
log_is_front (Some e) = (drop e.logged e.history, take-append-drop e.logged e.history)

-- an entry with a place is one of the history
pub place_at-within : (sent : Sent) (h : List Entry) (i p : ℕ) → place_at sent h i ≡ Some p → i < length h
place_at-within sent h i p at = by (slice_get h i) refl
  where
    by : (o : Option Entry) → slice_get h i ≡ o → i < length h
    by None e = let none : place_at sent h i ≡ None = rw e refl in absurd (none-some p (sym none ∙ at))
    by (Some x) e = slice_get_within h i x e

-- whose history this is
pub history_of : (a : AgeEnd) (i : ℕ) (e : MemberEnd) → slice_get a.members i ≡ Some e
    → (accounts_of a.members i).history ≡ e.history
history_of a i e at = ap (λ z. option_map_or (λ (e : MemberEnd). e.history) z []) at

pub turned_past : (g h : List Entry) → SamePast g h → SamePast h g
turned_past g h same i j age number m n at_i at_j =
    let r = same j i age number n m at_j at_i in (sym r.0, sym r.1)

-- the number of a member
pub filled_more : (P : ℕ → ℕ → Type 0) (of n v : ℕ) (xs : List ℕ) → IsFilledTo P of n xs → n < 16
    → has of n ≡ true → P n v → IsFilledTo P of (n + 1) (slice_set xs n v)
filled_more P of n v xs so within member right = record {
  size = length-set xs n v ∙ so.size;
  below = λ k l m. by k (below_or_last k n l) m;
  others = λ k m. get_or-set_other xs n k v 0 (λ e. absurd (cc (member, m, e))) ∙ so.others k m;
}
  where
    room : n < length xs
    room = rw so.size within

    by : (k : ℕ) → (k < n) ⊎ (k ≡ n) → has of k ≡ true → P k (slice_index (slice_set xs n v) k)
    by k (inl l) m = subst (P k) (sym (get_or-set_other xs n k v 0 (λ e. absurd (omega arith)))) (so.below k l m)
    by k (inr e) m = rw e (subst (P n) (sym (get_or-set_same xs n v 0 room)) right)

-- whoever is no member keeps 0
pub filled_past : (P : ℕ → ℕ → Type 0) (of n : ℕ) (xs : List ℕ) → IsFilledTo P of n xs
    → has of n ≡ false → IsFilledTo P of (n + 1) xs
filled_past P of n xs so other = record {
  size = so.size;
  below = λ k l m. by k (below_or_last k n l) m;
  others = so.others;
}
  where
    by : (k : ℕ) → (k < n) ⊎ (k ≡ n) → has of k ≡ true → P k (slice_index xs k)
    by k (inl l) m = so.below k l m
    by k (inr e) m = absurd (cc (other, m, e))

-- no entries, no view
pub no_view : (v : GroupView) → view_of [] ≡ Some v → ⊥
unfolding view_after
no_view v e = absurd cc

-- each of the lists is the first part of the history of a member that ended so
abbrev pub AreFirstPartsOf : List MemberEnd → List (List Entry) → Type 0
AreFirstPartsOf ends lists = (m : ℕ) (es : List Entry) → slice_get lists m ≡ Some es
    → (i : ℕ) × (e : MemberEnd) × (slice_get ends i ≡ Some e) × IsPrefixOf es e.history

-- a part of the start is a part of what the age begins with
pub part_of_opened : (es start : List Entry) (v : Entry) → IsPrefixOf es start → IsPrefixOf es (start ++ v ∷ [])
part_of_opened es start v part =
    (part.0 ++ v ∷ [], sym (append_assoc es part.0 (v ∷ [])) ∙ ap (λ (l : List Entry). l ++ v ∷ []) part.1)

-- what a log lacks of a start, by a slice of it
pub lacking : (es start have entries : List Entry) → IsPrefixOf es start → have ≡ es → entries ≡ start
    → es ++ take (length entries - length have) (drop (length have) entries) ≡ start
lacking es start have entries part mine whole =
    let rest : take (length start - length es) (drop (length es) start) ≡ part.0 =
    take_rest start (length es) ∙ ap (drop (length es)) (sym part.1) ∙ drop_at es part.0 (length es) refl in
    ap (λ (l : List Entry). es ++ take (length entries - length l) (drop (length l) entries)) mine
    ∙ ap (λ (l : List Entry). es ++ take (length l - length es) (drop (length es) l)) whole
    ∙ ap (λ (l : List Entry). es ++ l) rest ∙ part.1

-- what a member knew to be durable, by its account
pub durable_by : (ends : List MemberEnd) (m : ℕ) (e : MemberEnd) (start : List Entry) → slice_get ends m ≡ Some e
    → IsPrefixOf (take (accounts_of ends m).durable (accounts_of ends m).history) start
    → IsPrefixOf (take e.durable e.history) start
durable_by ends m e start at kept =
    subst (λ (end : Option MemberEnd). IsPrefixOf (take (option_map_or (λ (e : MemberEnd). e.durable) end 0)
    (option_map_or (λ (e : MemberEnd). e.history) end [])) start) at kept

-- the number of the view of these entries is no more than its members, and whom a view has named, have come
pub record IsFew (o : Opening) (es : List Entry) : Type 0 where
  pub number : ℕ
  pub mask : ℕ
  pub named : ℕ → Bool
  pub view : view_of es ≡ Some (record { age = o.age; number = number; members = members_of mask })
  pub holds : (s : ℕ) → has mask s ≡ true → named s ≡ true
  pub met : (s : ℕ) → named s ≡ true → IsInNoView o.age es s → ⊥
  pub few : number ≤ total named (has mask) 16

-- a sound start has no more messages of a member than the script
pub start_messages : (o : Opening) (s : ℕ) → Sound o → length (messages_from s o.start) ≤ length (messages_of o s)
start_messages o s sound = subst (λ (h : List Entry). length (messages_from s h) ≤ length (messages_of o s))
    (take_all (length o.start) o.start (le_refl (length o.start)))
    (from_before o s (length o.start) sound (le_refl (length o.start)))

pub up_to_view_valid : (es : List Entry) → All IsValidEntry es → All IsValidEntry (up_to_view es)
unfolding up_to_view
up_to_view_valid [] valid = valid
up_to_view_valid (View a n m ∷ es) valid = All-cons IsValidEntry (View a n m) (up_to_view es)
    (All-head IsValidEntry (View a n m) es valid) (up_to_view_valid es (All-tail IsValidEntry (View a n m) es valid))
up_to_view_valid (Msg s i b ∷ es) valid = by (up_to_view es)
    (up_to_view_valid es (All-tail IsValidEntry (Msg s i b) es valid))
  where
    by : (xs : List Entry) → All IsValidEntry xs → All IsValidEntry (before_some (Msg s i b) xs)
    by [] all = all
    by (x ∷ xs) all = All-cons IsValidEntry (Msg s i b) (x ∷ xs) (All-head IsValidEntry (Msg s i b) es valid) all
