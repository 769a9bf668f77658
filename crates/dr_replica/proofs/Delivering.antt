-- The rest of a view, delivered place by place.
use Rattle.std.{specs.{List.list_all, Prelude.{◌&&◌, nat_le}}, proofs.lemmas.List.Folds.list_all_at}
use Rattle.std.proofs.Common.{◌≡◌, ℕ, ◌+◌, ◌*◌, ◌/◌, ◌%◌, ◌<◌, ◌≤◌, Bool, true, false, nat_lt, List, [], ◌∷◌, ◌++◌, fold, length, map, slice_index, slice_index_or, Some, None, inl, inr, refl, sym, ap, subst, ◌∙◌, arith, le_trans, length-append}
use Rattle.std.proofs.lemmas.{Bool.{cases_lt, ltb-true}, List.{get_or-map, get_or_past, length-map}}
use Rattle.dr_entry.{specs.declared.entry.{Entry.Entry, Item.TheVariants.Null}, proofs.NumberFacts.fits_by_own}
use Rattle.dr_history.specs.{Members.members_of, Order.messages_from, Places.rest_places}
use Rattle.dr_history.proofs.{NumberedLemmas.messages_from-append, Orders.few_messages}
use Rattle.dr_program.specs.Replica as replica
use Rattle.dr_program.specs.Replica.{Replica, with_place}
use Rattle.dr_replica.specs.{History.Kept, Rests.{AreWithin, fits, has_taken, merged, merged_from, with_item}}
use Rattle.dr_replica.specs.Inside.{IsInsideReplica, replica_inside as replica_of}
use Rattle.dr_replica.specs.{Items.{Held, item_held_at, sender_held_at}, declared.replica.Replica.TheInside.Inside}
use Rattle.dr_machine.specs.Effects.{entries_of}
use Rattle.dr_order.{specs.Merge.IsNextHeld, proofs.Merges.{rest_places-next, rest_places-none}}
use Rattle.dr_trim.specs.Trims.{trims_by_rank}

-- the item of the next place goes first, and the rest follows it
pub next_merged : (h : Held) (es : List Entry) (trims : List ℕ) (from p : ℕ) → 0 < length trims
    → IsNextHeld trims from (Some p) → merged_from h es trims from ≡ merged_from h (with_item h es p) trims (p + 1)
next_merged h es trims from p some next =
    ap (λ (ps : List ℕ). fold (with_item h) es ps) (rest_places-next trims from p some next)

-- where no place is left, nothing more is delivered
pub none_merged : (h : Held) (es : List Entry) (trims : List ℕ) (from : ℕ) → 0 < length trims
    → IsNextHeld trims from None → merged_from h es trims from ≡ es
none_merged h es trims from some none =
    ap (λ (ps : List ℕ). fold (with_item h) es ps) (rest_places-none trims from some none)

-- what is delivered makes a history no shorter
items_lengthen : (h : Held) (es : List Entry) (ps : List ℕ) → length es ≤ length (fold (with_item h) es ps)
items_lengthen h es [] = omega arith
items_lengthen h es (p ∷ ps) =
    le_trans (omega (arith, length-append es (entries_of es (sender_held_at h p) (item_held_at h p))))
    (items_lengthen h (with_item h es p) ps)

pub merged_longer : (h : Held) (es : List Entry) (trims : List ℕ) (from : ℕ)
    → length es ≤ length (merged_from h es trims from)
merged_longer h es trims from = items_lengthen h es (rest_places trims from)

-- a history is told by its parts
pub history_is : (h g : Kept) (es : List Entry) → h.roster ≡ g.roster → h.entries ≡ es → h.room ≡ g.room
    → h ≡ record g { entries = es }
history_is h g es roster entries room =
    ap (λ (n : ℕ). record { roster = n; entries = h.entries; room = h.room }) roster
    ∙ ap (λ (x : List Entry). record { roster = g.roster; entries = x; room = h.room }) entries
    ∙ ap (λ (n : ℕ). record { roster = g.roster; entries = es; room = n }) room

-- there is a history of so many entries, so many of which are the member's messages, behind which what is
-- left from a place on makes what there will be
pub record AreCounted (h : Held) (es : List Entry) (trims : List ℕ) (start from me entries own : ℕ) : Type 0 where
  pub so_far : List Entry
  pub entries_are : entries ≡ length so_far
  pub own_are : own ≡ length (messages_from me so_far)
  pub left : merged_from h so_far trims from ≡ merged_from h es trims start

-- one place more is counted
pub counted_more : (h : Held) (es : List Entry) (trims : List ℕ) (start from p me entries own e o : ℕ)
    → 0 < length trims → IsNextHeld trims from (Some p) → AreCounted h es trims start from me entries own
    → ((so_far : List Entry) → e ≡ length (entries_of so_far (sender_held_at h p) (item_held_at h p)))
    → ((so_far : List Entry) → o ≡ length
    (messages_from me (entries_of so_far (sender_held_at h p) (item_held_at h p))))
    → AreCounted h es trims start (p + 1) me (entries + e) (own + o)
counted_more h es trims start from p me entries own e o some next are more mine = record {
  so_far = with_item h are.so_far p;
  entries_are = omega (arith, are.entries_are, more are.so_far, length-append are.so_far (added are.so_far));
  own_are = omega (
    arith,
    are.own_are,
    mine are.so_far,
    ap length (messages_from-append me are.so_far (added are.so_far)),
    length-append (messages_from me are.so_far) (messages_from me (added are.so_far)),
  );
  left = sym (next_merged h are.so_far trims from p some next) ∙ are.left;
}
  where
    added : List Entry → List Entry
    added so_far = entries_of so_far (sender_held_at h p) (item_held_at h p)

-- so far there are no more entries than there will be, and no more of the member's messages than entries
pub counted_few : (h : Held) (es : List Entry) (trims : List ℕ) (start from me entries own : ℕ)
    → AreCounted h es trims start from me entries own
    → (entries ≤ length (merged_from h es trims start)) × (own ≤ entries)
counted_few h es trims start from me entries own are = (
  omega (arith, are.entries_are, ap length are.left, merged_longer h are.so_far trims from),
  omega (arith, are.entries_are, are.own_are, few_messages me are.so_far),
)

-- in the end all are counted
pub counted_all : (h : Held) (es : List Entry) (trims : List ℕ) (start from me entries own : ℕ)
    → 0 < length trims → IsNextHeld trims from None → AreCounted h es trims start from me entries own
    → (entries ≡ length (merged_from h es trims start))
    × (own ≡ length (messages_from me (merged_from h es trims start)))
counted_all h es trims start from me entries own some none are =
    let whole = sym (none_merged h are.so_far trims from some none) ∙ are.left in (
      are.entries_are ∙ ap length whole,
      are.own_are ∙ ap (λ (x : List Entry). length (messages_from me x)) whole,
    )

-- ---- the same of a replica's fields

-- a member that has what a trim takes has the items that it takes by rank
pub taken_within : (a : Inside) (trim : List ℕ) → a.items.members ≡ members_of a.members
    → has_taken (replica_of a) trim ≡ true → AreWithin a.items (trims_by_rank a.members trim)
taken_within a trim members taken =
    subst (λ (ms : List ℕ). AreWithin a.items (map (slice_index trim) ms)) members record {
      ranks = length-map a.items.members (slice_index trim);
      taken = λ i. elim (cases_lt i (length a.items.members)) [
        | inl within ↦ omega (
          arith,
          each i within,
          get_or-map (slice_index trim) a.items.members i 0 0 within,
          get_or-map (slice_index a.items.counts) a.items.members i 0 0 within,
        )
        | inr past ↦ omega (
          arith,
          get_or_past (map (slice_index trim) a.items.members) i 0
              (omega (arith, past, length-map a.items.members (slice_index trim))),
        )
      ];
    }
  where
    test : ℕ → Bool
    test k = nat_lt (slice_index trim k) (slice_index a.items.counts k + 1)

    all : list_all test a.items.members ≡ true
    all = ap (list_all test) members ∙ taken

    each : (i : ℕ) → i < length a.items.members → slice_index trim (slice_index a.items.members i)
        ≤ slice_index a.items.counts (slice_index a.items.members i)
    each i l = by (slice_index a.items.members i) refl (test (slice_index a.items.members i)) refl
      where
        by : (s : ℕ) → slice_index a.items.members i ≡ s → (b : Bool) → test s ≡ b
            → slice_index trim s ≤ slice_index a.items.counts s
        by s at true e = omega (arith, ltb-true (slice_index trim s) (slice_index a.items.counts s + 1) e)
        by s at false e =
            let none = list_all_at test a.items.members i 0 l (ap test at ∙ e) in absurd (cc (none, all))

-- what a trim has left is the same to a replica
place_same : (a : Inside) → IsInsideReplica a → (es : List Entry) (p : ℕ)
    → with_item a.items es p ≡ with_place (replica_of a) es p
place_same a inside es p = ap (λ (ms : List ℕ). es ++ entries_of es (slice_index ms (p % length ms))
    (slice_index_or a.items.items (p / length ms * a.items.roster + slice_index ms (p % length ms)) Null))
    inside.members ∙ ap (λ (n : ℕ). es ++ entries_of es (replica.sender_of_place (replica_of a) p)
    (slice_index_or a.items.items (p / length (replica.members_in_view (replica_of a)) * n
    + replica.sender_of_place (replica_of a) p) Null)) inside.roster

pub merged_same : (a : Inside) (trim : List ℕ) → IsInsideReplica a
    → merged_from a.items a.history.entries (trims_by_rank a.members trim) a.next.place ≡ merged (replica_of a) trim
merged_same a trim inside = by a.history.entries (rest_places (trims_by_rank a.members trim) a.next.place)
  where
    by : (es : List Entry) (ps : List ℕ) → fold (with_item a.items) es ps ≡ fold (with_place (replica_of a)) es ps
    by es [] = refl
    by es (p ∷ ps) = by (with_item a.items es p) ps
        ∙ ap (λ (x : List Entry). fold (with_place (replica_of a)) x ps) (place_same a inside es p)

-- whether there is room is asked of what the fields tell
pub fits_is : (a : Inside) (now : Replica) (trim : List ℕ) → replica_of a ≡ now → IsInsideReplica a
    → (nat_lt (length (merged_from a.items a.history.entries (trims_by_rank a.members trim) a.next.place))
    a.history.room && nat_lt (length (messages_from a.rows.me
    (merged_from a.items a.history.entries (trims_by_rank a.members trim) a.next.place)))
    (length a.messages.items + 1)) ≡ fits now (merged now trim)
fits_is a now trim same inside = ap (λ (es : List Entry). fits (replica_of a) es) (merged_same a trim inside)
    ∙ ap (λ (r : Replica). fits r (merged r trim)) same

pub fits_told : (a : Inside) (now : Replica) (trim : List ℕ) (entries own k me : ℕ) → replica_of a ≡ now
    → IsInsideReplica a → me ≡ a.rows.me → k ≡ length a.messages.items → entries < a.history.room
    → entries ≡ length (merged_from a.items a.history.entries (trims_by_rank a.members trim) a.next.place)
    → own ≡ length (messages_from me
    (merged_from a.items a.history.entries (trims_by_rank a.members trim) a.next.place))
    → nat_le own k ≡ fits now (merged now trim)
fits_told a now trim entries own k me same inside mine long room count own_count =
    let es : List Entry = merged_from a.items a.history.entries (trims_by_rank a.members trim) a.next.place in
    ap (nat_le own) long ∙ fits_by_own entries own a.history.room (length a.messages.items) room
    ∙ ap (λ (n : ℕ). nat_lt n a.history.room && nat_lt own (length a.messages.items + 1)) count
    ∙ ap (λ (n : ℕ). nat_lt (length es) a.history.room && nat_lt n (length a.messages.items + 1))
    (own_count ∙ ap (λ (m : ℕ). length (messages_from m es)) mine) ∙ fits_is a now trim same inside
