-- The messages of a sender, one entry later, and the script's messages by their numbers.
use Rattle.std.specs.{List.enumerate_from, Prelude.{Option, None}}
use Rattle.std.proofs.Common.{◌≡◌, ℕ, ◌+◌, ◌<◌, ◌==◌, Bool, false, cond, List, [], ◌∷◌, ◌++◌, length, take, get_or, slice_get, Some, refl, ap, ◌∙◌, append-nil, zero-add, ◌≤◌, drop, sym, arith, length-append, ◌-◌, inl, inr, zero, suc, add-one, set}
use Rattle.std.proofs.lemmas.{Bool.{eq-eqb, cases_eq, ne_eqb}, Grind.common_steps}
use Rattle.std.proofs.lemmas.List.{take_more, get_or-map, length-map, take-append-drop, length-take-le, get_or_at, get_or-set_same, get_or-set_other, length-set}
use Rattle.std.proofs.lemmas.List.{Elements.filter-append, FromFn.{length-enumerate_from, get_or-enumerate_from}}
use Rattle.std.proofs.lemmas.Option.{slice_get_within, get_or_from_slice_get, slice_get-get_or, slice_get_cases}
use Rattle.dr_entry.{specs.declared.entry.Entry.{Entry, TheVariants.{View, Msg}}, proofs.ListPlaces.take_read}
use Rattle.dr_entry.proofs.NumberFacts.{other_number}
use Rattle.dr_history.specs.History.{messages_of, IsPrefixOf}
use Rattle.dr_history.specs.{Order.{messages_from, numbered_messages, first_entries}, Soundness.{MayStand, Sound}}
use Rattle.dr_history.{specs.declared.opening.Opening.Opening, proofs.Orders.Counts}

-- a sender's messages in two histories one behind the other are those of the one and then those of
-- the other
pub messages_from-append : (s : ℕ) (g h : List Entry) → messages_from s (g ++ h) ≡ messages_from s g
    ++ messages_from s h
messages_from-append s g h = filter-append _ g h

-- a View adds none
pub messages_from-View : (s : ℕ) (h : List Entry) (a n m : ℕ)
    → messages_from s (h ++ View a n m ∷ []) ≡ messages_from s h
messages_from-View s h a n m = messages_from-append s h (View a n m ∷ []) ∙ append-nil (messages_from s h)

-- nor does a message of another sender
pub messages_from-other : (s : ℕ) (h : List Entry) (sender i : ℕ) (b : List ℕ) → (sender == s) ≡ false
    → messages_from s (h ++ Msg sender i b ∷ []) ≡ messages_from s h
messages_from-other s h sender i b apart = messages_from-append s h (Msg sender i b ∷ [])
    ∙ (ap (λ (t : Bool). messages_from s h ++ cond t (Msg sender i b ∷ []) []) apart ∙ append-nil (messages_from s h))

-- one of the sender adds itself
pub messages_from-Msg : (s : ℕ) (h : List Entry) (i : ℕ) (b : List ℕ)
    → messages_from s (h ++ Msg s i b ∷ []) ≡ messages_from s h ++ Msg s i b ∷ []
messages_from-Msg s h i b = messages_from-append s h (Msg s i b ∷ [])
    ∙ ap (λ (t : Bool). messages_from s h ++ cond t (Msg s i b ∷ []) []) (eq-eqb s s refl)

-- numbering leaves the count of a sender's messages
pub length-numbered_messages : (o : Opening) (s : ℕ) → length (numbered_messages o s) ≡ length (messages_of o s)
length-numbered_messages o s = length-map (enumerate_from 0 (messages_of o s)) _
    ∙ length-enumerate_from 0 (messages_of o s)

-- the script's message of this number as an entry
pub get_or-numbered_messages : (o : Opening) (s k : ℕ) (d : Entry) → k < length (messages_of o s)
    → get_or (numbered_messages o s) k d ≡ Msg s k (get_or (messages_of o s) k [])
get_or-numbered_messages o s k d within = get_or-map _ (enumerate_from 0 (messages_of o s)) k (0, []) d
    (rw (length-enumerate_from 0 (messages_of o s)) within) ∙
    rw (get_or-enumerate_from 0 (messages_of o s) k (0, []) within, zero-add k) refl

-- the script's messages up to one more
pub numbered_messages-more : (o : Opening) (s k : ℕ) (b : List ℕ) → slice_get (messages_of o s) k ≡ Some b
    → take (k + 1) (numbered_messages o s) ≡ take k (numbered_messages o s) ++ Msg s k b ∷ []
numbered_messages-more o s k b at =
    let within : k < length (messages_of o s) = slice_get_within (messages_of o s) k b at in
    let read : get_or (messages_of o s) k [] ≡ b = get_or_from_slice_get (messages_of o s) k b [] at in
    let d : Entry = View 0 0 0 in
    take_more (numbered_messages o s) k d (rw (length-numbered_messages o s) within) ∙ ap (λ (e : Entry). take k
    (numbered_messages o s) ++ e ∷ []) (get_or-numbered_messages o s k d within ∙ ap (λ (c : List ℕ). Msg s k c) read)

-- where the sender's messages up to an entry are the script's first ones, and all of them begin the
-- script's, the entry is the next one
pub numbered_here : (o : Opening) (s : ℕ) (h : List Entry) (i next index : ℕ) (b : List ℕ) → i < length h
    → Msg s index b ≡ get_or h i (Msg s index b) → messages_from s (take i h) ≡ take next (numbered_messages o s)
    → next ≤ length (messages_of o s) → IsPrefixOf (messages_from s h) (numbered_messages o s)
    → (slice_get (messages_of o s) next ≡ Some b) × (index ≡ next)
numbered_here o s h i next index b within read so_far given prefix =
    let numbered : List Entry = numbered_messages o s in
    let rest : List Entry = messages_from s (drop (i + 1) h) in
    let parts : messages_from s h ≡ (take next numbered ++ Msg s index b ∷ []) ++ rest =
    ap (messages_from s) (sym (take-append-drop (i + 1) h)) ∙
    (messages_from-append s (take (i + 1) h) (drop (i + 1) h) ∙ ap (λ (es : List Entry). es ++ rest)
    (ap (messages_from s) (take_read h i (Msg s index b) within read) ∙
    (messages_from-Msg s (take i h) index b ∙ ap (λ (es : List Entry). es ++ Msg s index b ∷ []) so_far))) in
    let whole : take next numbered ++ (Msg s index b ∷ (rest ++ prefix.0)) ≡ numbered =
    grind (arith, common_steps, parts, prefix.1) in
    let front : length (take next numbered) ≡ next =
    length-take-le next numbered (rw (length-numbered_messages o s) given) in
    let longer : next < length (messages_of o s) = omega (
      arith,
      length-append (take next numbered) (Msg s index b ∷ (rest ++ prefix.0)),
      ap length whole,
      length-numbered_messages o s,
    ) in
    let here : get_or numbered next (Msg s index b) ≡ Msg s index b =
    rw whole at (get_or_at (take next numbered) (Msg s index b) (rest ++ prefix.0) (Msg s index b) next front) in
    let same : Msg s index b ≡ Msg s next (get_or (messages_of o s) next []) =
    sym here ∙ get_or-numbered_messages o s next (Msg s index b) longer in
    let same_index : index ≡ next = cc in
    let same_bytes : get_or (messages_of o s) next [] ≡ b = cc in
    (slice_get-get_or (messages_of o s) next [] longer ∙ ap Some same_bytes, same_index)

-- one more of the sender's messages, where it is the script's next one
pub numbered_step : (o : Opening) (s : ℕ) (h : List Entry) (i next index : ℕ) (b : List ℕ) → i < length h
    → Msg s index b ≡ get_or h i (Msg s index b) → messages_from s (take i h) ≡ take next (numbered_messages o s)
    → slice_get (messages_of o s) next ≡ Some b → index ≡ next
    → messages_from s (take (i + 1) h) ≡ take (next + 1) (numbered_messages o s)
numbered_step o s h i next index b within read so_far at same =
    ap (messages_from s) (take_read h i (Msg s index b) within read) ∙
    (messages_from-Msg s (take i h) index b ∙
    (ap (λ (es : List Entry). es ++ Msg s index b ∷ []) so_far ∙
    (ap (λ (k : ℕ). take next (numbered_messages o s) ++ Msg s k b ∷ []) same
    ∙ sym (numbered_messages-more o s next b at))))

-- one entry more, which may stand there
one_more_stands : (o : Opening) (m : ℕ) (before : List Entry) (e : Entry) → MayStand o before e
    → length (messages_from m before) ≤ length (messages_of o m)
    → length (messages_from m (before ++ e ∷ [])) ≤ length (messages_of o m)
one_more_stands o m before (View a n v) stands l = rw (messages_from-View m before a n v) l
one_more_stands o m before (Msg s i b) stands l = elim (cases_eq s m) [
  | inl same ↦
      let within : i < length (messages_of o s) = slice_get_within (messages_of o s) i b stands.2 in
      rw (same, messages_from-Msg m before i b, length-append (messages_from m before) (Msg m i b ∷ []))
      (omega (arith, rw same at within, rw same at stands.1))
  | inr other ↦ rw (messages_from-other m before s i b (other_number s m other)) l
]

-- a sound start has no more messages of a member than the script
pub from_before : (o : Opening) (m k : ℕ) → Sound o → k ≤ length o.start
    → length (messages_from m (take k o.start)) ≤ length (messages_of o m)
from_before o m zero sound l = omega arith
from_before o m (suc k) sound l = by (slice_get o.start k) refl (from_before o m k sound (omega (arith, l)))
  where
    by : (x : Option Entry) → slice_get o.start k ≡ x → length (messages_from m (take k o.start))
        ≤ length (messages_of o m) → length (messages_from m (take (suc k) o.start)) ≤ length (messages_of o m)
    by None e so_far = absurd (grind (arith, slice_get_cases o.start k, l, e))
    by (Some e) at so_far =
        let more : take (suc k) o.start ≡ take k o.start ++ e ∷ [] = rw (add-one k) at (take_more o.start k e
        (omega (arith, l)) ∙ ap (λ x. take k o.start ++ x ∷ []) (get_or_from_slice_get o.start k e e at)) in
        rw more (one_more_stands o m (take k o.start) e (sound.entries k e at) so_far)

-- one message more counts for its sender
pub counts_message : (counts : List ℕ) (es : List Entry) (s c i : ℕ) (b : List ℕ) → Counts counts es
    → s < length counts → c ≡ get_or counts s 0 + 1 → Counts (set counts s c) (es ++ Msg s i b ∷ [])
counts_message counts es s c i b all within more j lt =
    let still : j < length counts = omega (arith, lt, length-set counts s c) in
    elim (cases_eq j s) [
      | inl same ↦
          let set = get_or-set_same counts s c 0 within in
          let grown = ap length (messages_from-Msg s es i b) ∙ length-append (messages_from s es) (Msg s i b ∷ []) in
          rw same (omega (arith, set, more, grown, all s within))
      | inr other ↦
          let kept = get_or-set_other counts s j c 0 other in
          let stays = ap length (messages_from-other j es s i b (ne_eqb s j (λ e. other (sym e)))) in
          omega (arith, kept, stays, all j still)
    ]

-- a message of nobody among them counts for nobody, and neither does a View
counts_other : (counts : List ℕ) (es : List Entry) (s i : ℕ) (b : List ℕ) → Counts counts es
    → length counts ≤ s → Counts counts (es ++ Msg s i b ∷ [])
counts_other counts es s i b all past j lt =
    let stays = ap length (messages_from-other j es s i b (ne_eqb s j (λ e. omega (arith, e)))) in
    omega (arith, stays, all j lt)

counts_view : (counts : List ℕ) (es : List Entry) (a n m : ℕ) → Counts counts es
    → Counts counts (es ++ View a n m ∷ [])
counts_view counts es a n m all j lt = all j lt ∙ sym (ap length (messages_from-View j es a n m))

-- a message of a sender with a count, which is set to one more, is counted
pub counted_message : (counts new : List ℕ) (es more : List Entry) (e : Entry) (s f i : ℕ)
    (b : List ℕ) → Counts counts es → more ≡ es ++ e ∷ [] → e ≡ Msg s i b → f ≡ s
    → f < length counts → new ≡ set counts f (get_or counts f 0 + 1) → Counts new more
counted_message counts new es more e s f i b all on is at within after =
    rw (after, on, is, at) (counts_message counts es s (get_or counts s 0 + 1) i b all (omega (arith, at)) refl)

-- a message of a sender without a count leaves the counts right
pub passed_message : (counts new : List ℕ) (es more : List Entry) (e : Entry) (s f i : ℕ) (b : List ℕ)
    → Counts counts es → more ≡ es ++ e ∷ [] → e ≡ Msg s i b → f ≡ s
    → length counts ≤ f → new ≡ counts → Counts new more
passed_message counts new es more e s f i b all on is at past after =
    rw (after, on, is) (counts_other counts es s i b all (omega (arith, at)))

-- a View leaves the counts right
pub counted_view : (counts new : List ℕ) (es more : List Entry) (e : Entry) (a n m : ℕ)
    → Counts counts es → more ≡ es ++ e ∷ [] → e ≡ View a n m → new ≡ counts → Counts new more
counted_view counts new es more e a n m all on is after = rw (after, on, is) (counts_view counts es a n m all)

-- one more message of a sender
pub length-pushed : (s : ℕ) (es fs : List Entry) (i : ℕ) (b : List ℕ) → fs ≡ es ++ Msg s i b ∷ []
    → length (messages_from s fs) ≡ length (messages_from s es) + 1
length-pushed s es fs i b e = ap (λ gs. length (messages_from s gs)) e ∙
    (ap length (messages_from-Msg s es i b) ∙ length-append (messages_from s es) (Msg s i b ∷ []))

-- the first entries have the messages of the start
pub start_messages : (o : Opening) (s : ℕ)
    → length (messages_from s (first_entries o)) ≡ length (messages_from s o.start)
start_messages o s = ap length (messages_from-View s o.start o.age 0 o.members)
