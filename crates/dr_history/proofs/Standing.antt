-- Each entry of a history in order may stand behind those before it, where the age starts soundly. So a later
-- age may find a part of such a history on a log.
use Rattle.std.specs.List.{position}
use Rattle.std.proofs.Common.{◌≡◌, refl, sym, ◌∙◌, ℕ, ◌==◌, List, Contains, Option, None, Some, IsSome, IsSomeAnd, ap, ◌+◌, ◌<◌, arith, [], ◌∷◌, ◌++◌, length, take, drop, get_or, slice_get, take-append-drop, ◌⊎◌, inl, inr, subst, is_some, option_and_then, append_assoc, take_at, slice_index_or, ◌-◌}
use Rattle.std.proofs.lemmas.Option.{none-some, slice_get_within, slice_get-get_or, get_or_from_slice_get, same_Some}
use Rattle.dr_entry.{specs.declared.entry.Entry.{Entry, TheVariants.{Msg, View}}, proofs.ListParts.rank-member}
use Rattle.dr_entry.proofs.{ListPlaces.{slice_get-seam, take-next, slice_get-some}, OptionFacts.value_of}
use Rattle.dr_history.specs.Agreement.{SamePast}
use Rattle.dr_history.specs.History.{GroupView, Sent, place_in, place_of_entry, IsPrefixOf, messages_of, view_of}
use Rattle.dr_history.specs.Order.{messages_from, numbered_messages, AreOfRoster, ContinuesAge, InOrder, IsSucceededBy}
use Rattle.dr_history.{specs.{Restarting.AllStand, declared.opening.Opening.Opening}, proofs.Histories.turned_past}
use Rattle.dr_history.{specs.Soundness.{MayStand, Opens, Sound}, proofs.ViewLemmas.{ViewsRise, ViewsRise-standing}}
use Rattle.dr_history.proofs.{Lists.{slice_get-prefix, take-prefix, SamePast-prefix}, SentLemmas.place_in-no_member}
use Rattle.dr_history.proofs.NumberedLemmas.{messages_from-append, messages_from-Msg, length-numbered_messages, get_or-numbered_messages}

-- whose message has a place in a view is a member of it
place-member : (sent : Sent) (z : Option GroupView) (s k : ℕ) (b : List ℕ)
    → IsSome (place_of_entry sent z (Msg s k b)) → IsSomeAnd z (λ v. Contains v.members s)
place-member sent None s k b placed = absurd (cc)
place-member sent (Some v) s k b placed = by (position (λ m. m == s) v.members) refl
  where
    by : (r : Option ℕ) → position (λ m. m == s) v.members ≡ r → Contains v.members s
    by None none =
        let x = value_of (place_in sent v s k) placed in
        absurd (none-some x.0 (sym (place_in-no_member sent v s k none) ∙ x.1))
    by (Some rank) at = rank-member v.members s rank at

-- where the messages of each sender are its first ones by the script, each is the next one of its sender
next-message : (o : Opening) (h : List Entry) (i s k : ℕ) (b : List ℕ)
    → IsPrefixOf (messages_from s h) (numbered_messages o s) → slice_get h i ≡ Some (Msg s k b)
    → (k ≡ length (messages_from s (take i h))) × (slice_get (messages_of o s) k ≡ Some b)
next-message o h i s k b numbered at =
    let before = messages_from s (take i h) in
    let n = length before in
    let more : messages_from s (take (i + 1) h) ≡ before ++ Msg s k b ∷ [] =
    ap (messages_from s) (take-next h i (Msg s k b) at) ∙ messages_from-Msg s (take i h) k b in
    let front : IsPrefixOf (messages_from s (take (i + 1) h)) (messages_from s h) = (
      messages_from s (drop (i + 1) h),
      sym (messages_from-append s (take (i + 1) h) (drop (i + 1) h))
          ∙ ap (messages_from s) (take-append-drop (i + 1) h),
    ) in
    let here : slice_get (messages_from s (take (i + 1) h)) n ≡ Some (Msg s k b) =
    ap (λ es. slice_get es n) more ∙ slice_get-seam before (Msg s k b) [] in
    let script : slice_get (numbered_messages o s) n ≡ Some (Msg s k b) =
    slice_get-prefix (messages_from s h) (numbered_messages o s) n (Msg s k b) numbered
    (slice_get-prefix (messages_from s (take (i + 1) h)) (messages_from s h) n (Msg s k b) front here) in
    let within : n < length (messages_of o s) =
    omega (arith, slice_get_within (numbered_messages o s) n (Msg s k b) script, length-numbered_messages o s) in
    let same : Msg s n (get_or (messages_of o s) n []) ≡ Msg s k b = sym (get_or-numbered_messages o s n
    (View 0 0 0) within) ∙ get_or_from_slice_get (numbered_messages o s) n (Msg s k b) (View 0 0 0) script in
    let index : n ≡ k = cc in
    let bytes : get_or (messages_of o s) n [] ≡ b = cc in (
      sym index,
      ap (slice_get (messages_of o s)) (sym index) ∙ (slice_get-get_or (messages_of o s) n [] within ∙ ap Some bytes),
    )

-- each entry of a history in order may stand: those of the start, View 0, and those behind it
pub history-stands : (o : Opening) (sent : Sent) (h : List Entry) → Sound o → InOrder o sent h → AllStand o h
history-stands o sent h sound order i e at = by (apart i (length o.start))
  where
    apart : (i j : ℕ) → (i < j) ⊎ ((i ≡ j) ⊎ (j < i))
    apart i j = grind arith

    first : Entry
    first = View o.age 0 o.members

    starts : IsPrefixOf o.start h
    starts = (first ∷ order.begins.0, sym (append_assoc o.start (first ∷ []) order.begins.0) ∙ order.begins.1)

    behind : (x : Entry) → slice_get h i ≡ Some x → length o.start < i → MayStand o (take i h) x
    behind (View a n m) is more = by (view_of (take i h)) (order.views i a n m more is)
      where
        by : (z : Option GroupView) → IsSomeAnd z (λ v. IsSucceededBy o (take i h) v a n m)
            → AreOfRoster (length o.messages) m × (Opens z a n ⊎ IsSomeAnd z (λ v. ContinuesAge v a n m))
        by None goes = absurd goes
        by (Some v) goes = (goes.roster, inr goes.follows)
    behind (Msg s k b) is more = (
      place-member sent (view_of (take i h)) s k b
          (ap (λ z. is_some (option_and_then (place_of_entry sent (view_of (take i h))) z)) (sym is)
          ∙ order.placed i s k b more is),
      (next-message o h i s k b (order.numbered s) is).0,
      (next-message o h i s k b (order.numbered s) is).1,
    )

    by : (i < length o.start) ⊎ ((i ≡ length o.start) ⊎ (length o.start < i)) → MayStand o (take i h) e
    by (inl less) =
        let here = slice_get-some o.start i less in
        let same : here.0 ≡ e = same_Some here.0 e (sym (slice_get-prefix o.start h i here.0 starts here.1) ∙ at) in
        subst (λ es. MayStand o es e) (sym (take-prefix o.start h i starts (omega (arith, less))))
        (sound.entries i e (here.1 ∙ ap Some same))
    by (inr (inl is)) =
        let before : take i h ≡ o.start = ap (λ j. take j h) is
        ∙ (ap (take (length o.start)) (sym starts.1) ∙ take_at o.start starts.0 (length o.start) refl) in
        let here : slice_get h i ≡ Some first = ap (slice_get h) is
        ∙ (ap (λ es. slice_get es (length o.start)) (sym starts.1) ∙ slice_get-seam o.start first order.begins.0) in
        let opens : MayStand o o.start first = (sound.members, inl (record { later = sound.later; first = refl })) in
        subst (λ es. MayStand o es e) (sym before)
        (subst (MayStand o o.start) (same_Some first e (sym here ∙ at)) opens)
    by (inr (inr more)) = behind e at more

-- each first part of entries that may stand is such entries
pub part-stands : (o : Opening) (g h : List Entry) → IsPrefixOf g h → AllStand o h → AllStand o g
part-stands o g h part all i e at = subst (λ es. MayStand o es e)
    (take-prefix g h i part (omega (arith, slice_get_within g i e at))) (all i e (slice_get-prefix g h i e part at))

-- what may stand is judged by the script's messages alone
pub stands-by : (o p : Opening) (before : List Entry) (e : Entry) → o.messages ≡ p.messages
    → MayStand o before e → MayStand p before e
stands-by o p before (View a n m) same (members, stands) = (
  record {
    some = members.some;
    within = λ s h. omega (arith, members.within s h, ap (λ (lists : List (List (List ℕ))). length lists) same);
  },
  stands,
)
stands-by o p before (Msg s i b) same stands = (
  stands.0,
  stands.1,
  ap (λ (lists : List (List (List ℕ))). slice_get (slice_index_or lists s []) i) (sym same) ∙ stands.2,
)

pub all-by : (o p : Opening) (es : List Entry) → o.messages ≡ p.messages → AllStand o es → AllStand p es
all-by o p es same all i e at = stands-by o p (take i es) e same (all i e at)

-- so they do in a history in order with a sound start
ViewsRise-sound : (o : Opening) (sent : Sent) (h : List Entry) → Sound o → InOrder o sent h → ViewsRise 0 h
ViewsRise-sound o sent h sound order = ViewsRise-standing o h (history-stands o sent h sound order)

-- histories in order with a sound start, one of them a prefix of the other, have the same past at each View
pub SamePast-either : (o : Opening) (sent : Sent) (g h : List Entry) → Sound o → InOrder o sent g → InOrder o sent h
    → IsPrefixOf g h ⊎ IsPrefixOf h g → SamePast g h
SamePast-either o sent g h sound og oh (inl pre) = SamePast-prefix g h (ViewsRise-sound o sent h sound oh) pre
SamePast-either o sent g h sound og oh (inr pre) = turned_past h g
    (SamePast-prefix h g (ViewsRise-sound o sent g sound og) pre)
