-- Entries that may stand are few, and so is a sound start: each age has at most 256 views, and each member no
-- more messages than by the script.
use Rattle.std.proofs.Common.{ℕ, zero, suc, ◌+◌, List, length, ◌≡◌, refl, ◌-◌, [], ◌∷◌, ◌++◌, ◌==◌, ◌≤◌, arith, false, ne_eqb, ◌⊎◌, inl, inr, subst, ◌<◌, length-append, ◌*◌, Option, None, Some, Contains, filter, sym, ◌∙◌, IsSomeAnd, ap, take, ◌^◌}
use Rattle.std.proofs.{Math.Nat.suc-mul, lemmas.{List.take_all, Option.same_Some}}
use Rattle.dr_entry.specs.declared.entry.Entry.{Entry, TheVariants.{View, Msg}}
use Rattle.dr_entry.proofs.{Entries.{is_message, told-View, told-Msg}, ListPlaces.{slice_get-some, take-next}}
use Rattle.dr_history.specs.{History.{GroupView, view_of, messages_of}, Order.{messages_from, ContinuesAge}}
use Rattle.dr_history.specs.{Restarting.{AllStand, next_age}, Soundness.{IsLaterAge, MayStand, Sound}}
use Rattle.dr_history.{specs.declared.opening.Opening.Opening, proofs.{Histories.no_view, MemberLemmas.members_of-lt}}
use Rattle.dr_history.proofs.NumberedLemmas.{messages_from-View, messages_from-other, messages_from-Msg, length-numbered_messages}
use Rattle.dr_history.proofs.{Openings.numbered_stood, Stood.view_told, ViewLemmas.{view_of-View, view_of-Msg}}

-- how many messages of the senders below n the entries have
pub messages_below : ℕ → List Entry → ℕ
messages_below zero h = 0
messages_below (suc n) h = messages_below n h + length (messages_from n h)

pub messages_below-View : (n : ℕ) (h : List Entry) (a k m : ℕ) → messages_below n (h ++ View a k m ∷ [])
    ≡ messages_below n h
unfolding messages_below
messages_below-View zero h a k m = refl
messages_below-View (suc n) h a k m = rw (messages_below-View n h a k m, messages_from-View n h a k m) refl

-- one of another sender
messages_below-above : (n s : ℕ) (h : List Entry) (i : ℕ) (b : List ℕ) → n ≤ s
    → messages_below n (h ++ Msg s i b ∷ []) ≡ messages_below n h
unfolding messages_below
messages_below-above zero s h i b l = refl
messages_below-above (suc n) s h i b l =
    let apart : (s == n) ≡ false = ne_eqb s n (λ e. omega (arith, e, l)) in
    rw (messages_below-above n s h i b (omega arith), messages_from-other n h s i b apart) refl

-- one of these senders
pub messages_below-Msg : (n s : ℕ) (h : List Entry) (i : ℕ) (b : List ℕ) → s < n
    → messages_below n (h ++ Msg s i b ∷ []) ≡ messages_below n h + 1
unfolding messages_below
messages_below-Msg zero s h i b l = absurd (omega arith)
messages_below-Msg (suc n) s h i b l = by (cases l) (messages_below-Msg n s h i b)
  where
    cases : s < suc n → (s < n) ⊎ (n ≡ s)
    cases less = grind arith

    by : (s < n) ⊎ (n ≡ s) → (s < n → messages_below n (h ++ Msg s i b ∷ []) ≡ messages_below n h + 1)
        → messages_below (suc n) (h ++ Msg s i b ∷ []) ≡ messages_below (suc n) h + 1
    by (inl less) rest =
        let apart : (s == n) ≡ false = ne_eqb s n (λ e. omega (arith, e, less)) in
        rw (rest less, messages_from-other n h s i b apart) (omega arith)
    by (inr same) rest = subst
        (λ k. messages_below n (h ++ Msg k i b ∷ []) + length (messages_from n (h ++ Msg k i b ∷ []))
        ≡ messages_below n h + length (messages_from n h) + 1) same
        (rw (messages_below-above n n h i b (omega arith), messages_from-Msg n h i b)
        (omega (arith, length-append (messages_from n h) (Msg n i b ∷ []))))

pub messages_below-most : (n most : ℕ) (h : List Entry) → ((s : ℕ) → length (messages_from s h) ≤ most)
    → messages_below n h ≤ n * most
unfolding messages_below
messages_below-most zero most h few = omega arith
messages_below-most (suc n) most h few = omega (arith, messages_below-most n most h few, few n, suc-mul n most)

-- no fewer views can have come up to this one: 256 in each age, since their numbers rise and have 8 bits
worth : Option GroupView → ℕ
worth None = 0
worth (Some v) = v.age * 256 + v.number + 1

-- its number has 8 bits, and each member is below 16
record IsOfRoster (v : GroupView) : Type 0 where
  small : v.number < 256
  below : (s : ℕ) → Contains v.members s → s < 16

-- so long are the entries at most, and so many of them are messages
record IsShort (h : List Entry) : Type 0 where
  short : length h ≤ worth (view_of h) + messages_below 16 h
  told : length (filter is_message h) ≤ messages_below 16 h
  views : (v : GroupView) → view_of h ≡ Some v → IsOfRoster v

-- one more View
IsShort-View : (h : List Entry) (a k m : ℕ) → IsShort h → k < 256
    → worth (view_of h) < worth (Some (view_told a k m)) → IsShort (h ++ View a k m ∷ [])
IsShort-View h a k m r small more = record {
  short = rw (view_of-View h a k m, messages_below-View 16 h a k m, length-append h (View a k m ∷ []))
      (omega (arith, r.short, more));
  told = rw (messages_below-View 16 h a k m, told-View h a k m) r.told;
  views = λ v e. subst IsOfRoster (same_Some (view_told a k m) v (sym (view_of-View h a k m) ∙ e))
      (record { small = small; below = λ s member. members_of-lt m s member });
}

-- one more message of a member of the view
IsShort-Msg : (h : List Entry) (s i : ℕ) (b : List ℕ) → IsShort h → s < 16 → IsShort (h ++ Msg s i b ∷ [])
IsShort-Msg h s i b r l = record {
  short = rw (view_of-Msg h s i b, messages_below-Msg 16 s h i b l, length-append h (Msg s i b ∷ []))
      (omega (arith, r.short));
  told = rw (messages_below-Msg 16 s h i b l, told-Msg h s i b, length-append (filter is_message h) (Msg s i b ∷ []))
      (omega (arith, r.told));
  views = λ v e. r.views v (sym (view_of-Msg h s i b) ∙ e);
}

-- a View of a later age is worth more
worth-later : (z : Option GroupView) (v : GroupView) → ((u : GroupView) → z ≡ Some u → IsOfRoster u)
    → IsLaterAge z v.age → worth z < worth (Some v)
unfolding worth
worth-later None v old later = omega arith
worth-later (Some u) v old later = omega (arith, (old u refl).small, later u refl)

-- and so is one that goes on in the age
worth-goes : (z : Option GroupView) (a k m : ℕ) → IsSomeAnd z (λ u. ContinuesAge u a k m)
    → worth z < worth (Some (view_told a k m))
unfolding worth
worth-goes None a k m goes = absurd goes
worth-goes (Some u) a k m goes = omega (arith, goes.same_age, goes.next_number)

number-small : (z : Option GroupView) (a k m : ℕ) → IsSomeAnd z (λ u. ContinuesAge u a k m) → k < 256
number-small None a k m goes = absurd goes
number-small (Some u) a k m goes = omega (arith, goes.numbers.0)

member-below : (z : Option GroupView) (s : ℕ) → ((u : GroupView) → z ≡ Some u → IsOfRoster u)
    → IsSomeAnd z (λ u. Contains u.members s) → s < 16
member-below None s old member = absurd member
member-below (Some u) s old member = (old u refl).below s member

-- each entry that may stand behind short entries leaves them short
IsShort-next : (o : Opening) (h : List Entry) (e : Entry) → IsShort h → MayStand o h e → IsShort (h ++ e ∷ [])
IsShort-next o h (View a k m) r (members, inl opens) = IsShort-View h a k m r (omega (arith, opens.first))
    (worth-later (view_of h) (view_told a k m) r.views opens.later)
IsShort-next o h (View a k m) r (members, inr goes) =
    IsShort-View h a k m r (number-small (view_of h) a k m goes) (worth-goes (view_of h) a k m goes)
IsShort-next o h (Msg s i b) r stands = IsShort-Msg h s i b r (member-below (view_of h) s r.views stands.0)

IsShort-front : (o : Opening) (es : List Entry) (n : ℕ) → AllStand o es → n ≤ length es → IsShort (take n es)
IsShort-front o es zero stand l =
    record { short = omega arith; told = omega arith; views = λ v e. absurd (no_view v e) }
IsShort-front o es (suc n) stand l =
    let x = slice_get-some es n (omega arith) in
    let next : n + 1 ≡ suc n = omega arith in
    subst IsShort (sym (take-next es n x.0 x.1) ∙ ap (λ k. take k es) next)
    (IsShort-next o (take n es) x.0 (IsShort-front o es n stand (omega arith)) (stand n x.0 x.1))

stood-is : (o : Opening) (es : List Entry) → AllStand o es → IsShort es
stood-is o es stand = subst IsShort (take_all (length es) es (omega arith))
    (IsShort-front o es (length es) stand (omega arith))

-- they have at most 4096 messages of each of 16 members
stood-messages : (o : Opening) (es : List Entry) → AllStand o es
    → ((s : ℕ) → length (messages_of o s) ≤ 4096) → messages_below 16 es ≤ 16 * 4096
stood-messages o es stand few = messages_below-most 16 4096 es each
  where
    each : (s : ℕ) → length (messages_from s es) ≤ 4096
    each s =
        let numbered = numbered_stood o es s (length es) stand (omega arith) in
        omega (
          arith,
          ap (λ fs. length (messages_from s fs)) (take_all (length es) es (omega arith)),
          ap length numbered.1,
          length-append (messages_from s (take (length es) es)) numbered.0,
          length-numbered_messages o s,
          few s,
        )

pub stood-told : (o : Opening) (es : List Entry) → AllStand o es
    → ((s : ℕ) → length (messages_of o s) ≤ 4096) → length (filter is_message es) ≤ 16 * 4096
stood-told o es stand few = omega (arith, (stood-is o es stand).told, stood-messages o es stand few)

-- and at most 256 views of each age up to that of the last one
pub stood-short : (o : Opening) (es : List Entry) → AllStand o es → 1 ≤ length o.messages → length o.messages ≤ 16
    → ((s : ℕ) → length (messages_of o s) ≤ 4096) → length es ≤ 256 * next_age (view_of es) + 16 * 4096
unfolding worth
stood-short o es stand one most few = by (view_of es) refl
  where
    whole : IsShort es
    whole = stood-is o es stand

    messages : messages_below 16 es ≤ 16 * 4096
    messages = stood-messages o es stand few

    by : (z : Option GroupView) → view_of es ≡ z → length es ≤ 256 * next_age (view_of es) + 16 * 4096
    by None e = omega (arith, whole.short, ap worth e, messages)
    by (Some v) e = omega (arith, whole.short, ap worth e, messages, (whole.views v e).small, ap next_age e)

-- of 65,536 ages a sound start has at most so many entries
pub start-few : (o : Opening) → Sound o → o.age < 2 ^ 16 → 1 ≤ length o.messages → length o.messages ≤ 16
    → ((s : ℕ) → length (messages_of o s) ≤ 4096) → length o.start ≤ 16842752
start-few o sound age one most few = by (view_of o.start) refl
  where
    by : (z : Option GroupView) → view_of o.start ≡ z → length o.start ≤ 16842752
    by None e = omega (arith, stood-short o o.start sound.entries one most few, ap next_age e)
    by (Some v) e = omega (
      arith,
      stood-short o o.start sound.entries one most few,
      ap next_age e,
      sound.later v e,
      age,
    )

pub start-short : (o : Opening) → Sound o → o.age < 2 ^ 16 → 1 ≤ length o.messages → length o.messages ≤ 16
    → ((s : ℕ) → length (messages_of o s) ≤ 4096) → length o.start < 2 ^ 31
start-short o sound age one most few = omega (arith, start-few o sound age one most few)

-- behind the first entries the history has so many Views, and messages of senders below n
abbrev pub IsSized : ℕ → ℕ → List Entry → List Entry → Type 0
IsSized n views first h = length h + messages_below n first ≡ length first + views + messages_below n h

pub sized-Msg : (n k : ℕ) (first h : List Entry) (s i : ℕ) (b : List ℕ) → s < n → IsSized n k first h
    → IsSized n k first (h ++ Msg s i b ∷ [])
sized-Msg n k first h s i b l sized =
    omega (arith, sized, length-append h (Msg s i b ∷ []), messages_below-Msg n s h i b l)

pub sized-View : (n k : ℕ) (first h : List Entry) (a v m : ℕ) → IsSized n k first h
    → IsSized n (suc k) first (h ++ View a v m ∷ [])
sized-View n k first h a v m sized =
    omega (arith, sized, length-append h (View a v m ∷ []), messages_below-View n h a v m)
