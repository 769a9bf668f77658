-- What stands at the places of members.
use Rattle.std.{specs.Option.option_map_or, proofs.lemmas.Bool.{cases_lt, cases_eq}}
use Rattle.std.specs.Prelude.{IsTrue, Option, Some, None, is_some, option_map, slice_get, slice_set}
use Rattle.std.proofs.Common.{◌≡◌, ◌≢◌, ◌⊎◌, refl, ap, ◌∙◌, subst, ℕ, zero, suc, ◌<◌, ◌≤◌, inl, inr, List, [], ◌∷◌, length, map, ◌+◌, ◌++◌, sym, true, Bool, not, false, arith, get_or, take, drop, ◌-◌, replicate, All}
use Rattle.std.proofs.lemmas.List.{get_or-set_same, get_or-set_other, get_or_default, get_or_past, get_or_append_left, get_or_push, set-get_or, ext_get_or, length-map}
use Rattle.std.proofs.lemmas.Option.{get_or_from_slice_get, slice_get-get_or, same_Some, slice_get-map}
use Rattle.dr_entry.specs.declared.{end.{End.End, MemberEnd.MemberEnd}, entry.Entry.Entry}
use Rattle.dr_entry.proofs.{ListParts.none_pass, ListPlaces.{slice_get-some, zero_at}}
use Rattle.dr_history.specs.History.{sent_of}
use Rattle.dr_suspect.specs.Waits.{turns_without_news}
use Rattle.dr_machine.specs.Group.{Group, IsPresent}
use Rattle.dr_program.specs.{Presence.{present_at, with_present}, Running.{Running, begun_running, next_step}}
use Rattle.dr_program.specs.Program.{AllEnded, Program, has_ended, AreSetups, begun_program, Move, after_deed, letter_for, moved_by, next_sight, step_of, went, end_at, end_of, absent_end}
use Rattle.dr_program.specs.{Replica.Replica, Schedule.{going, is_between_turns}, declared.setup.Setup.Setup}
use Rattle.dr_program.proofs.{Programs.{fresh, goes, ends_of}, RunningPrograms.{IsFresh, IsIdleFailed, AreIdleFailed}}
use Rattle.dr_program.proofs.Replicas.{replicas_of}

-- a member that stands there has a place
pub present_within : {X : Type 0} (xs : List (Option X)) (m : ℕ) (x : X) → present_at xs m ≡ Some x → m < length xs
present_within xs m x there = by (cases_lt m (length xs))
  where
    by : (m < length xs) ⊎ (length xs ≤ m) → m < length xs
    by (inl within) = within
    by (inr past) = absurd (cc (get_or_past xs m None past, there))

pub present_slice : {X : Type 0} (xs : List (Option X)) (m : ℕ) (x : X) → present_at xs m ≡ Some x
    → slice_get xs m ≡ Some (Some x)
present_slice xs m x there = slice_get-get_or xs m None (present_within xs m x there) ∙ ap Some there

pub slice_present : {X : Type 0} (xs : List (Option X)) (m : ℕ) (o : Option X) → slice_get xs m ≡ Some o
    → present_at xs m ≡ o
slice_present xs m o there = get_or_from_slice_get xs m o None there

-- what is made of each stands at its place
pub present_map : {X Y : Type 0} (f : X → Y) (xs : List (Option X)) (m : ℕ)
    → present_at (map (option_map f) xs) m ≡ option_map f (present_at xs m)
present_map f [] m = refl
present_map f (x ∷ xs) zero = refl
present_map f (x ∷ xs) (suc m) = present_map f xs m

-- what was put at a place stands there, and the others stay
pub present_set : {X : Type 0} (xs : List (Option X)) (m : ℕ) (x : X) → m < length xs
    → present_at (with_present xs m x) m ≡ Some x
present_set xs m x within = get_or-set_same xs m (Some x) None within

pub present_kept : {X : Type 0} (xs : List (Option X)) (m k : ℕ) (x : X) → k ≢ m
    → present_at (with_present xs m x) k ≡ present_at xs k
present_kept xs m k x other = get_or-set_other xs m k (Some x) None other

-- ---- the members of a program

-- where all have ended, each that stands there has
pub ended_there : (p : Program) (m : ℕ) (r : Running) → AllEnded p → present_at p.members m ≡ Some r
    → IsTrue (is_some r.replica.end)
ended_there p m r all there = subst (λ (o : Option Running). IsTrue (has_ended o)) there
    (all m None (present_within p.members m r there))

-- and where each that stands there has, all have
pub all_ended : (p : Program)
    → ((m : ℕ) (r : Running) → present_at p.members m ≡ Some r → IsTrue (is_some r.replica.end)) → AllEnded p
all_ended p each k d within = subst (λ (x : Option Running). IsTrue (has_ended x))
    (get_or_default p.members k None d within) (so (present_at p.members k) refl)
  where
    so : (o : Option Running) → present_at p.members k ≡ o → IsTrue (has_ended (present_at p.members k))
    so None none = ap has_ended none
    so (Some r) there = ap has_ended there ∙ each k r there

-- one place more: the others are as before
pub each_more : (P : ℕ → Setup → Type 0) (xs : List (Option Setup)) (o : Option Setup)
    → ((m : ℕ) (s : Setup) → present_at xs m ≡ Some s → P m s) → ((s : Setup) → o ≡ Some s → P (length xs) s)
    → (m : ℕ) (s : Setup) → present_at (xs ++ o ∷ []) m ≡ Some s → P m s
each_more P [] o old new zero s e = new s e
each_more P [] o old new (suc m) s e = absurd (cc)
each_more P (x ∷ xs) o old new zero s e = old zero s e
each_more P (x ∷ xs) o old new (suc m) s e = each_more (λ k. P (suc k)) xs o (λ k. old (suc k)) new m s e

pub still_there : (xs : List (Option Setup)) (o : Option Setup) (m : ℕ) (s : Setup) → present_at xs m ≡ Some s
    → present_at (xs ++ o ∷ []) m ≡ Some s
still_there xs o m s there = get_or_append_left xs (o ∷ []) None m (present_within xs m s there) ∙ there

-- where j may be given a letter, none is there for it, and it is of the roster
pub record MayGet (g : Group) (letters : List (Option (List Entry))) (j : ℕ) : Type 0 where
  pub none : present_at letters j ≡ None
  pub within : j < length letters

pub set_cases : (rs : List (Option Replica)) (m k : ℕ) (q x : Replica) → m < length rs
    → present_at (with_present rs m q) k ≡ Some x → ((k ≡ m) × (q ≡ x)) ⊎ (present_at rs k ≡ Some x)
set_cases rs m k q x within there = elim (cases_eq k m) [
  | inl same ↦ inl (
    same,
    same_Some q x (sym (present_set rs m q within) ∙ ap (present_at (with_present rs m q)) (sym same) ∙ there),
  )
  | inr other ↦ inr (sym (present_kept rs m k q other) ∙ there)
]

pub begun_fresh : (g : Group) (limit : ℕ) (setups : List (Option Setup)) (m : ℕ) (r : Running)
    → AreSetups g limit setups → present_at (begun_program g setups).members m ≡ Some r → IsPresent g m × IsFresh g r
begun_fresh g limit setups m r are there = by (present_at setups m) refl
    (sym (present_map begun_running setups m) ∙ there)
  where
    by : (o : Option Setup) → present_at setups m ≡ o → option_map begun_running o ≡ Some r
        → IsPresent g m × IsFresh g r
    by None e at = absurd (cc)
    by (Some s) e at = (
      (are.each m s e).present,
      subst (IsFresh g) (same_Some (begun_running s) r at) (fresh g limit m s (are.each m s e)),
    )

-- where each member has ended, all have
pub each_ended : (p : Program)
    → ((k : ℕ) → k < length p.members → has_ended (present_at p.members k) ≡ true) → AllEnded p
each_ended p each = all_ended p (λ m r there. sym (ap has_ended there) ∙ each m (present_within p.members m r there))

-- where nobody is left to be chosen, all have ended
pub nobody_goes : (p : Program) → length (going p) ≡ 0 → AllEnded p
nobody_goes p none = each_ended p
    (λ k within. ended _ (none_pass (goes p) 0 (length p.members) k none (omega arith) (omega arith)))
  where
    ended : (b : Bool) → not b ≡ false → b ≡ true
    ended b e = grind arith

-- a move of member m leaves whether the others have ended
pub others_go : (p : Program) (e : Move) (k : ℕ) → k ≢ e.member → goes (step_of p e) k ≡ goes p k
others_go p e k other = by (present_at p.members e.member)
  where
    at : (r : Running) (o : Option End) → goes (went p r e o) k ≡ goes p k
    at r None = ap (λ o. not (has_ended o)) (present_kept p.members e.member k
        (after_deed (next_sight p.table r) (letter_for p e.member) e.outcome r (next_step r)) other)
    at r (Some end) = refl

    by : (o : Option Running) → goes (moved_by p o e) k ≡ goes p k
    by None = refl
    by (Some r) = at r r.replica.end

-- what stands at a number, however it is read there
pub place_is : {X : Type 0} (xs : List (Option X)) (m : ℕ) (x y : Option X) → m < length xs
    → get_or xs m x ≡ y → present_at xs m ≡ y
place_is xs m x y within read = get_or_default xs m None x within ∙ read

-- whoever is in a program whose members have all ended has ended
pub ended_at : (p : Program) (m : ℕ) → AllEnded p → has_ended (present_at p.members m) ≡ true
ended_at p m all = by (present_at p.members m) refl
  where
    by : (o : Option Running) → present_at p.members m ≡ o → has_ended (present_at p.members m) ≡ true
    by None none = ap has_ended none
    by (Some r) there = ap has_ended there ∙ ended_there p m r all there

-- a member that has not ended is one of the program
pub going_within : (rs : List (Option Running)) (m : ℕ) → has_ended (present_at rs m) ≡ false → m < length rs
going_within rs m going = by (present_at rs m) refl going
  where
    by : (o : Option Running) → present_at rs m ≡ o → has_ended o ≡ false → m < length rs
    by None e not = absurd (cc)
    by (Some r) e not = present_within rs m r e

-- what is so of the member that was put at a number is so of the one that stands there
pub at_set : (P : Running → Type 0) (rs : List (Option Running)) (m : ℕ) (x r : Running) → m < length rs → P x
    → present_at (with_present rs m x) m ≡ Some r → P r
at_set P rs m x r within is there = subst P (same_Some x r (sym (present_set rs m x within) ∙ there)) is

pub set_itself : {A : Type 0} (xs : List (Option A)) (m : ℕ) (x : A) → present_at xs m ≡ Some x
    → with_present xs m x ≡ xs
set_itself xs m x there = ap (λ o. slice_set xs m o) (sym there) ∙ set-get_or xs m None

-- each member there was there before, in no later view, with as much room
abbrev pub AreFurther : List (Option Running) → List (Option Running) → Type 0
AreFurther members after = (m : ℕ) (x : Running) → present_at after m ≡ Some x → (r : Running)
    × (present_at members m ≡ Some r) × (r.replica.view ≤ x.replica.view) × (x.replica.room ≡ r.replica.room)

pub further_same : (members : List (Option Running)) → AreFurther members members
further_same members m x there = (x, there, omega arith, refl)

-- who stands at a place of a list in which one was put there is the new one, or as it was
pub place_set : {X : Type 0} (xs : List (Option X)) (i j : ℕ) (x y : X) → present_at (with_present xs i x) j ≡ Some y
    → ((j ≡ i) × (x ≡ y)) ⊎ ((j ≢ i) × (present_at xs j ≡ Some y))
place_set [] i j x y e = absurd (cc)
place_set (z ∷ zs) zero zero x y e = inl (refl, same_Some x y e)
place_set (z ∷ zs) zero (suc j) x y e = inr ((λ h. omega arith), e)
place_set (z ∷ zs) (suc i) zero x y e = inr ((λ h. omega arith), e)
place_set (z ∷ zs) (suc i) (suc j) x y e = elim (place_set zs i j x y e) [
  | inl here ↦ inl (ap suc here.0, here.1)
  | inr other ↦ let apart = other.0 in inr ((λ h. apart (omega arith)), other.1)
]

pub further_set : (members : List (Option Running)) (m : ℕ) (r x : Running) → present_at members m ≡ Some r
    → r.replica.view ≤ x.replica.view → x.replica.room ≡ r.replica.room
    → AreFurther members (with_present members m x)
further_set members m r x there later room k y stands = elim (place_set members m k x y stands) [
  | inl here ↦ (
    r,
    ap (present_at members) here.0 ∙ there,
    subst (λ (z : Running). r.replica.view ≤ z.replica.view) here.1 later,
    subst (λ (z : Running). z.replica.room ≡ r.replica.room) here.1 room,
  )
  | inr other ↦ (y, other.1, omega arith, refl)
]

abbrev pub Each : (Running → Type 0) → List (Option Running) → Type 0
Each P rs = (k : ℕ) (r : Running) → present_at rs k ≡ Some r → P r

-- the first places, and the others
pub place_take : {X : Type 0} (n : ℕ) (xs : List (Option X)) (i : ℕ) (x : X) → present_at (take n xs) i ≡ Some x
    → (i < n) × (present_at xs i ≡ Some x)
place_take zero xs i x e = absurd (cc)
place_take (suc n) [] i x e = absurd (cc)
place_take (suc n) (y ∷ ys) zero x e = (omega arith, e)
place_take (suc n) (y ∷ ys) (suc i) x e = let (below, there) = place_take n ys i x e in (omega arith, there)

pub each_take : (P : Running → Type 0) (n : ℕ) (rs : List (Option Running)) → Each P rs → Each P (take n rs)
each_take P n rs each k r there = each k r (place_take n rs k r there).1

pub place_drop : {X : Type 0} (n : ℕ) (xs : List (Option X)) (i : ℕ)
    → present_at (drop n xs) i ≡ present_at xs (n + i)
place_drop zero xs i = let same : i ≡ 0 + i = omega arith in ap (present_at xs) same
place_drop (suc n) [] i = refl
place_drop (suc n) (y ∷ ys) i =
    let same : suc (n + i) ≡ suc n + i = omega arith in place_drop n ys i ∙ ap (present_at (y ∷ ys)) same

pub each_drop : (P : Running → Type 0) (n : ℕ) (rs : List (Option Running)) → Each P rs → Each P (drop n rs)
each_drop P n rs each k r there = each (n + k) r (sym (place_drop n rs k) ∙ there)

-- a place of two lists, one behind the other
pub place_front : {X : Type 0} (xs ys : List (Option X)) (i : ℕ) → i < length xs
    → present_at (xs ++ ys) i ≡ present_at xs i
place_front [] ys i within = absurd (omega arith)
place_front (z ∷ zs) ys zero within = refl
place_front (z ∷ zs) ys (suc i) within = place_front zs ys i (omega arith)

pub place_behind : {X : Type 0} (xs ys : List (Option X)) (i : ℕ)
    → present_at (xs ++ ys) (length xs + i) ≡ present_at ys i
place_behind [] ys i = let same : 0 + i ≡ i = omega arith in ap (present_at ys) same
place_behind (z ∷ zs) ys i =
    let same : suc (length zs) + i ≡ suc (length zs + i) = omega arith in
    ap (present_at (z ∷ zs ++ ys)) same ∙ place_behind zs ys i

pub place_past : {X : Type 0} (xs ys : List (Option X)) (i : ℕ) → length xs ≤ i
    → present_at (xs ++ ys) i ≡ present_at ys (i - length xs)
place_past xs ys i past =
    let same : i ≡ length xs + (i - length xs) = omega arith in
    ap (present_at (xs ++ ys)) same ∙ place_behind xs ys (i - length xs)

pub place_append : {X : Type 0} (xs ys : List (Option X)) (i : ℕ) (x : X) → present_at (xs ++ ys) i ≡ Some x
    → (present_at xs i ≡ Some x) ⊎ ((length xs ≤ i) × (present_at ys (i - length xs) ≡ Some x))
place_append xs ys i x e = elim (cases_lt i (length xs)) [
  | inl within ↦ inl (sym (place_front xs ys i within) ∙ e)
  | inr past ↦ inr (past, sym (place_past xs ys i past) ∙ e)
]

pub each_append : (P : Running → Type 0) (rs qs : List (Option Running)) → Each P rs → Each P qs → Each P (rs ++ qs)
each_append P rs qs each too k r there = elim (place_append rs qs k r there) [
  | inl first ↦ each k r first
  | inr second ↦ too _ r second.1
]

pub none_read : {X : Type 0} (n i : ℕ) → ◌≡◌ {A = Option X} (present_at (replicate n None) i) None
none_read zero i = refl
none_read (suc n) zero = refl
none_read (suc n) (suc i) = none_read n i

pub take_place : {X : Type 0} (n : ℕ) (xs : List (Option X)) (i : ℕ) → i < n
    → present_at (take n xs) i ≡ present_at xs i
take_place zero xs i below = absurd (omega arith)
take_place (suc n) [] i below = refl
take_place (suc n) (y ∷ ys) zero below = refl
take_place (suc n) (y ∷ ys) (suc i) below = take_place n ys i (omega arith)

-- lists of one length with the same places filled, and the same there, are one
pub same_places : {X : Type 0} (xs ys : List (Option X)) → length xs ≡ length ys
    → ((m : ℕ) → is_some (present_at ys m) ≡ is_some (present_at xs m))
    → ((m : ℕ) (x y : X) → present_at xs m ≡ Some x → present_at ys m ≡ Some y → x ≡ y) → xs ≡ ys
same_places {X} xs ys long filled same =
    ext_get_or None xs ys long (λ m within. by m (present_at xs m) (present_at ys m) refl refl)
  where
    by : (m : ℕ) (o q : Option X) → present_at xs m ≡ o → present_at ys m ≡ q → present_at xs m ≡ present_at ys m
    by m None None here there = here ∙ sym there
    by m (Some x) (Some y) here there = here ∙ ap Some (same m x y here there) ∙ sym there
    by m (Some x) None here there = absurd (cc (filled m, ap is_some here, ap is_some there))
    by m None (Some y) here there = absurd (cc (filled m, ap is_some here, ap is_some there))

-- what stands at one place of two lists, each of two parts, stands so in the first parts or in the second
pub pairs : {X Y : Type 0} (xs us : List (Option X)) (ys vs : List (Option Y)) (k : ℕ) (x : X) (y : Y)
    → length xs ≡ length ys → present_at (xs ++ us) k ≡ Some x → present_at (ys ++ vs) k ≡ Some y
    → ((present_at xs k ≡ Some x) × (present_at ys k ≡ Some y))
    ⊎ ((j : ℕ) × (present_at us j ≡ Some x) × (present_at vs j ≡ Some y))
pairs [] us [] vs k x y e a b = inr (k, a, b)
pairs [] us (z ∷ zs) vs k x y e a b = absurd (omega arith)
pairs (w ∷ ws) us [] vs k x y e a b = absurd (omega arith)
pairs (w ∷ ws) us (z ∷ zs) vs zero x y e a b = inl (a, b)
pairs (w ∷ ws) us (z ∷ zs) vs (suc k) x y e a b = pairs ws us zs vs k x y (omega arith) a b

pub triples : {X Y : Type 0} (xs us ys vs : List (Option X)) (rs qs : List (Option Y)) (k : ℕ) (x y : X) (r : Y)
    → length xs ≡ length ys → length xs ≡ length rs → present_at (xs ++ us) k ≡ Some x
    → present_at (ys ++ vs) k ≡ Some y → present_at (rs ++ qs) k ≡ Some r
    → ((present_at xs k ≡ Some x) × (present_at ys k ≡ Some y) × (present_at rs k ≡ Some r))
    ⊎ ((j : ℕ) × (present_at us j ≡ Some x) × (present_at vs j ≡ Some y) × (present_at qs j ≡ Some r))
triples [] us [] vs [] qs k x y r e f a b c = inr (k, a, b, c)
triples [] us (z ∷ zs) vs rs qs k x y r e f a b c = absurd (omega arith)
triples [] us [] vs (t ∷ ts) qs k x y r e f a b c = absurd (omega arith)
triples (w ∷ ws) us [] vs rs qs k x y r e f a b c = absurd (omega arith)
triples (w ∷ ws) us (z ∷ zs) vs [] qs k x y r e f a b c = absurd (omega arith)
triples (w ∷ ws) us (z ∷ zs) vs (t ∷ ts) qs zero x y r e f a b c = inl (a, b, c)
triples (w ∷ ws) us (z ∷ zs) vs (t ∷ ts) qs (suc k) x y r e f a b c =
    triples ws us zs vs ts qs k x y r (omega arith) (omega arith) a b c

-- the same places are filled, one list behind the other
pub filled_behind : {X : Type 0} (xs us ys vs : List (Option X)) → length ys ≡ length xs
    → ((k : ℕ) → is_some (present_at ys k) ≡ is_some (present_at xs k))
    → ((k : ℕ) → is_some (present_at vs k) ≡ is_some (present_at us k))
    → (k : ℕ) → is_some (present_at (ys ++ vs) k) ≡ is_some (present_at (xs ++ us) k)
filled_behind [] us [] vs e a b k = b k
filled_behind [] us (z ∷ zs) vs e a b k = absurd (omega arith)
filled_behind (w ∷ ws) us [] vs e a b k = absurd (omega arith)
filled_behind (w ∷ ws) us (z ∷ zs) vs e a b zero = a zero
filled_behind (w ∷ ws) us (z ∷ zs) vs e a b (suc k) = filled_behind ws us zs vs (omega arith) (λ j. a (suc j)) b k

-- what stands at a place of the first places stands there
pub at_first : {X : Type 0} (n : ℕ) (xs : List (Option X)) (k : ℕ) (x : X) → present_at (take n xs) k ≡ Some x
    → present_at xs k ≡ Some x
at_first zero xs k x there = absurd (cc)
at_first (suc n) [] k x there = there
at_first (suc n) (y ∷ ys) zero x there = there
at_first (suc n) (y ∷ ys) (suc k) x there = at_first n ys k x there

pub filled_first : {X Y : Type 0} (n : ℕ) (xs : List (Option X)) (ys : List (Option Y)) → length xs ≡ length ys
    → ((k : ℕ) → is_some (present_at xs k) ≡ is_some (present_at ys k))
    → (k : ℕ) → is_some (present_at (take n xs) k) ≡ is_some (present_at (take n ys) k)
filled_first zero xs ys e same k = refl
filled_first (suc n) [] [] e same k = refl
filled_first (suc n) [] (z ∷ zs) e same k = absurd (omega arith)
filled_first (suc n) (w ∷ ws) [] e same k = absurd (omega arith)
filled_first (suc n) (w ∷ ws) (z ∷ zs) e same zero = same zero
filled_first (suc n) (w ∷ ws) (z ∷ zs) e same (suc k) = filled_first n ws zs (omega arith) (λ j. same (suc j)) k

-- a place more at the end
pub place_before : {X : Type 0} (xs : List (Option X)) (x : Option X) (m : ℕ) → m < length xs
    → present_at (xs ++ x ∷ []) m ≡ present_at xs m
place_before xs x m l = get_or_append_left xs (x ∷ []) None m l

pub place_new : {X : Type 0} (xs : List (Option X)) (x : Option X) (m : ℕ) → length xs ≡ m
    → present_at (xs ++ x ∷ []) m ≡ x
place_new xs x m at = get_or_push xs x None m at

-- in a list of one place, who stands somewhere is that one
pub only_one : {X : Type 0} (x y : X) (i : ℕ) → present_at (Some x ∷ []) i ≡ Some y → (i ≡ 0) × (x ≡ y)
only_one x y zero there = (refl, same_Some x y there)
only_one x y (suc i) there = absurd (cc there)

-- where the place is empty nobody stands
pub nobody : {X : Type 0} (xs : List (Option X)) (k : ℕ) (x : X) → xs ≡ None ∷ [] → present_at xs k ≡ Some x → ⊥
nobody xs k x empty there = by k (ap (λ l. present_at l k) (sym empty) ∙ there)
  where
    by : (k : ℕ) → present_at (None ∷ []) k ≡ Some x → ⊥
    by zero there = cc there
    by (suc k) there = cc there

-- what the ends tell of a member, and of one that is absent
pub end_told : (p : Program) (m : ℕ) (r : Running) → present_at p.members m ≡ Some r
    → slice_get (ends_of p) m ≡ Some (end_of r)
end_told p m r there = slice_get-map end_at p.members m ∙ ap (option_map end_at) (present_slice p.members m r there)

-- the end that stands at the place of a member is that member's
pub end_is : (p : Program) (i : ℕ) (r : Running) (e : MemberEnd) → present_at p.members i ≡ Some r
    → slice_get (ends_of p) i ≡ Some e → end_of r ≡ e
end_is p i r e there at = same_Some (end_of r) e (sym (end_told p i r there) ∙ at)

-- each of the ends is that of a member, or of one that was absent
pub end_there : (p : Program) (i : ℕ) (e : MemberEnd) → slice_get (ends_of p) i ≡ Some e
    → (e ≡ absent_end) ⊎ ((r : Running) × (present_at p.members i ≡ Some r) × (end_of r ≡ e))
end_there p i e at = by (slice_get p.members i) refl
  where
    named : (o : Option (Option Running)) → slice_get p.members i ≡ o → option_map end_at o ≡ Some e
    named o is = ap (option_map end_at) (sym is) ∙ sym (slice_get-map end_at p.members i) ∙ at

    by : (o : Option (Option Running)) → slice_get p.members i ≡ o
        → (e ≡ absent_end) ⊎ ((r : Running) × (present_at p.members i ≡ Some r) × (end_of r ≡ e))
    by None none = absurd (cc (named None none))
    by (Some None) there = inl (sym (same_Some absent_end e (named (Some None) there)))
    by (Some (Some r)) there = inr (
      r,
      slice_present p.members i (Some r) there,
      same_Some (end_of r) e (named (Some (Some r)) there),
    )

-- a member of a list in which x was replaced by y is y, or as it was
pub replaced_either : (rs : List (Option Running)) (m : ℕ) (x y : Running) → present_at rs m ≡ Some x → (k : ℕ)
    (r : Running) → present_at (with_present rs m y) k ≡ Some r
    → ((k ≡ m) × (y ≡ r)) ⊎ ((k ≢ m) × (present_at rs k ≡ Some r))
replaced_either rs m x y at k r is = elim (cases_eq k m) [
  | inl same ↦ inl (same, same_Some y r (sym (present_set rs m y (present_within rs m x at)) ∙ rw same at is))
  | inr other ↦ inr (other, sym (present_kept rs m k y other) ∙ is)
]

pub absent_sent : (os : List (Option Running)) (m v : ℕ) → present_at os m ≡ None → sent_of (map end_at os) m v ≡ []
absent_sent [] m v e = refl
absent_sent (None ∷ os) zero v e = refl
absent_sent (Some r ∷ os) zero v e = absurd (cc)
absent_sent (o ∷ os) (suc m) v e = absent_sent os m v e

-- what the end of a member tells
pub of_end : {A : Type 0} (p : Program) (f : MemberEnd → A) (none : A) (m : ℕ) (r : Running)
    → present_at p.members m ≡ Some r → option_map_or f (slice_get (ends_of p) m) none ≡ f (end_of r)
of_end p f none m r there = ap (λ o. option_map_or f o none) (end_told p m r there)

-- what is true of each member's end, and of the end of one that was absent, is true of all ends
pub all_ends : (P : MemberEnd → Type 0) (p : Program) → P absent_end
    → ((m : ℕ) (r : Running) → present_at p.members m ≡ Some r → P (end_of r)) → All P (ends_of p)
all_ends P p absent each k none within =
    let x = slice_get-some p.members k (omega (arith, within, length-map p.members end_at)) in
    let told = get_or_from_slice_get (ends_of p) k (end_at x.0) none
    (slice_get-map end_at p.members k ∙ ap (option_map end_at) x.1) in
    subst P (sym told) (by x.0 x.1)
  where
    by : (o : Option Running) → slice_get p.members k ≡ Some o → P (end_at o)
    by None at = absent
    by (Some r) at = each k r (slice_present p.members k (Some r) at)

-- before the first turn all members stand where a turn begins
pub begins_whole : (setups : List (Option Setup)) (m : ℕ)
    → is_between_turns (present_at (map (option_map begun_running) setups) m) ≡ true
begins_whole setups m = rw (present_map begun_running setups m) (by (present_at setups m))
  where
    by : (o : Option Setup) → is_between_turns (option_map begun_running o) ≡ true
    by None = refl
    by (Some s) = refl

-- and no append has failed
pub begins_well : (setups : List (Option Setup)) (m : ℕ) (r : Running)
    → present_at (map (option_map begun_running) setups) m ≡ Some r → r.failed ≡ None
begins_well setups m r there = by (present_at setups m) (sym (present_map begun_running setups m) ∙ there)
  where
    by : (o : Option Setup) → option_map begun_running o ≡ Some r → r.failed ≡ None
    by None same = absurd (cc)
    by (Some s) same = sym (ap (λ (x : Running). x.failed) (same_Some (begun_running s) r same))

-- each is one that its setup begins
pub began_by : (setups : List (Option Setup)) (m : ℕ) (r : Running)
    → present_at (map (option_map begun_running) setups) m ≡ Some r
    → (s : Setup) × (present_at setups m ≡ Some s) × (begun_running s ≡ r)
began_by setups m r there = by (present_at setups m) refl
  where
    by : (o : Option Setup) → present_at setups m ≡ o
        → (s : Setup) × (present_at setups m ≡ Some s) × (begun_running s ≡ r)
    by None e = absurd (cc (ap (option_map begun_running) (sym e) ∙ sym (present_map begun_running setups m) ∙ there))
    by (Some s) e = (
      s,
      e,
      same_Some (begun_running s) r (ap (option_map begun_running) (sym e)
          ∙ sym (present_map begun_running setups m) ∙ there),
    )

-- it has waited for nobody
pub begins_uncounted : (setups : List (Option Setup)) (m : ℕ) (r : Running)
    → present_at (map (option_map begun_running) setups) m ≡ Some r → (i : ℕ) → turns_without_news r.waits i ≡ 0
begins_uncounted setups m r there i =
    let t = began_by setups m r there in ap (λ (x : Running). turns_without_news x.waits i) (sym t.2) ∙ zero_at i

pub replica_at : (p : Program) (m : ℕ) (r : Running) → present_at p.members m ≡ Some r
    → present_at (replicas_of p) m ≡ Some r.replica
replica_at p m r there = present_map (λ (r : Running). r.replica) p.members m
    ∙ ap (option_map (λ (r : Running). r.replica)) there

pub begun_idle : (g : Group) (setups : List (Option Setup)) → AreIdleFailed (begun_program g setups)
begun_idle g setups m r there = by (present_at setups m) (sym (present_map begun_running setups m) ∙ there)
  where
    begun : (s : Setup) → IsIdleFailed (begun_running s)
    begun s why failed = absurd (cc)

    by : (o : Option Setup) → option_map begun_running o ≡ Some r → IsIdleFailed r
    by None same = absurd (cc)
    by (Some s) same = subst IsIdleFailed (same_Some (begun_running s) r same) (begun s)
