-- Which logs hold an entry, and the longest of them.
use Rattle.std.specs.{Option.option_map_or, Prelude.{option_and_then, IfSome, IsSomeAnd}}
use Rattle.std.proofs.Common.{sym, subst, ℕ, List, refl, ◌≤◌, length, ◌≡◌, ap, ◌∙◌, ◌<◌, arith, [], ◌∷◌, Bool, Decides, Some, false, None, ◌+◌, ◌⊎◌, inl, inr, suc, nat_lt, true, if◌then◌else◌, zero, Option, Contains, ◌≢◌, ◌-◌, ◌^◌, ◌==◌, filter, option_map, is_some}
use Rattle.std.proofs.lemmas.{Bool.{false≢true, cases_lt}, Option.{same_Some, none-some}}
use Rattle.dr_entry.specs.{declared.entry.Entry.{Entry, TheVariants.View}, declared.record.Vote.Vote}
use Rattle.dr_entry.proofs.ListParts.{filter-in, flat_map-in, in-nothing, in-filter, in-flat_map}
use Rattle.dr_entry.proofs.ListPlaces.{read-in}
use Rattle.dr_history.specs.{History.{view_of, GroupView}, Members.{has, members_of}, Restarting.AllStand}
use Rattle.dr_history.{specs.declared.opening.Opening.Opening, proofs.{Histories.no_view, Keeping.front_of}}
use Rattle.dr_history.proofs.{Lists.prefix-in, MemberLemmas.{has-member, member-has, AreSomeOf}}
use Rattle.dr_words.specs.Masks.{next_members, without}
use Rattle.dr_words.proofs.Masks.{in-roster, has_next_members, next_members_small, next_members_within}
use Rattle.dr_restart.specs.Choosing.{AreOnHolder, Handed, IsLastAge, EndsInAge, next_on_path, on_path, AreOfHolders, AreOfNobody, highest, names_next, next_votes, AreFirst}
use Rattle.dr_restart.specs.Refusing.{HaveNothingForeign, IsHeldBy, Refusal, AreHoldersAlong, HasPath}
use Rattle.dr_restart.{specs.declared.lists.LogLists.LogLists, proofs.Listed.highest-in}

-- all that a holder has may stand
pub holder_stands : (o : Opening) (h : Handed) (age : ℕ) (es : List Entry) → HaveNothingForeign o h
    → AreOnHolder h age es → AllStand o es
holder_stands o h age es sound (m, log, at, ends, e) = subst (AllStand o) (sym e) (sound m log at)

-- a holder has the longest entries
pub longest_on : (h : Handed) (age : ℕ) (es : List Entry) → IsLastAge h age
    → ((m : ℕ) (f : List Entry) → IsHeldBy h age m f → AreOnHolder h age es × (length f ≤ length es))
    → AreOnHolder h age es × ((f : List Entry) → AreOnHolder h age f → length f ≤ length es)
longest_on h age es last all = (
  (all last.some.0 last.some.1.entries (last.some.1, last.some.2, last.some.3, refl)).0,
  λ f x. (all x.0 f (x.1, x.2, x.3, x.4)).1,
)

-- a holder has one list
pub one_held : (h : Handed) (age m : ℕ) (f g : List Entry) → IsHeldBy h age m f → IsHeldBy h age m g → f ≡ g
one_held h age m f g x y = x.3 ∙ (ap (λ (log : LogLists). log.entries) (same_Some x.0 y.0 (sym x.1 ∙ y.1)) ∙ sym y.3)

pub held_some : (h : Handed) (age m : ℕ) (es : List Entry) → IsHeldBy h age m es → 0 < length es
held_some h age m [] x = absurd (no_view x.2.0 (ap view_of x.3 ∙ x.2.1))
held_some h age m (e ∷ es) x = omega arith

pub on_holder : (h : Handed) (age m : ℕ) (es : List Entry) → IsHeldBy h age m es → AreOnHolder h age es
on_holder h age m es x = (m, x.0, x.1, x.2, x.3)

pub by_holder : (h : Handed) (age : ℕ) (es : List Entry) → AreOnHolder h age es → (m : ℕ) × IsHeldBy h age m es
by_holder h age es x = (x.0, (x.1, x.2, x.3, x.4))

-- whether a log ends in an age, by its last View
pub ends_where : (log : LogLists) (age : ℕ) (v : GroupView) (r : Bool) → Some v ≡ view_of log.entries
    → Decides r (v.age ≡ age) → Decides r (EndsInAge log age)
ends_where log age v r e d = (
  λ t. (v, sym e, d.0 t),
  λ x. d.1 (ap (λ (u : GroupView). u.age) (same_Some v x.0 (e ∙ x.1)) ∙ x.2),
)

pub ends_nowhere : (log : LogLists) (age : ℕ) → None ≡ view_of log.entries → Decides false (EndsInAge log age)
ends_nowhere log age e = (λ t. absurd (false≢true t), λ x. absurd (none-some x.0 (e ∙ x.1)))

-- among the first m members this one has so many entries, and no holder has more
pub record IsLongestBelow (h : Handed) (age m best most : ℕ) : Type 0 where
  pub held : 0 < most → (es : List Entry) × IsHeldBy h age best es × (length es ≡ most)
  pub longest : (i : ℕ) (f : List Entry) → i < m → IsHeldBy h age i f → length f ≤ most

pub none_longest : (h : Handed) (age : ℕ) → IsLongestBelow h age 0 0 0
none_longest h age = record { held = λ l. absurd (omega (arith, l)); longest = λ i f l x. absurd (omega (arith, l)) }

-- one member more, which has so many entries if it is a holder
longest_more : (h : Handed) (age m best most len : ℕ) → IsLongestBelow h age m best most
    → ((f : List Entry) → IsHeldBy h age m f → len ≡ length f)
    → (0 < len → (es : List Entry) × IsHeldBy h age m es) → most < len → IsLongestBelow h age (m + 1) m len
longest_more h age m best most len old is some more = record {
  held = λ l. let t = some l in (t.0, t.1, sym (is t.0 t.1));
  longest = λ i f l x. by i f x (cases_lt i m) l;
}
  where
    by : (i : ℕ) (f : List Entry) → IsHeldBy h age i f → (i < m) ⊎ (m ≤ i) → i < m + 1 → length f ≤ len
    by i f x (inl l) k = omega (arith, old.longest i f l x, more)
    by i f x (inr l) k =
        let same : i ≡ m = omega (arith, l, k) in omega (arith, is f (subst (λ j. IsHeldBy h age j f) same x))

longest_other : (h : Handed) (age m best most len : ℕ) → IsLongestBelow h age m best most
    → ((f : List Entry) → IsHeldBy h age m f → len ≡ length f) → len ≤ most → IsLongestBelow h age (m + 1) best most
longest_other h age m best most len old is less = record {
  held = old.held;
  longest = λ i f l x. by i f x (cases_lt i m) l;
}
  where
    by : (i : ℕ) (f : List Entry) → IsHeldBy h age i f → (i < m) ⊎ (m ≤ i) → i < m + 1 → length f ≤ most
    by i f x (inl l) k = old.longest i f l x
    by i f x (inr l) k =
        let same : i ≡ m = omega (arith, l, k) in omega (arith, is f (subst (λ j. IsHeldBy h age j f) same x), less)

pub longest_step : (h : Handed) (age m best most len next now : ℕ) → IsLongestBelow h age m best most
    → ((f : List Entry) → IsHeldBy h age m f → len ≡ length f) → (0 < len → (es : List Entry) × IsHeldBy h age m es)
    → ((next ≡ m) × (now ≡ len) × (most < len)) ⊎ ((next ≡ best) × (now ≡ most) × (len ≤ most))
    → IsLongestBelow h age (m + 1) next now
longest_step h age m best most len next now old is some (inl (e, f, l)) =
    subst (λ n. IsLongestBelow h age (m + 1) n now) (sym e)
    (subst (IsLongestBelow h age (m + 1) m) (sym f) (longest_more h age m best most len old is some l))
longest_step h age m best most len next now old is some (inr (e, f, l)) =
    subst (λ n. IsLongestBelow h age (m + 1) n now) (sym e)
    (subst (IsLongestBelow h age (m + 1) best) (sym f) (longest_other h age m best most len old is l))

-- the view behind one on the path
pub path_more : (h : Handed) (n age first v members : ℕ) → on_path h n age first v ≡ Some members → v < 255
    → on_path h n age first (v + 1) ≡ next_on_path h n age v members
unfolding on_path
path_more h n age first v members e l =
    let next : v + 1 ≡ suc v = omega arith in
    let small : nat_lt v 255 ≡ true = grind (arith, l) in
    ap (on_path h n age first) next
    ∙ (ap (λ b. if b then option_and_then (next_on_path h n age v) (on_path h n age first v) else None) small
    ∙ ap (option_and_then (next_on_path h n age v)) e)

-- behind an end of the path there is nothing
pub path_ends : (h : Handed) (n age first v u : ℕ) → on_path h n age first v ≡ None → v ≤ u
    → on_path h n age first u ≡ None
unfolding on_path
path_ends h n age first v zero e l = let z : v ≡ zero = omega (arith, l) in subst (λ k. on_path h n age first k ≡ None) z e
path_ends h n age first v (suc u) e l = by (λ f. path_ends h n age first v u e f) (cases_lt v (suc u))
  where
    go : (v ≤ u → on_path h n age first u ≡ None) → v ≤ u → (b : Bool)
        → (if b then option_and_then (next_on_path h n age u) (on_path h n age first u) else None) ≡ None
    go r f true = ap (option_and_then (next_on_path h n age u)) (r f)
    go r f false = refl

    by : (v ≤ u → on_path h n age first u ≡ None) → (v < suc u) ⊎ (suc u ≤ v) → on_path h n age first (suc u) ≡ None
    by r (inl f) = go r (omega (arith, f)) (nat_lt u 255)
    by r (inr f) = let same : v ≡ suc u = omega (arith, f, l) in subst (λ k. on_path h n age first k ≡ None) same e

-- the path ends at the latest behind view 255
pub path_past : (h : Handed) (n age first : ℕ) → on_path h n age first 256 ≡ None
unfolding on_path
path_past h n age first = refl

-- what holds of the reason of a fault holds of the same one by the last line
pub reason_told : (P : Refusal → Type 0) (told reason : Option Refusal) → IsSomeAnd told (λ why. reason ≡ Some why)
    → IfSome reason P → IsSomeAnd told P
reason_told P None reason is holds = absurd is
reason_told P (Some why) reason is holds = subst (λ (r : Option Refusal). IfSome r P) is holds

-- of openings of as many members each is as good for holders
pub held_beside : (o other : Opening) (h : Handed) (es : List Entry) → length other.messages ≡ length o.messages
    → AreOfHolders other h es ⊎ AreOfNobody h es → AreOfHolders o h es ⊎ AreOfNobody h es
held_beside o other h es same (inl held) = inl (record {
  age = held.age;
  last = held.last;
  along = held.along;
  path = λ first v members are on. held.path first v members are
      (subst (λ (n : ℕ). on_path h n held.age first v ≡ Some members) (sym same) on);
  held = held.held;
  longest = held.longest;
})
held_beside o other h es same (inr nobody) = inr nobody

-- the votes of an age on the logs name none of the roster but such members
abbrev NameNoneBut : Handed → ℕ → ℕ → (ℕ → Type 0) → Type 0
NameNoneBut h n age IsSuch = (k : ℕ) (log : LogLists) (x : Vote) → h k ≡ Some log → Contains log.votes x
    → x.age ≡ age → (m : ℕ) → m < n → has x.value.leavers m ≡ true → IsSuch m

-- so are the members of the view after such a view, where the votes of the age name none but such members
next-of : (h : Handed) (IsSuch : ℕ → Type 0) (n age v members next : ℕ) → NameNoneBut h n age IsSuch
    → AreSomeOf IsSuch members → next_on_path h n age v members ≡ Some next → AreSomeOf IsSuch next
next-of h IsSuch n age v members next names of e = by (highest (next_votes h n age v members)) refl e
  where
    counted : (x : Vote) → Contains (next_votes h n age v members) x → (next_members members x.value.leavers ≢ 0)
        × ((m : ℕ) → m < 16 → has x.value.leavers m ≡ true → IsSuch m)
    counted x c =
        let t = flat_map-in (λ m. filter (names_next n age v members) (option_map_or (λ (log : LogLists). log.votes) (h m) []))
        (members_of members) x c in
        let f = filter-in (names_next n age v members) (option_map_or (λ (log : LogLists). log.votes) (h t.0) []) x t.2 in
        let alone : (without x.value.leavers (2 ^ n - 1) == 0) ≡ true = grind (arith, f.1) in (
          λ z. absurd (grind (arith, f.1, z)),
          λ m l e. on_log t.0 (h t.0) refl x f.0 (grind (arith, f.1)) m (in-roster n x.value.leavers m l alone e) e,
        )
      where
        on_log : (k : ℕ) (o : Option LogLists) → h k ≡ o → (y : Vote)
            → Contains (option_map_or (λ (log : LogLists). log.votes) (h k) []) y → y.age ≡ age
            → (m : ℕ) → m < n → has y.value.leavers m ≡ true → IsSuch m
        on_log k None at y d same = absurd (in-nothing y
            (subst (λ (o : Option LogLists). Contains (option_map_or (λ (log : LogLists). log.votes) o []) y) at d))
        on_log k (Some log) at y d same = names k log y at
            (subst (λ (o : Option LogLists). Contains (option_map_or (λ (log : LogLists). log.votes) o []) y) at d) same

    part : (x : Vote) → ((m : ℕ) → m < 16 → has x.value.leavers m ≡ true → IsSuch m) → (m : ℕ)
        → has (next_members members x.value.leavers) m ≡ true → IsSuch m
    part x named m there = by (has x.value.leavers m) refl
      where
        l : m < 16
        l = next_members_within members x.value.leavers m there

        by : (b : Bool) → has x.value.leavers m ≡ b → IsSuch m
        by false e =
            let mine : has members m ≡ true = grind (arith, e, has_next_members members x.value.leavers m l, there) in
            of.within m mine
        by true e = named m l e

    by : (o : Option Vote) → highest (next_votes h n age v members) ≡ o
        → option_map (λ x. next_members members x.value.leavers) (highest (next_votes h n age v members)) ≡ Some next
        → AreSomeOf IsSuch next
    by None f g = absurd (none-some next
        (ap (option_map (λ (x : Vote). next_members members x.value.leavers)) (sym f) ∙ g))
    by (Some x) f g = subst (AreSomeOf IsSuch) (same_Some (next_members members x.value.leavers) next
        (ap (option_map (λ (y : Vote). next_members members y.value.leavers)) (sym f) ∙ g)) (record {
          small = next_members_small members x.value.leavers;
          some = (counted x (highest-in (next_votes h n age v members) x f)).0;
          within = part x (counted x (highest-in (next_votes h n age v members) x f)).1;
        })

pub path-of : (h : Handed) (IsSuch : ℕ → Type 0) (n age first v members : ℕ) → NameNoneBut h n age IsSuch
    → AreSomeOf IsSuch first → on_path h n age first v ≡ Some members → AreSomeOf IsSuch members
unfolding on_path
path-of h IsSuch n age first zero members names of e = subst (AreSomeOf IsSuch) (same_Some first members e) of
path-of h IsSuch n age first (suc v) members names of e =
    go (λ u is. path-of h IsSuch n age first v u names of is) (nat_lt v 255) (on_path h n age first v) refl e
  where
    go : ((u : ℕ) → on_path h n age first v ≡ Some u → AreSomeOf IsSuch u)
        → (b : Bool) (o : Option ℕ) → on_path h n age first v ≡ o → (if b then option_and_then
        (next_on_path h n age v) (on_path h n age first v) else None) ≡ Some members → AreSomeOf IsSuch members
    go old false o f g = absurd (none-some members g)
    go old true None f g = absurd (none-some members (ap (option_and_then (next_on_path h n age v)) (sym f) ∙ g))
    go old true (Some u) f g =
        next-of h IsSuch n age v u members names (old u f) (ap (option_and_then (next_on_path h n age v)) (sym f) ∙ g)

pub some_is : (o : Option LogLists) (log : LogLists) → o ≡ Some log → is_some o ≡ true
some_is o log e = ap is_some e

pub names_so : (n age v members : ℕ) (x : Vote) → x.age ≡ age → x.view ≡ v → x.members ≡ n → x.value.leavers ≢ 0
    → without x.value.leavers (2 ^ n - 1) ≡ 0
    → next_members members x.value.leavers ≢ 0 → names_next n age v members x ≡ true
names_so n age v members x a b c d inside e = grind (arith, a, b, c, d, inside, e)

pub names_parts : (n age v members : ℕ) (x : Vote) → names_next n age v members x ≡ true → (x.age ≡ age) × (x.view ≡ v)
names_parts n age v members x e = grind (arith, e)

pub vote-among : (h : Handed) (n age v members i : ℕ) (log : LogLists) (x : Vote) → h i ≡ Some log
    → has members i ≡ true → i < 16 → Contains log.votes x → names_next n age v members x ≡ true
    → Contains (next_votes h n age v members) x
vote-among h n age v members i log x handed there small c names =
    in-flat_map (λ m. filter (names_next n age v members) (option_map_or (λ l. l.votes) (h m) []))
    (members_of members) i x (has-member members i there small)
    (in-filter (names_next n age v members) (option_map_or (λ l. l.votes) (h i) []) x names
    (subst (λ o. Contains (option_map_or (λ l. l.votes) o []) x) (sym handed) c))

pub among-vote : (h : Handed) (n age v members : ℕ) (x : Vote) → Contains (next_votes h n age v members) x
    → (i : ℕ) × (log : LogLists) × (h i ≡ Some log) × (has members i ≡ true) × Contains log.votes x
    × (names_next n age v members x ≡ true)
among-vote h n age v members x c = by t.0 (h t.0) refl t.1 t.2
  where
    t : (m : ℕ) × Contains (members_of members) m
        × Contains (filter (names_next n age v members) (option_map_or (λ l. l.votes) (h m) [])) x
    t = flat_map-in (λ m. filter (names_next n age v members) (option_map_or (λ l. l.votes) (h m) []))
        (members_of members) x c

    by : (m : ℕ) (o : Option LogLists) → h m ≡ o → Contains (members_of members) m
        → Contains (filter (names_next n age v members) (option_map_or (λ l. l.votes) (h m) [])) x
        → (i : ℕ) × (log : LogLists) × (h i ≡ Some log) × (has members i ≡ true) × Contains log.votes x
        × (names_next n age v members x ≡ true)
    by m None e is there = absurd (in-nothing x (subst
        (λ o. Contains (filter (names_next n age v members) (option_map_or (λ l. l.votes) o [])) x) e there))
    by m (Some log) e is there =
        let r = filter-in (names_next n age v members) log.votes x (subst
        (λ o. Contains (filter (names_next n age v members) (option_map_or (λ l. l.votes) o [])) x) e there) in
        let at = read-in (members_of members) m is in (m, log, e, member-has members at.0 m at.1, r.0, r.1)

-- the longest entries of a holder are chosen
pub of_holders : (o : Opening) (h : Handed) (age : ℕ) (es : List Entry) → IsLastAge h age
    → AreHoldersAlong h age → AreOnHolder h age es → ((f : List Entry) → AreOnHolder h age f → length f ≤ length es)
    → ((first : ℕ) → Contains es (View age 0 first) → HasPath (length o.messages) h age first) → AreOfHolders o h es
of_holders o h age es last along held longest path = record {
  age = age;
  last = last;
  along = along;
  path = λ first v members is e. path first (there first is) v members e;
  held = held;
  longest = longest;
}
  where
    there : (first : ℕ) → AreFirst h age first → Contains es (View age 0 first)
    there first (f, on, c) = prefix-in f es (View age 0 first) (front_of f es (along f es on held) (longest f on)) c
