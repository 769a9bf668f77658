-- Logs make one start, or are refused for one reason.
use Rattle.std.proofs.Common.{◌≡◌, ℕ, arith, sym, ◌∙◌, List, subst, ◌⊎◌, inl, inr, ◌+◌, Some, ◌*◌, ◌/◌, ◌<◌, length, None, ap, ap₂, refl, Contains}
use Rattle.std.proofs.lemmas.Option.{none-some, same_Some}
use Rattle.dr_entry.{specs.declared.entry.Entry.{Entry, TheVariants.View}, proofs.NumberFacts.before_or_behind}
use Rattle.dr_history.{specs.Members.members_of, proofs.ViewLemmas.{ViewsRise, ViewsRise-standing, one-view}}
use Rattle.dr_history.specs.Restarting.{IsForeignAt, DifferAt, IsEarlierPair, AllStand, AreAlong}
use Rattle.dr_history.{specs.Soundness.whole_roster, proofs.Restarts.{one-long, differ_not_along, one_difference}}
use Rattle.dr_history.{specs.declared.opening.Opening.Opening, proofs.{Lists.prefix-in, Stood.one-place}}
use Rattle.dr_restart.specs.Choosing.{Handed, IsLastAge, AreOfNobody, AreOfHolders, AreOnHolder, HasAge, IsAgeAfter, IsChosenStart, HasQuorum, handed_of, AreFirst, on_path}
use Rattle.dr_restart.specs.Refusing.{HaveNothingForeign, IsFirstForeignOf, LacksQuorum, AreHoldersAlong, IsFirstSplit, HasPath, LacksPath, Refusal, IsRefusedFor, IsHeldBy}
use Rattle.dr_restart.specs.Refusing.Refusal.{AgesUsedUp, Disagree, Foreign, NoQuorum}
use Rattle.dr_restart.{specs.declared.{lists.LogLists.LogLists, start.Start.Start}, proofs.Choosing.on_holder}

pub one-last : (h : Handed) (a b : ℕ) → IsLastAge h a → IsLastAge h b → a ≡ b
one-last h a b x y = omega (
  arith,
  x.greatest y.some.0 b y.some.1 y.some.2 y.some.3,
  y.greatest x.some.0 a x.some.1 x.some.2 x.some.3,
)

pub no-last : (h : Handed) (es : List Entry) (age : ℕ) → AreOfNobody h es → IsLastAge h age → ⊥
no-last h es age n x = none-some x.some.3.0 (sym (n.nobody x.some.0 x.some.1 x.some.2) ∙ x.some.3.1)

one-held : (o : Opening) (h : Handed) (f g : List Entry) → AreOfHolders o h f → AreOfHolders o h g → f ≡ g
one-held o h f g x y =
    let same : x.age ≡ y.age = one-last h x.age y.age x.last y.last in
    let there : AreOnHolder h y.age f = subst (λ a. AreOnHolder h a f) same x.held in
    let here : AreOnHolder h x.age g = subst (λ a. AreOnHolder h a g) (sym same) y.held in
    one-long f g (x.along f g x.held here) (y.longest f there) (x.longest g here)

one-entries : (o : Opening) (h : Handed) (f g : List Entry) → AreOfHolders o h f ⊎ AreOfNobody h f
    → AreOfHolders o h g ⊎ AreOfNobody h g → f ≡ g
one-entries o h f g (inl x) (inl y) = one-held o h f g x y
one-entries o h f g (inl x) (inr y) = absurd (no-last h g x.age y x.last)
one-entries o h f g (inr x) (inl y) = absurd (no-last h f y.age x y.last)
one-entries o h f g (inr x) (inr y) = x.none ∙ sym y.none

one-age : (h : Handed) (a b : ℕ) → IsAgeAfter h a → IsAgeAfter h b → a ≡ b
one-age h a b x y = by x.next y.next
  where
    by : (a ≡ 0) ⊎ ((c : ℕ) × (m : ℕ) × (log : LogLists) × (h m ≡ Some log) × HasAge log c × (a ≡ c + 1))
        → (b ≡ 0) ⊎ ((c : ℕ) × (m : ℕ) × (log : LogLists) × (h m ≡ Some log) × HasAge log c × (b ≡ c + 1)) → a ≡ b
    by (inl e) (inl f) = e ∙ sym f
    by (inl e) (inr (c, m, log, at, has, f)) = absurd (omega (arith, e, x.above m c log at has))
    by (inr (c, m, log, at, has, e)) (inl f) = absurd (omega (arith, f, y.above m c log at has))
    by (inr (c, m, log, at, has, e)) (inr (d, n, other, here, knows, f)) = omega (
      arith,
      e,
      f,
      y.above m c log at has,
      x.above n d other here knows,
    )

same-start : (s t : Start) → s.age ≡ t.age → s.present ≡ t.present → s.entries ≡ t.entries
    → s ≡ record t { members = s.members }
same-start s t a p e = λ z. record { age = a z; members = s.members; present = p z; entries = e z }

pub one-start : (o : Opening) (h : Handed) (s t : Start) → IsChosenStart o h s → IsChosenStart o h t
    → s ≡ record t { members = s.members }
one-start o h s t x y = same-start s t (one-age h s.age t.age x.age y.age) (x.present ∙ sym y.present)
    (one-entries o h s.entries t.entries x.entries y.entries)

pub foreign-no : (o : Opening) (h : Handed) (m place : ℕ) → IsFirstForeignOf o h m place → HaveNothingForeign o h → ⊥
foreign-no o h m place x sound = x.foreign.foreign (sound m x.log x.here place x.foreign.entry x.foreign.here)

pub lacks-no : (h : Handed) (members have need : ℕ) → LacksQuorum h members have need → HasQuorum h members → ⊥
lacks-no h members have need x q =
    by (length (members_of (handed_of h members))) (length (members_of members)) x.count x.half q
  where
    by : (some all : ℕ) → have ≡ some → need ≡ all / 2 + 1 → all < 2 * some → ⊥
    by some all e f l = let less : have < need = x.fewer in grind (arith, e, f, l, less)

split-no : (h : Handed) (age other a b place : ℕ) → IsLastAge h age → IsFirstSplit h age a b place
    → IsLastAge h other → AreHoldersAlong h other → ⊥
split-no h age other a b place last x also along =
    let same : age ≡ other = one-last h age other last also in
    differ_not_along x.one x.other place x.differ
    (along x.one x.other (subst (λ c. AreOnHolder h c x.one) same (on_holder h age a x.one x.in_a))
    (subst (λ c. AreOnHolder h c x.other) same (on_holder h age b x.other x.in_b)))

path-no : (n : ℕ) (h : Handed) (age other first view have need : ℕ) → IsLastAge h age → AreFirst h age first
    → LacksPath n h age first view have need → IsLastAge h other
    → ((f : ℕ) → AreFirst h other f → HasPath n h other f) → ⊥
path-no n h age other first view have need last is x also path =
    let same : age ≡ other = one-last h age other last also in
    lacks-no h x.members have need x.lacks (path first (subst (λ a. AreFirst h a first) same is) view x.members
    (subst (λ a. on_path h n a first view ≡ Some x.members) same x.here))

pub no-refusal : (o : Opening) (h : Handed) (s : Start) (r : Refusal) → IsChosenStart o h s → IsRefusedFor o h r → ⊥
no-refusal o h s (Foreign m place) c x = foreign-no o h m place x c.sound
no-refusal o h s (NoQuorum None have need) c x = lacks-no h (whole_roster o) have need x.1 c.quorum
no-refusal o h s (Disagree a b place) c x = by c.entries
  where
    by : AreOfHolders o h s.entries ⊎ AreOfNobody h s.entries → ⊥
    by (inl y) = split-no h x.1 y.age a b place x.2 x.3 y.last y.along
    by (inr y) = no-last h s.entries x.1 y x.2
no-refusal o h s (NoQuorum (Some v) have need) c x = by c.entries
  where
    by : AreOfHolders o h s.entries ⊎ AreOfNobody h s.entries → ⊥
    by (inl y) = path-no (length o.messages) h x.1 y.age x.4 v have need x.2 x.5 x.6 y.last
        (λ f is u members e. y.path f u members is e)
    by (inr y) = no-last h s.entries x.1 y x.2
no-refusal o h s AgesUsedUp c x = omega (arith, c.left, c.age.above x.2 65535 x.3 x.4 x.5)

one-foreign : (o : Opening) (h : Handed) (m p n q : ℕ) → IsFirstForeignOf o h m p → IsFirstForeignOf o h n q
    → Foreign m p ≡ Foreign n q
one-foreign o h m p n q x y = by (before_or_behind m n)
  where
    later : (m p n q : ℕ) → IsFirstForeignOf o h m p → IsFirstForeignOf o h n q → m < n → ⊥
    later m p n q x y l = x.foreign.foreign (y.before m x.log l x.here p x.foreign.entry x.foreign.here)

    by : (m < n) ⊎ ((m ≡ n) ⊎ (n < m)) → Foreign m p ≡ Foreign n q
    by (inl l) = absurd (later m p n q x y l)
    by (inr (inl e)) =
        let same : y.log ≡ x.log = same_Some y.log x.log (sym y.here ∙ (ap h (sym e) ∙ x.here)) in
        ap₂ Foreign e (one-place o x.log.entries p q x.foreign
        (subst (λ (log : LogLists). IsForeignAt o log.entries q) same y.foreign))
    by (inr (inr l)) = absurd (later n q m p y x l)

one-split : (h : Handed) (age a b p i j q : ℕ) → IsFirstSplit h age a b p → IsFirstSplit h age i j q
    → Disagree a b p ≡ Disagree i j q
one-split h age a b p i j q x y = by (before_or_behind b j) (before_or_behind a i)
  where
    earlier : (a b p i j q : ℕ) → IsFirstSplit h age a b p → IsFirstSplit h age i j q → IsEarlierPair a b i j → ⊥
    earlier a b p i j q x y e = differ_not_along x.one x.other p x.differ (y.before a b x.one x.other e x.in_a x.in_b)

    same-held : (m n : ℕ) (f g : List Entry) → m ≡ n → IsHeldBy h age m f → IsHeldBy h age n g → f ≡ g
    same-held m n f g e (log, at, ends, is) (other, here, also, too) =
        is ∙ (ap (λ (l : LogLists). l.entries) (same_Some log other (sym at ∙ (ap h e ∙ here))) ∙ sym too)

    same : a ≡ i → b ≡ j → Disagree a b p ≡ Disagree i j q
    same e f =
        let one : y.one ≡ x.one = sym (same-held a i x.one y.one e x.in_a y.in_a) in
        let other : y.other ≡ x.other = sym (same-held b j x.other y.other f x.in_b y.in_b) in
        let place : p ≡ q = one_difference x.one x.other p q x.differ
        (subst (λ (g : List Entry). DifferAt g x.other q) one
        (subst (λ (g : List Entry). DifferAt y.one g q) other y.differ)) in
        λ z. Disagree (e z) (f z) (place z)

    by : (b < j) ⊎ ((b ≡ j) ⊎ (j < b)) → (a < i) ⊎ ((a ≡ i) ⊎ (i < a)) → Disagree a b p ≡ Disagree i j q
    by (inl l) k = absurd (earlier a b p i j q x y (x.below, inl l))
    by (inr (inr l)) k = absurd (earlier i j q a b p y x (y.below, inl l))
    by (inr (inl f)) (inl l) = absurd (earlier a b p i j q x y (x.below, inr (f, l)))
    by (inr (inl f)) (inr (inr l)) = absurd (earlier i j q a b p y x (y.below, inr (sym f, l)))
    by (inr (inl f)) (inr (inl e)) = same e f

pub one-first : (o : Opening) (h : Handed) (age f g : ℕ) → HaveNothingForeign o h → AreHoldersAlong h age
    → AreFirst h age f → AreFirst h age g → f ≡ g
one-first o h age f g sound along x y = by (along x.0 y.0 x.1 y.1)
  where
    rise : (es : List Entry) → AreOnHolder h age es → ViewsRise 0 es
    rise es (m, log, at, ends, e) = ViewsRise-standing o es (subst (AllStand o) (sym e) (sound m log at))

    by : AreAlong x.0 y.0 → f ≡ g
    by (inl p) = one-view y.0 age 0 f g (rise y.0 y.1) (prefix-in x.0 y.0 (View age 0 f) p x.2) y.2
    by (inr p) = one-view x.0 age 0 f g (rise x.0 x.1) x.2 (prefix-in y.0 x.0 (View age 0 g) p y.2)

same-count : (h : Handed) (members others a b c d : ℕ) → members ≡ others → LacksQuorum h members a b
    → LacksQuorum h others c d → (a ≡ c) × (b ≡ d)
same-count h members others a b c d same x y =
    let z : LacksQuorum h members c d = subst (λ m. LacksQuorum h m c d) (sym same) y in
    (x.count ∙ sym z.count, x.half ∙ sym z.half)

one-path : (n : ℕ) (h : Handed) (age first v a b u c d : ℕ) → LacksPath n h age first v a b
    → LacksPath n h age first u c d → NoQuorum (Some v) a b ≡ NoQuorum (Some u) c d
one-path n h age first v a b u c d x y = by (before_or_behind v u)
  where
    by : (v < u) ⊎ ((v ≡ u) ⊎ (u < v)) → NoQuorum (Some v) a b ≡ NoQuorum (Some u) c d
    by (inl l) = absurd (lacks-no h x.members a b x.lacks (y.before v x.members l x.here))
    by (inr (inl e)) =
        let same : x.members ≡ y.members =
        same_Some x.members y.members (sym x.here ∙ (ap (on_path h n age first) e ∙ y.here)) in
        let t = same-count h x.members y.members a b c d same x.lacks y.lacks in
        λ z. NoQuorum (Some (e z)) (t.0 z) (t.1 z)
    by (inr (inr l)) = absurd (lacks-no h y.members c d y.lacks (x.before u y.members l y.here))

one-short : (o : Opening) (h : Handed) (a b c d : ℕ) → LacksQuorum h (whole_roster o) a b
    → LacksQuorum h (whole_roster o) c d → NoQuorum None a b ≡ NoQuorum None c d
one-short o h a b c d x y =
    let t = same-count h (whole_roster o) (whole_roster o) a b c d refl x y in ap₂ (NoQuorum None) t.0 t.1

pub one-refusal : (o : Opening) (h : Handed) (r q : Refusal) → IsRefusedFor o h r → IsRefusedFor o h q → r ≡ q
one-refusal o h (Foreign m p) (Foreign n q) x y = one-foreign o h m p n q x y
one-refusal o h (Foreign m p) (NoQuorum None c d) x y = absurd (foreign-no o h m p x y.0)
one-refusal o h (Foreign m p) (NoQuorum (Some u) c d) x y = absurd (foreign-no o h m p x y.0.0)
one-refusal o h (Foreign m p) (Disagree i j k) x y = absurd (foreign-no o h m p x y.0.0)
one-refusal o h (Foreign m p) AgesUsedUp x y = absurd (foreign-no o h m p x y.0.0)
one-refusal o h (NoQuorum None a b) (Foreign n q) x y = absurd (foreign-no o h n q y x.0)
one-refusal o h (NoQuorum None a b) (NoQuorum None c d) x y = one-short o h a b c d x.1 y.1
one-refusal o h (NoQuorum None a b) (NoQuorum (Some u) c d) x y = absurd (lacks-no h (whole_roster o) a b x.1 y.0.1)
one-refusal o h (NoQuorum None a b) (Disagree i j k) x y = absurd (lacks-no h (whole_roster o) a b x.1 y.0.1)
one-refusal o h (NoQuorum None a b) AgesUsedUp x y = absurd (lacks-no h (whole_roster o) a b x.1 y.0.1)
one-refusal o h (Disagree a b p) (Foreign n q) x y = absurd (foreign-no o h n q y x.0.0)
one-refusal o h (Disagree a b p) (NoQuorum None c d) x y = absurd (lacks-no h (whole_roster o) c d y.1 x.0.1)
one-refusal o h (Disagree a b p) (NoQuorum (Some u) c d) x y = absurd (split-no h x.1 y.1 a b p x.2 x.3 y.2 y.3)
one-refusal o h (Disagree a b p) (Disagree i j q) x y =
    one-split h x.1 a b p i j q x.3 (subst (λ age. IsFirstSplit h age i j q) (one-last h y.1 x.1 y.2 x.2) y.3)
one-refusal o h (Disagree a b p) AgesUsedUp x y = absurd (split-no h x.1 x.1 a b p x.2 x.3 x.2 (y.1 x.1 x.2).0)
one-refusal o h (NoQuorum (Some v) a b) (Foreign n q) x y = absurd (foreign-no o h n q y x.0.0)
one-refusal o h (NoQuorum (Some v) a b) (NoQuorum None c d) x y = absurd (lacks-no h (whole_roster o) c d y.1 x.0.1)
one-refusal o h (NoQuorum (Some v) a b) (NoQuorum (Some u) c d) x y =
    let age : y.1 ≡ x.1 = one-last h y.1 x.1 y.2 x.2 in
    let first : y.4 ≡ x.4 = one-first o h x.1 y.4 x.4 x.0.0 x.3 (subst (λ e. AreFirst h e y.4) age y.5) x.5 in
    one-path (length o.messages) h x.1 x.4 v a b u c d x.6
    (subst (λ f. LacksPath (length o.messages) h x.1 f u c d) first
    (subst (λ e. LacksPath (length o.messages) h e y.4 u c d) age y.6))
one-refusal o h (NoQuorum (Some v) a b) (Disagree i j q) x y = absurd (split-no h y.1 x.1 i j q y.2 y.3 x.2 x.3)
one-refusal o h (NoQuorum (Some v) a b) AgesUsedUp x y =
    absurd (path-no (length o.messages) h x.1 x.1 x.4 v a b x.2 x.5 x.6 x.2 (y.1 x.1 x.2).1)
one-refusal o h AgesUsedUp (Foreign n q) x y = absurd (foreign-no o h n q y x.0.0)
one-refusal o h AgesUsedUp (NoQuorum None c d) x y = absurd (lacks-no h (whole_roster o) c d y.1 x.0.1)
one-refusal o h AgesUsedUp (NoQuorum (Some u) c d) x y =
    absurd (path-no (length o.messages) h y.1 y.1 y.4 u c d y.2 y.5 y.6 y.2 (x.1 y.1 y.2).1)
one-refusal o h AgesUsedUp (Disagree i j q) x y = absurd (split-no h y.1 y.1 i j q y.2 y.3 y.2 (x.1 y.1 y.2).0)
one-refusal o h AgesUsedUp AgesUsedUp x y = refl

-- where the path holds of one View 0 of the age on these entries, it holds of each
pub path_of_all : (o : Opening) (h : Handed) (age first : ℕ) (es : List Entry)
    → AllStand o es → Contains es (View age 0 first) → HasPath (length o.messages) h age first
    → (other : ℕ) → Contains es (View age 0 other) → HasPath (length o.messages) h age other
path_of_all o h age first es stand c path other d =
    subst (HasPath (length o.messages) h age) (one-view es age 0 first other (ViewsRise-standing o es stand) c d) path

-- what was chosen has passed, whichever age is the last
pub passed : (o : Opening) (h : Handed) (es : List Entry) → AreOfHolders o h es ⊎ AreOfNobody h es
    → (age : ℕ) → IsLastAge h age
    → AreHoldersAlong h age × ((first : ℕ) → AreFirst h age first → HasPath (length o.messages) h age first)
passed o h es (inl x) age last =
    subst (λ a. AreHoldersAlong h a × ((first : ℕ) → AreFirst h a first → HasPath (length o.messages) h a first))
    (one-last h x.age age x.last last) (x.along, λ first is v members e. x.path first v members is e)
passed o h es (inr x) age last = absurd (no-last h es age x last)
