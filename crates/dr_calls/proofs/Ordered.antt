-- Calls for which all have voted are ordered by their ages.
use Rattle.std.proofs.Common.{◌≡◌, refl, ap, sym, ◌∙◌, ◌⊎◌, inl, inr, subst, ℕ, ◌<◌, ◌≤◌, arith, true, List, [], ◌∷◌, Contains, Some, slice_get, slice_index}
use Rattle.std.proofs.lemmas.{Bool.cases_eq, List.Elements.{Contains-push, Contains-push_cases, Contains-append_left}}
use Rattle.dr_entry.specs.declared.record.AgeVote.{AgeVote}
use Rattle.dr_history.specs.{Members.has, Soundness.whole_roster, declared.opening.Opening.Opening}
use Rattle.dr_restart.specs.{Choosing.{HasAge, of_set}, Trying.age_vote_of, declared.lists.LogLists.LogLists}
use Rattle.dr_restart.proofs.Handing.{handed-has, handed-part, set-log}
use Rattle.dr_words.{specs.Masks.{IsMajorityOf, IsPartOf}, proofs.Majorities.majorities_meet_lem}
use Rattle.dr_calls.specs.Wire.{Begins, Called, ComesTo, Given, HandsIn, IsNew, IsOpened, IsRunSince, Leaves, Place, Rises, Runs, Voted, Votes, Wire, WireStep, WireWay, vote_of}

-- a log that was handed in is no longer than it is now, and where it is as long it is the same
pub record IsOf (p : Place) (g : Given) : Type 0 where
  pub below : g.long ≤ p.long
  pub same : g.long ≡ p.long → g.lists ≡ p.lists

-- the votes of a member are on its log
abbrev pub IsCast : Place → Voted → Type 0
IsCast p v = Contains p.lists.age_votes (age_vote_of v.start)

-- a vote is for the age of its call, by most of the roster
pub record IsRight (o : Opening) (v : Voted) : Type 0 where
  pub age : v.start.age ≡ v.call.age
  pub part : IsPartOf v.call.set (whole_roster o)
  pub majority : IsMajorityOf v.call.set (whole_roster o)

-- what always holds
pub record Holds (o : Opening) (w : Wire) : Type 0 where
  pub given : (g : Given) → Contains w.given g → IsOf (w.places g.member) g
  pub cast : (v : Voted) → Contains w.votes v → IsCast (w.places v.member) v
  pub right : (v : Voted) → Contains w.votes v → IsRight o v
  pub apart : (u v : Voted) → Contains w.votes u → Contains w.votes v → u.member ≡ v.member
      → (u ≡ v) ⊎ (u.call.age < v.call.age) ⊎ (v.call.age < u.call.age)

-- ---- logs only grow

-- a place whose log has grown, or is as before
pub record HasGrown (p q : Place) : Type 0 where
  pub longer : (p.long < q.long) ⊎ ((p.long ≡ q.long) × (p.lists ≡ q.lists))
  pub keeps : (x : AgeVote) → Contains p.lists.age_votes x → Contains q.lists.age_votes x

pub stays : (p : Place) → HasGrown p p
stays p = record { longer = inr (refl, refl); keeps = λ x c. c }

pub of-grown : (p q : Place) (g : Given) → HasGrown p q → IsOf p g → IsOf q g
of-grown p q g grown is = by grown.longer
  where
    by : (p.long < q.long) ⊎ ((p.long ≡ q.long) × (p.lists ≡ q.lists)) → IsOf q g
    by (inl l) = record { below = omega (arith, is.below, l); same = λ e. absurd (omega (arith, is.below, l, e)) }
    by (inr (e, f)) = record { below = omega (arith, is.below, e); same = λ s. is.same (s ∙ sym e) ∙ f }

-- so it is of all places, where one came to another
pub all-grown : (w next : Wire) (m : ℕ) (p : Place) → ComesTo w m p next → HasGrown (w.places m) p
    → (k : ℕ) → HasGrown (w.places k) (next.places k)
all-grown w next m p comes grown k = by (cases_eq k m)
  where
    by : (k ≡ m) ⊎ (k ≡ m → ⊥) → HasGrown (w.places k) (next.places k)
    by (inl e) = subst (λ n. HasGrown (w.places n) (next.places n)) (sym e)
        (subst (λ q. HasGrown (w.places m) q) (sym comes.own) grown)
    by (inr n) = subst (λ q. HasGrown (w.places k) q) (sym (comes.others k n)) (stays (w.places k))

-- with the same that was handed in, and the same votes, all goes on to hold
holds-grown : (o : Opening) (w next : Wire) → Holds o w → ((k : ℕ) → HasGrown (w.places k) (next.places k))
    → next.given ≡ w.given → next.votes ≡ w.votes → Holds o next
holds-grown o w next h grown given votes = record {
  given = λ g c. of-grown _ _ g (grown g.member) (h.given g (subst (λ l. Contains l g) given c));
  cast = λ v c. (grown v.member).keeps (age_vote_of v.start) (h.cast v (old v c));
  right = λ v c. h.right v (old v c);
  apart = λ u v c d e. h.apart u v (old u c) (old v d) e;
}
  where
    old : (v : Voted) → Contains next.votes v → Contains w.votes v
    old v c = subst (λ l. Contains l v) votes c

-- ---- each step

hands-in : (o : Opening) (w next : Wire) → Holds o w → HandsIn w next → Holds o next
hands-in o w next h s = record {
  given = λ g c. by g (Contains-push_cases w.given _ g (subst (λ l. Contains l g) s.given c));
  cast = rest.cast;
  right = rest.right;
  apart = rest.apart;
}
  where
    grown : (k : ℕ) → HasGrown (w.places k) (next.places k)
    grown = all-grown w next s.member _ s.comes (record { longer = inr (refl, refl); keeps = λ x c. c })

    -- but for what is handed in
    middle : Wire
    middle = record { places = next.places; given = w.given; votes = next.votes; ages = next.ages }

    rest : Holds o middle
    rest = holds-grown o w middle h grown refl s.votes

    by : (g : Given) → Contains w.given g
        ⊎ (record { member = s.member; long = (w.places s.member).long; lists = (w.places s.member).lists } ≡ g)
        → IsOf (next.places g.member) g
    by g (inl c) = rest.given g c
    by g (inr e) = subst (λ x. IsOf (next.places x.member) x) e (of-grown (w.places s.member) (next.places s.member) _
        (grown s.member) (record { below = omega arith; same = λ _. refl }))

rises : (o : Opening) (w next : Wire) → Holds o w → Rises w next → Holds o next
rises o w next h s = holds-grown o w next h
    (all-grown w next s.member _ s.comes (record { longer = inl s.longer; keeps = λ x c. c })) s.given s.votes

leaves : (o : Opening) (w next : Wire) → Holds o w → Leaves w next → Holds o next
leaves o w next h s = holds-grown o w next h
    (all-grown w next s.member _ s.comes (record { longer = inr (refl, refl); keeps = λ x c. c })) s.given s.votes

runs : (o : Opening) (w next : Wire) → Holds o w → Runs w next → Holds o next
runs o w next h s = holds-grown o w next h
    (all-grown w next s.member _ s.comes (record { longer = inl s.longer; keeps = s.keeps })) s.given s.votes

begins : (o : Opening) (w next : Wire) → Holds o w → Begins w next → Holds o next
begins o w next h s = holds-grown o w next h
    (λ k. subst (λ p. HasGrown (w.places k) p) (sym (s.places k)) (stays (w.places k))) s.given s.votes

-- the log of who votes is among those of the call, as it stands there
pub record IsOwnLog (o : Opening) (w next : Wire) (s : Votes o w next) (log : LogLists) : Type 0 where
  pub there : of_set s.logs s.call.set s.member ≡ Some log
  pub at : slice_get s.logs s.member ≡ Some log
  pub given : Contains w.given (record { member = s.member; long = slice_index s.call.lengths s.member; lists = log })
  pub now : log ≡ (w.places s.member).lists

pub own-log : (o : Opening) (w next : Wire) → Holds o w → (s : Votes o w next)
    → (log : LogLists) × IsOwnLog o w next s log
own-log o w next h s = (own.0, record { there = own.1; at = at.1; given = given; now = (h.given _ given).same s.own })
  where
    own : (log : LogLists) × (of_set s.logs s.call.set s.member ≡ Some log)
    own =
        let there = handed-has (of_set s.logs s.call.set) (whole_roster o) s.member
        (subst (λ set. has set s.member ≡ true) (sym s.present ∙ s.chosen.present) s.inside) in
        (there.1, there.2)

    at : (has s.call.set s.member ≡ true) × (slice_get s.logs s.member ≡ Some own.0)
    at = set-log s.logs s.call.set s.member own.0 own.1

    given : Contains w.given (record { member = s.member; long = slice_index s.call.lengths s.member; lists = own.0 })
    given = s.given s.member own.0 at.0 at.1

-- who votes knows no age from that of the call on
pub votes-above : (o : Opening) (w next : Wire) → Holds o w → (s : Votes o w next) → (v : Voted) → Contains w.votes v
    → v.member ≡ s.member → v.call.age < s.call.age
votes-above o w next h s v c e = subst (λ a. a < s.call.age) (h.right v c).age
    (subst (λ a. v.start.age < a) s.age (s.chosen.age.above s.member v.start.age own.0 own.1.there known))
  where
    own : (log : LogLists) × IsOwnLog o w next s log
    own = own-log o w next h s

    known : HasAge own.0 v.start.age
    known = inr (inr (
      age_vote_of v.start,
      subst (λ log. Contains log.age_votes (age_vote_of v.start)) (sym own.1.now)
          (subst (λ m. IsCast (w.places m) v) e (h.cast v c)),
      refl,
    ))

votes : (o : Opening) (w next : Wire) → Holds o w → Votes o w next → Holds o next
votes o w next h s = record {
  given = λ g c. of-grown _ _ g (grown g.member) (h.given g (subst (λ l. Contains l g) s.stays c));
  cast = λ v c. cast v (which v c);
  right = λ v c. right v (which v c);
  apart = λ u v c d e. apart u v (which u c) (which v d) e;
}
  where
    vote : Voted
    vote = vote_of w s.member s.call s.logs s.start

    which : (v : Voted) → Contains next.votes v → Contains w.votes v ⊎ (vote ≡ v)
    which v c = Contains-push_cases w.votes vote v (subst (λ l. Contains l v) s.votes c)

    grown : (k : ℕ) → HasGrown (w.places k) (next.places k)
    grown = all-grown w next s.member _ s.comes
        (record { longer = inl s.longer; keeps = λ x c. Contains-append_left _ _ x c })

    cast : (v : Voted) → Contains w.votes v ⊎ (vote ≡ v) → IsCast (next.places v.member) v
    cast v (inl c) = (grown v.member).keeps (age_vote_of v.start) (h.cast v c)
    cast v (inr e) = subst (λ x. IsCast (next.places x.member) x) e
        (subst (λ p. IsCast p vote) (sym s.comes.own) (Contains-push _ _))

    right : (v : Voted) → Contains w.votes v ⊎ (vote ≡ v) → IsRight o v
    right v (inl c) = h.right v c
    right v (inr e) = subst (λ x. IsRight o x) e (record {
      age = s.age;
      part = subst (λ set. IsPartOf set (whole_roster o)) (sym s.chosen.present ∙ s.present)
          (handed-part (of_set s.logs s.call.set) (whole_roster o));
      majority = subst (λ set. IsMajorityOf set (whole_roster o)) (sym s.chosen.present ∙ s.present) s.chosen.quorum;
    })

    apart : (u v : Voted) → Contains w.votes u ⊎ (vote ≡ u) → Contains w.votes v ⊎ (vote ≡ v) → u.member ≡ v.member
        → (u ≡ v) ⊎ (u.call.age < v.call.age) ⊎ (v.call.age < u.call.age)
    apart u v (inl c) (inl d) e = h.apart u v c d e
    apart u v (inl c) (inr d) e = inr (inl (subst (λ x. u.call.age < x.call.age) d
        (votes-above o w next h s u c (e ∙ sym (ap (λ x. x.member) d)))))
    apart u v (inr c) (inl d) e = inr (inr (subst (λ x. v.call.age < x.call.age) c
        (votes-above o w next h s v d (sym e ∙ sym (ap (λ x. x.member) c)))))
    apart u v (inr c) (inr d) e = inl (sym c ∙ d)

pub holds-next : (o : Opening) (w next : Wire) → Holds o w → WireStep o w next → Holds o next
holds-next o w next h (inl s) = hands-in o w next h s
holds-next o w next h (inr (inl s)) = votes o w next h s
holds-next o w next h (inr (inr (inl s))) = rises o w next h s
holds-next o w next h (inr (inr (inr (inl s)))) = leaves o w next h s
holds-next o w next h (inr (inr (inr (inr (inl s))))) = begins o w next h s
holds-next o w next h (inr (inr (inr (inr (inr s))))) = runs o w next h s

pub holds : (o : Opening) (begun : Wire) → IsNew begun → (before : List Wire) (w : Wire) → WireWay o begun before w
    → Holds o w
holds o begun new [] w way = record {
  given = λ g c. absurd (none g (subst (λ l. Contains l g) (ap (λ x. x.given) way ∙ new.given) c));
  cast = λ v c. absurd (none v (subst (λ l. Contains l v) (ap (λ x. x.votes) way ∙ new.votes) c));
  right = λ v c. absurd (none v (subst (λ l. Contains l v) (ap (λ x. x.votes) way ∙ new.votes) c));
  apart = λ u v c d e. absurd (none u (subst (λ l. Contains l u) (ap (λ x. x.votes) way ∙ new.votes) c));
}
  where
    none : {X : Type 0} (x : X) → Contains [] x → ⊥
    none x c = omega (arith, c.1)
holds o begun new (x ∷ xs) w way = holds-next o x w (holds o begun new xs x way.0) way.1

-- ---- the law

-- two votes for opened calls are for one call, or of two ages
pub ordered : (o : Opening) (w : Wire) → Holds o w → (u v : Voted) → Contains w.votes u → Contains w.votes v
    → IsOpened w u.call → IsOpened w v.call
    → (u.call ≡ v.call) ⊎ (u.call.age < v.call.age) ⊎ (v.call.age < u.call.age)
ordered o w h u v cu cv opened also = told (h.apart mine.0 yours.0 mine.1 yours.1 (mine.2 ∙ sym yours.2))
  where
    right : IsRight o u
    right = h.right u cu

    right2 : IsRight o v
    right2 = h.right v cv

    meet : (k : ℕ) × (k < 16) × (has (whole_roster o) k ≡ true) × (has u.call.set k ≡ true) × (has v.call.set k ≡ true)
    meet = majorities_meet_lem (whole_roster o) u.call.set v.call.set right.part right2.part right.majority
        right2.majority

    mine : (x : Voted) × Contains w.votes x × (x.member ≡ meet.0) × (x.call ≡ u.call)
    mine = opened meet.0 meet.3

    yours : (x : Voted) × Contains w.votes x × (x.member ≡ meet.0) × (x.call ≡ v.call)
    yours = also meet.0 meet.4

    told : (mine.0 ≡ yours.0) ⊎ (mine.0.call.age < yours.0.call.age) ⊎ (yours.0.call.age < mine.0.call.age)
        → (u.call ≡ v.call) ⊎ (u.call.age < v.call.age) ⊎ (v.call.age < u.call.age)
    told (inl e) = inl (sym mine.3 ∙ ap (λ x. x.call) e ∙ yours.3)
    told (inr (inl l)) = inr (inl (subst (λ c. c.age < v.call.age) mine.3 (subst (λ c. mine.0.call.age < c.age) yours.3 l)))
    told (inr (inr l)) = inr (inr (subst (λ c. c.age < u.call.age) yours.3 (subst (λ c. yours.0.call.age < c.age) mine.3 l)))

-- and so are opened calls
pub calls_ordered : (o : Opening) (begun w : Wire) (one other : Called) (m n : ℕ) → IsRunSince o begun w
    → IsOpened w one → IsOpened w other → has one.set m ≡ true → has other.set n ≡ true
    → (one ≡ other) ⊎ (one.age < other.age) ⊎ (other.age < one.age)
calls_ordered o begun w one other m n run opened also in-one in-other = told (ordered o w
    (holds o begun run.0 run.1.0 w run.1.1) u.0 v.0 u.1 v.1 (subst (λ c. IsOpened w c) (sym u.3) opened)
    (subst (λ c. IsOpened w c) (sym v.3) also))
  where
    u : (x : Voted) × Contains w.votes x × (x.member ≡ m) × (x.call ≡ one)
    u = opened m in-one

    v : (x : Voted) × Contains w.votes x × (x.member ≡ n) × (x.call ≡ other)
    v = also n in-other

    told : (u.0.call ≡ v.0.call) ⊎ (u.0.call.age < v.0.call.age) ⊎ (v.0.call.age < u.0.call.age)
        → (one ≡ other) ⊎ (one.age < other.age) ⊎ (other.age < one.age)
    told r = subst (λ c. (one ≡ c) ⊎ (one.age < c.age) ⊎ (c.age < one.age)) v.3
        (subst (λ c. (c ≡ v.0.call) ⊎ (c.age < v.0.call.age) ⊎ (v.0.call.age < c.age)) u.3 r)
