-- What lasts on logs lasts through openings that overlap: in the order of their ages, calls for which all have voted
-- are tries, and all other votes for ages take nothing away.
use Rattle.std.proofs.Common.{◌≡◌, refl, ap, sym, ◌∙◌, ◌⊎◌, inl, inr, subst, ℕ, zero, suc, ◌+◌, ◌-◌, ◌<◌, arith, Bool, true, false, List, [], ◌∷◌, length, Contains, None, Some, slice_get, slice_index, if◌then◌else◌, ⊎_elim}
use Rattle.std.proofs.{Math.Path.fun_ext, lemmas.Bool.{cases_eq, ltb-true}}
use Rattle.dr_entry.specs.{declared.entry.Entry.{Entry, TheVariants.View}, declared.record.AgeVote.AgeVote}
use Rattle.dr_entry.proofs.ListParts.{in-cases}
use Rattle.dr_history.specs.{History.IsPrefixOf, Members.has, Restarting.AllStand, Soundness.whole_roster}
use Rattle.dr_history.{specs.declared.opening.Opening.Opening, proofs.Bits.has_ones}
use Rattle.dr_machine.specs.{Group.{IsGroup, IsPresent}, World.World}
use Rattle.dr_restart.{specs.Choosing.{IsChosenStart, of_set}, proofs.Handing.{handed-has, log-of_set, set-log}}
use Rattle.dr_restart.specs.{Groups.{first_group_of, group_of}, Trying.{IsTry, MayBeBroughtUp, age_vote_of}}
use Rattle.dr_restart.specs.{Left.{AreLeft, IsLeftByMember, IsLeftByOther}, declared.lists.LogLists.LogLists}
use Rattle.dr_restart.{specs.declared.lists.Attempt.Attempt, proofs.{Refusals.one-start, Sounding.choice-group}}
use Rattle.dr_script.specs.{Ranges.HasGroupRanges, declared.script.Script.Script}
use Rattle.dr_quorum_laws.specs.{Lasting.{AreDurableIn, AreLasting}, Voting.{HasMoreAgeVotes, HaveMoreAgeVotes}}
use Rattle.dr_quorum_laws.proofs.Lasting.{last-kept, last-others, last-tried, since-age, start-durable}
use Rattle.dr_quorum_laws.proofs.Voting.{lasting-more}
use Rattle.dr_words.specs.Masks.{IsMajorityOf}
use Rattle.dr_calls.specs.Wire.{HasCome, HaveCome, IsOpened, IsRunSince, Voted, Wire, lists_below, logs_in, moment}
use Rattle.dr_calls.proofs.{Between.{IsBehind, Keeps, WasCast, keeps}, Ordered.{Holds, ordered}}
use Rattle.dr_calls.proofs.Moments.{at-age, at-next, at-none, at-lists, find, length-lists, lists-at, same-at, same-lists}

-- ---- what calls were made of

-- a log of a call, by number
record IsLogOf (w : Wire) (v : Voted) (m : ℕ) (log : LogLists) : Type 0 where
  pub there : of_set v.logs v.call.set m ≡ Some log
  pub given : Contains w.given (record { member = m; long = slice_index v.call.lengths m; lists = log })

log-there : (o : Opening) (w : Wire) (v : Voted) → WasCast o w v → (m : ℕ) → has v.call.set m ≡ true
    → (log : LogLists) × IsLogOf w v m log
log-there o w v c m inside =
    let t = handed-has (of_set v.logs v.call.set) (whole_roster o) m
    (subst (λ set. has set m ≡ true) (sym c.present ∙ c.chosen.present) inside) in
    let s = set-log v.logs v.call.set m t.1 t.2 in (t.1, record { there = t.2; given = c.given m t.1 inside s.1 })

-- two votes for one call are of the same logs
same-logs : (o : Opening) (begun w : Wire) → Keeps o begun w → (u v : Voted) → Contains w.votes u
    → Contains w.votes v → u.call ≡ v.call → of_set u.logs u.call.set ≡ of_set v.logs v.call.set
same-logs o begun w k u v cu cv e = fun_ext λ m. by m (has u.call.set m) refl
  where
    by : (m : ℕ) (b : Bool) → has u.call.set m ≡ b → of_set u.logs u.call.set m ≡ of_set v.logs v.call.set m
    by m true f =
        let g = subst (λ c. has c.set m ≡ true) e f in
        let one = log-there o w u (k.cast u cu) m f in
        let other = log-there o w v (k.cast v cv) m g in
        one.1.there ∙ ap Some (k.one _ _ one.1.given other.1.given refl (ap (λ c. slice_index c.lengths m) e))
        ∙ sym other.1.there
    by m false f = ap (λ b. if b then slice_get u.logs m else None) f
        ∙ sym (ap (λ b. if b then slice_get v.logs m else None) (subst (λ c. has c.set m ≡ false) e f))

-- and for the same start
same-start : (o : Opening) (begun w : Wire) → Keeps o begun w → (u v : Voted) → Contains w.votes u
    → Contains w.votes v → u.call ≡ v.call → u.start ≡ v.start
same-start o begun w k u v cu cv e = one-start o (of_set v.logs v.call.set) u.start v.start
    (subst (λ h. IsChosenStart o h u.start) (same-logs o begun w k u v cu cv e) (k.cast u cu).chosen)
    (k.cast v cv).chosen
    ∙ ap (λ n. record { age = v.start.age; members = n; present = v.start.present; entries = v.start.entries })
    ((k.cast u cu).members ∙ (k.cast u cu).present ∙ ap (λ c. c.set) e ∙ sym (k.cast v cv).present
    ∙ sym (k.cast v cv).members)

-- two votes of one member for calls of one age are one
same-vote : (o : Opening) (w : Wire) → Holds o w → (u v : Voted) → Contains w.votes u → Contains w.votes v
    → u.member ≡ v.member → u.call.age ≡ v.call.age → u ≡ v
same-vote o w h u v c d e f = by (h.apart u v c d e)
  where
    by : (u ≡ v) ⊎ (u.call.age < v.call.age) ⊎ (v.call.age < u.call.age) → u ≡ v
    by (inl g) = g
    by (inr (inl l)) = absurd (omega (arith, l, f))
    by (inr (inr l)) = absurd (omega (arith, l, f))

-- ---- from one age to the next

-- what a log was before a vote for an age, and what it is behind it
record Crosses (w : Wire) (a m : ℕ) (v : Voted) : Type 0 where
  pub vote : Contains w.votes v
  pub member : v.member ≡ m
  pub age : v.call.age ≡ a
  pub before : moment w a m ≡ v.before
  pub behind : IsBehind w v (moment w (a + 1) m)

crosses : (o : Opening) (begun w : Wire) → Keeps o begun w → (a m : ℕ) (v : Voted) → Contains w.votes v
    → v.member ≡ m → v.call.age ≡ a → Crosses w a m v
crosses o begun w k a m v c e f = record {
  vote = c;
  member = e;
  age = f;
  before = at-age w.votes a m v (w.places m).lists k.sorted c e f;
  behind = subst (λ n. IsBehind w v (moment w (a + 1) n)) e
      (subst (λ n. IsBehind w v (moment w (n + 1) v.member)) f (k.behind v c));
}

-- its log was brought up, in an opening for which all have voted
record IsBrought (w : Wire) (a m : ℕ) (v : Voted) : Type 0 where
  pub crosses : Crosses w a m v
  pub votes : (moment w (a + 1) m).votes ≡ v.before.votes
  pub opened : IsOpened w v.call
  pub brought : MayBeBroughtUp v.start v.before.entries (moment w (a + 1) m).entries

-- at most votes for ages have come to it, or it was brought up
abbrev Rests : Wire → ℕ → ℕ → Type 0
Rests w a m = HasMoreAgeVotes (moment w a m) (moment w (a + 1) m) ⊎ ((v : Voted) × IsBrought w a m v)

-- or the age of its call has begun
record HasRun (w : Wire) (a m : ℕ) (v : Voted) : Type 0 where
  pub crosses : Crosses w a m v
  pub begun : Contains w.ages v.call

abbrev Ran : Wire → ℕ → ℕ → Type 0
Ran w a m = (v : Voted) × HasRun w a m v

moves : (o : Opening) (begun w : Wire) → Keeps o begun w → (a m : ℕ) → Rests w a m ⊎ Ran w a m
moves o begun w k a m = by (find w.votes a m)
  where
    by : ((v : Voted) × Contains w.votes v × (v.member ≡ m) × (v.call.age ≡ a))
        ⊎ ((v : Voted) → Contains w.votes v → v.member ≡ m → v.call.age ≡ a → ⊥) → Rests w a m ⊎ Ran w a m
    by (inl (v, c, e, f)) =
        let t = crosses o begun w k a m v c e f in ⊎_elim (λ d. inr (v, record { crosses = t; begun = d })) (λ s. inl (⊎_elim
        (λ same. inl (subst (λ l. HasMoreAgeVotes l (moment w (a + 1) m)) (sym t.before)
        (record { entries = same; votes = s.0; age_votes = t.behind.keeps })))
        (λ r. inr (v, record { crosses = t; votes = s.0; opened = r.0; brought = r.1 })) s.1)) t.behind.how
    by (inr none) = inl (inl (subst (λ l. HasMoreAgeVotes (moment w a m) l)
        (at-next w.votes a m (w.places m).lists none)
        (record { entries = refl; votes = refl; age_votes = λ x c. c })))

-- so is each of the first members
abbrev Each : ℕ → (ℕ → Type 0) → Type 0
Each n P = (m : ℕ) → m < n → P m

-- or one has such a vote
first-of : (P : ℕ → Type 0) (Q : ℕ → Voted → Type 0) (n : ℕ) → Each n (λ m. P m ⊎ ((v : Voted) × Q m v))
    → Each n P ⊎ ((m : ℕ) × ((v : Voted) × Q m v))
first-of P Q zero each = inl (λ m l. absurd (omega (arith, l)))
first-of P Q (suc n) each = by (first-of P Q n (λ m l. each m (omega (arith, l)))) (each n (omega arith))
  where
    by : Each n P ⊎ ((m : ℕ) × ((v : Voted) × Q m v)) → P n ⊎ ((v : Voted) × Q n v)
        → Each (suc n) P ⊎ ((m : ℕ) × ((v : Voted) × Q m v))
    by (inr found) last = inr found
    by (inl all) (inr q) = inr (n, q)
    by (inl all) (inl p) = inl (λ m l. ⊎_elim (λ e. subst P (sym e) p) (λ d. all m (omega (arith, d, l))) (cases_eq m n))

-- lists of logs with more votes for ages
have-more : (f g : ℕ → LogLists) (n : ℕ) → ((m : ℕ) → m < n → HasMoreAgeVotes (f m) (g m))
    → HaveMoreAgeVotes (lists_below f n) (lists_below g n)
have-more f g n each = record {
  places = length-lists g n ∙ sym (length-lists f n);
  each = λ m new at.
      let t = lists-at g n m new at in
      (f m, at-lists f n m t.0, subst (λ l. HasMoreAgeVotes (f m) l) t.1 (each m t.0));
}

-- ---- an opened call is a try

record IsCall (o : Opening) (begun w : Wire) (a : ℕ) (v : Voted) : Type 0 where
  pub keeps : Keeps o begun w
  pub vote : Contains w.votes v
  pub age : v.call.age ≡ a
  pub opened : IsOpened w v.call

-- each of its members has voted for it
crosses-in : (o : Opening) (begun w : Wire) (a : ℕ) (v : Voted) → IsCall o begun w a v → (m : ℕ)
    → has v.call.set m ≡ true → (u : Voted) × Crosses w a m u × (u.call ≡ v.call)
crosses-in o begun w a v c m inside =
    let t = c.opened m inside in (t.0, crosses o begun w c.keeps a m t.0 t.1 t.2 (ap (λ x. x.age) t.3 ∙ c.age), t.3)

-- its log was as in the call
was-given : (o : Opening) (begun w : Wire) (a : ℕ) (v : Voted) → IsCall o begun w a v → (m : ℕ)
    → has v.call.set m ≡ true → of_set v.logs v.call.set m ≡ Some (moment w a m)
was-given o begun w a v c m inside =
    let t = crosses-in o begun w a v c m inside in
    let l = log-there o w v (c.keeps.cast v c.vote) m inside in
    l.1.there ∙ ap Some (sym (t.1.before ∙ c.keeps.one _ _ (c.keeps.cast t.0 t.1.vote).own l.1.given t.1.member
    (ap (λ x. slice_index x.lengths t.0.member) t.2 ∙ ap (slice_index v.call.lengths) t.1.member)))

-- what it makes of the logs: of its members what is behind their votes
after : Wire → ℕ → Voted → ℕ → LogLists
after w a v m = if has v.call.set m then moment w (a + 1) m else moment w a m

abbrev try_at : Voted → Attempt
try_at v = record { set = v.start.present; start = v.start; opened = true }

after-in : (w : Wire) (a : ℕ) (v : Voted) (m : ℕ) → has v.call.set m ≡ true → after w a v m ≡ moment w (a + 1) m
unfolding after
after-in w a v m e = ap (λ b. if b then moment w (a + 1) m else moment w a m) e

after-out : (w : Wire) (a : ℕ) (v : Voted) (m : ℕ) → has v.call.set m ≡ false → after w a v m ≡ moment w a m
unfolding after
after-out w a v m e = ap (λ b. if b then moment w (a + 1) m else moment w a m) e

-- of the logs as they were before its age its start is chosen
choice-at : (o : Opening) (begun w : Wire) (a : ℕ) (v : Voted) → IsCall o begun w a v
    → IsChosenStart o (of_set (lists_below (moment w a) (length o.messages)) v.start.present) v.start
choice-at o begun w a v c =
    subst (λ h. IsChosenStart o h v.start) (fun_ext λ m. chosen m (has v.call.set m) refl) cast.chosen
  where
    n : ℕ
    n = length o.messages

    cast : WasCast o w v
    cast = c.keeps.cast v c.vote

    chosen : (m : ℕ) (b : Bool) → has v.call.set m ≡ b
        → of_set v.logs v.call.set m ≡ of_set (lists_below (moment w a) n) v.start.present m
    chosen m true e = was-given o begun w a v c m e
        ∙ sym (log-of_set (lists_below (moment w a) n) v.start.present m (moment w a m)
        (subst (λ set. has set m ≡ true) (sym cast.present) e)
        (at-lists (moment w a) n m (ltb-true m n (sym (has_ones n m) ∙ (c.keeps.holds.right v c.vote).part m e))))
    chosen m false e = ap (λ b. if b then slice_get v.logs m else None) e
        ∙ sym (ap (λ b. if b then slice_get (lists_below (moment w a) n) m else None)
        (subst (λ set. has set m ≡ false) (sym cast.present) e))

-- how the log of one of its members comes through
record Comes (w : Wire) (a m : ℕ) (v : Voted) : Type 0 where
  pub votes : (moment w (a + 1) m).votes ≡ (moment w a m).votes
  pub keeps : (x : AgeVote) → Contains (moment w a m).age_votes x → Contains (moment w (a + 1) m).age_votes x
  pub brought : MayBeBroughtUp v.start (moment w a m).entries (moment w (a + 1) m).entries

comes : (o : Opening) (begun w : Wire) (a : ℕ) (v : Voted) → IsCall o begun w a v → (m : ℕ)
    → has v.call.set m ≡ true → Rests w a m → Comes w a m v
comes o begun w a v c m inside (inl more) =
    record { votes = more.votes; keeps = more.age_votes; brought = inl more.entries }
comes o begun w a v c m inside (inr (u, b)) = record {
  votes = b.votes ∙ ap (λ l. l.votes) (sym b.crosses.before);
  keeps = λ x d. b.crosses.behind.keeps x (subst (λ l. Contains l.age_votes x) b.crosses.before d);
  brought = subst (λ s. MayBeBroughtUp s (moment w a m).entries (moment w (a + 1) m).entries) start
      (subst (λ l. MayBeBroughtUp u.start l.entries (moment w (a + 1) m).entries) (sym b.crosses.before) b.brought);
}
  where
    own : (x : Voted) × Crosses w a m x × (x.call ≡ v.call)
    own = crosses-in o begun w a v c m inside

    one : u ≡ own.0
    one = same-vote o w c.keeps.holds u own.0 b.crosses.vote own.1.vote (b.crosses.member ∙ sym own.1.member)
        (b.crosses.age ∙ sym own.1.age)

    start : u.start ≡ v.start
    start = same-start o begun w c.keeps u v b.crosses.vote c.vote (ap (λ x. x.call) one ∙ own.2)

is-try : (o : Opening) (begun w : Wire) (a : ℕ) (v : Voted) → IsCall o begun w a v
    → ((m : ℕ) → m < length o.messages → Rests w a m)
    → IsTry o (lists_below (moment w a) (length o.messages)) (lists_below (after w a v) (length o.messages)) (try_at v)
is-try o begun w a v c rests = record {
  choice = choice-at o begun w a v c;
  set = refl;
  places = length-lists (after w a v) n ∙ sym (length-lists (moment w a) n);
  others = λ m out. same-at (after w a v) (moment w a) n m
      (after-out w a v m (subst (λ set. has set m ≡ false) cast.present out));
  votes = λ m old new was is.
      let p = lists-at (moment w a) n m old was in
      let q = lists-at (after w a v) n m new is in votes m old new p.0 p.1 q.1 (has v.call.set m) refl;
  opened = λ _ m log is.
      let inside = subst (λ set. has set m ≡ true) cast.present is.0 in
      let q = lists-at (after w a v) n m log is.1 in
      let t = crosses-in o begun w a v c m inside in
      subst (λ l. Contains l.age_votes (age_vote_of v.start)) (sym (after-in w a v m inside) ∙ q.1)
      (subst (λ s. Contains (moment w (a + 1) m).age_votes (age_vote_of s))
      (same-start o begun w c.keeps t.0 v t.1.vote c.vote t.2) t.1.behind.voted);
  unopened = λ e. absurd (cc);
  waits = λ e. absurd (cc);
  brought = λ _ m old new is now.
      let inside = subst (λ set. has set m ≡ true) cast.present is.0 in
      let p = lists-at (moment w a) n m old is.1 in
      let q = lists-at (after w a v) n m new now in
      subst (λ l. MayBeBroughtUp v.start l.entries new.entries) p.1
      (subst (λ l. MayBeBroughtUp v.start (moment w a m).entries l.entries) (sym (after-in w a v m inside) ∙ q.1)
      (comes o begun w a v c m inside (rests m p.0)).brought);
}
  where
    n : ℕ
    n = length o.messages

    cast : WasCast o w v
    cast = c.keeps.cast v c.vote

    votes : (m : ℕ) (old new : LogLists) → m < n → moment w a m ≡ old → after w a v m ≡ new → (b : Bool)
        → has v.call.set m ≡ b
        → (new.votes ≡ old.votes) × ((x : AgeVote) → Contains old.age_votes x → Contains new.age_votes x)
    votes m old new l p q true e =
        let t = comes o begun w a v c m e (rests m l) in
        let g = sym q ∙ after-in w a v m e in (
          ap (λ l. l.votes) g ∙ t.votes ∙ ap (λ l. l.votes) p,
          λ x d. subst (λ l. Contains l.age_votes x) (sym g) (t.keeps x
              (subst (λ l. Contains l.age_votes x) (sym p) d)),
        )
    votes m old new l p q false e =
        let g = sym q ∙ after-out w a v m e ∙ p in
        (ap (λ l. l.votes) g, λ x d. subst (λ l. Contains l.age_votes x) (sym g) d)

-- whoever isn't in it has at most more votes for ages
outside : (o : Opening) (begun w : Wire) (a : ℕ) (v : Voted) → IsCall o begun w a v → (m : ℕ)
    → has v.call.set m ≡ false → Rests w a m ⊎ Ran w a m → HasMoreAgeVotes (moment w a m) (moment w (a + 1) m)
outside o begun w a v c m out = by
  where
    -- else it would have voted for an opened call of the same age
    no : (u : Voted) → Crosses w a m u → IsOpened w u.call → ⊥
    no u t p = both (ordered o w c.keeps.holds u v t.vote c.vote p c.opened)
      where
        both : (u.call ≡ v.call) ⊎ (u.call.age < v.call.age) ⊎ (v.call.age < u.call.age) → ⊥
        both (inl f) = clash (sym (subst (λ x. has x.set m ≡ true) f
            (subst (λ k. has u.call.set k ≡ true) t.member (c.keeps.cast u t.vote).inside)) ∙ out)
          where
            clash : true ≡ false → ⊥
            clash x = cc
        both (inr (inl l)) = omega (arith, l, t.age, c.age)
        both (inr (inr l)) = omega (arith, l, t.age, c.age)

    by : Rests w a m ⊎ Ran w a m → HasMoreAgeVotes (moment w a m) (moment w (a + 1) m)
    by (inl (inl more)) = more
    by (inl (inr (u, b))) = absurd (no u b.crosses b.opened)
    by (inr (u, r)) = absurd (no u r.crosses (c.keeps.opens u.call r.begun))

rest-more : (o : Opening) (begun w : Wire) (a : ℕ) (v : Voted) → IsCall o begun w a v → (m : ℕ)
    → Rests w a m ⊎ Ran w a m → HasMoreAgeVotes (after w a v m) (moment w (a + 1) m)
rest-more o begun w a v c m each = by (has v.call.set m) refl
  where
    by : (b : Bool) → has v.call.set m ≡ b → HasMoreAgeVotes (after w a v m) (moment w (a + 1) m)
    by true e = subst (λ l. HasMoreAgeVotes l (moment w (a + 1) m)) (sym (after-in w a v m e))
        (record { entries = refl; votes = refl; age_votes = λ x d. d })
    by false e = subst (λ l. HasMoreAgeVotes l (moment w (a + 1) m)) (sym (after-out w a v m e))
        (outside o begun w a v c m e each)

-- ---- an age that has begun

-- its start makes a group, most of the roster is there
group-at : (script : Script) (begun w : Wire) (a : ℕ) (v : Voted) → HasGroupRanges script
    → IsCall (first_group_of script).opening begun w a v → IsGroup (group_of script v.start)
group-at script begun w a v ranges c = choice-group script
    (of_set (lists_below (moment w a) (length script.messages)) v.start.present) v.start ranges
    (choice-at (first_group_of script).opening begun w a v c)

majority-at : (script : Script) (begun w : Wire) (a : ℕ) (v : Voted)
    → IsCall (first_group_of script).opening begun w a v
    → IsMajorityOf v.start.present (whole_roster (group_of script v.start).opening)
majority-at script begun w a v c = subst (λ set. IsMajorityOf set (whole_roster (group_of script v.start).opening))
    (sym (c.keeps.cast v c.vote).present) (c.keeps.holds.right v c.vote).majority

-- it leaves these logs
left-by : (script : Script) (es : List Entry) (begun w : Wire) (a : ℕ) (v : Voted) (world : World)
    → IsCall (first_group_of script).opening begun w a v → HasCome script w v world
    → AreLasting script es (lists_below (moment w a) (length script.messages)) → ((m : ℕ) → Rests w a m ⊎ Ran w a m)
    → AreLeft (group_of script v.start) world (lists_below (moment w (a + 1)) (length script.messages))
left-by script es begun w a v world c come lasts each = record {
  all = length-lists (moment w (a + 1)) (length script.messages);
  members = λ m log there at.
      let t = lists-at (moment w (a + 1)) (length script.messages) m log at in
      subst (λ l. IsLeftByMember (group_of script v.start) world m l) t.1
      (subst (λ i. IsLeftByMember (group_of script v.start) world m (moment w (i + 1) m)) c.age
      (come.left m (subst (λ set. has set m ≡ true) present there)));
  others = λ m log absent at.
      let t = lists-at (moment w (a + 1)) (length script.messages) m log at in
      subst (λ l. IsLeftByOther (group_of script v.start) l) t.1 (other m t.0 absent);
}
  where
    o : Opening
    o = (first_group_of script).opening

    present : v.start.present ≡ v.call.set
    present = (c.keeps.cast v c.vote).present

    more-left : (old new : LogLists) → HasMoreAgeVotes old new → IsLeftByOther (group_of script v.start) old
        → IsLeftByOther (group_of script v.start) new
    more-left old new more is = record {
      stands = subst (λ es. AllStand (group_of script v.start).opening es) (sym more.entries) is.stands;
      earlier = record {
        views = λ i n k d. is.earlier.views i n k (subst (λ es. Contains es (View i n k)) more.entries d);
        votes = λ x d. is.earlier.votes x (subst (λ vs. Contains vs x) more.votes d);
      };
    }

    other : (m : ℕ) → m < length script.messages → ¬ IsPresent (group_of script v.start) m
        → IsLeftByOther (group_of script v.start) (moment w (a + 1) m)
    other m l absent = more-left (moment w a m) (moment w (a + 1) m)
        (outside (first_group_of script).opening begun w a v c m (out (has v.call.set m) refl) (each m))
        (last-others script es (lists_below (moment w a) (length script.messages)) v.start.present v.start m
        (moment w a m) lasts (choice-at (first_group_of script).opening begun w a v c)
        (at-lists (moment w a) (length script.messages) m l))
      where
        out : (b : Bool) → has v.call.set m ≡ b → has v.call.set m ≡ false
        out true e = absurd (absent (subst (λ set. has set m ≡ true) (sym present) e))
        out false e = e

-- so what somebody in it knew to be durable lasts
durable-lasts : (script : Script) (es more : List Entry) (begun w : Wire) (a : ℕ) (v : Voted) (world : World)
    → HasGroupRanges script → IsCall (first_group_of script).opening begun w a v → HasCome script w v world
    → AreLasting script es (lists_below (moment w a) (length script.messages))
    → ((m : ℕ) → Rests w a m ⊎ Ran w a m) → AreDurableIn (group_of script v.start) world more
    → AreLasting script more (lists_below (moment w (a + 1)) (length script.messages))
durable-lasts script es more begun w a v world ranges c come lasts each durable = inl (
  v.start,
  world,
  since-age script v.start world _ (group-at script begun w a v ranges c) come.reached
      (majority-at script begun w a v c) (left-by script es begun w a v world c come lasts each),
  durable,
)

-- ---- what lasts

-- so what lasts before an age lasts behind it
next-age : (script : Script) (es : List Entry) (begun w : Wire) → HasGroupRanges script → HaveCome script w
    → Keeps (first_group_of script).opening begun w → (a : ℕ)
    → AreLasting script es (lists_below (moment w a) (length script.messages))
    → AreLasting script es (lists_below (moment w (a + 1)) (length script.messages))
next-age script es begun w ranges have k a lasts = by
    (first-of (Rests w a) (HasRun w a) (length script.messages) (λ m l. each m))
  where
    each : (m : ℕ) → Rests w a m ⊎ Ran w a m
    each m = moves (first_group_of script).opening begun w k a m

    After : Type 0
    After = AreLasting script es (lists_below (moment w (a + 1)) (length script.messages))

    call : (m : ℕ) (v : Voted) → Crosses w a m v → IsOpened w v.call
        → IsCall (first_group_of script).opening begun w a v
    call m v t p = record { keeps = k; vote = t.vote; age = t.age; opened = p }

    quiet : Each (length script.messages) (Rests w a)
        → Each (length script.messages) (λ m. HasMoreAgeVotes (moment w a m) (moment w (a + 1) m))
        ⊎ ((m : ℕ) × ((v : Voted) × IsBrought w a m v))
        → AreLasting script es (lists_below (moment w (a + 1)) (length script.messages))
    quiet all (inl more) = lasting-more script es _ _
        (have-more (moment w a) (moment w (a + 1)) (length script.messages) more) lasts
    quiet all (inr (m, (v, b))) = lasting-more script es _ _ (have-more (after w a v) (moment w (a + 1))
        (length script.messages) (λ i _. rest-more (first_group_of script).opening begun w a v
        (call m v b.crosses b.opened) i (each i)))
        (last-tried script es _ _ (try_at v) lasts (is-try (first_group_of script).opening begun w a v
        (call m v b.crosses b.opened) all))

    by : Each (length script.messages) (Rests w a) ⊎ ((m : ℕ) × Ran w a m)
        → AreLasting script es (lists_below (moment w (a + 1)) (length script.messages))
    by (inl all) = quiet all (first-of (λ m. HasMoreAgeVotes (moment w a m) (moment w (a + 1) m))
        (IsBrought w a) (length script.messages) all)
    by (inr (m, (v, r))) =
        let come = have v r.crosses.vote r.begun in
        let c = call m v r.crosses (k.opens v.call r.begun) in
        durable-lasts script es es begun w a v come.0 ranges c come.1 lasts each
        (start-durable (group_of script v.start) come.0 es (group-at script begun w a v ranges c) come.1.reached
        (majority-at script begun w a v c)
        (last-kept script es _ v.start.present v.start lasts
        (choice-at (first_group_of script).opening begun w a v c)))

-- an age above those of all votes
top : List Voted → ℕ
top [] = zero
top (v ∷ vs) = suc (v.call.age + top vs)

above-all : (vs : List Voted) (v : Voted) → Contains vs v → v.call.age < top vs
unfolding top
above-all [] v c = absurd (omega (arith, c.1))
above-all (u ∷ vs) v c = by (in-cases u v vs c) (above-all vs v)
  where
    by : (u ≡ v) ⊎ Contains vs v → (Contains vs v → v.call.age < top vs) → v.call.age < suc (u.call.age + top vs)
    by (inl e) rest = subst (λ x. x.call.age < suc (u.call.age + top vs)) e (omega arith)
    by (inr d) rest = omega (arith, rest d)

-- from one age on to each later one
from-age : (script : Script) (es : List Entry) (begun w : Wire) → HasGroupRanges script → HaveCome script w
    → Keeps (first_group_of script).opening begun w → (a b : ℕ)
    → AreLasting script es (lists_below (moment w a) (length script.messages))
    → AreLasting script es (lists_below (moment w (a + b)) (length script.messages))
from-age script es begun w ranges have k a zero lasts =
    subst (λ i. AreLasting script es (lists_below (moment w i) (length script.messages))) (omega arith) lasts
from-age script es begun w ranges have k a (suc b) lasts =
    subst (λ i. AreLasting script es (lists_below (moment w i) (length script.messages))) (omega arith)
    (next-age script es begun w ranges have k (a + b) (from-age script es begun w ranges have k a b lasts))

each-age : (script : Script) (es : List Entry) (begun w : Wire) → HasGroupRanges script → HaveCome script w
    → Keeps (first_group_of script).opening begun w
    → AreLasting script es (logs_in (first_group_of script).opening begun) → (a : ℕ)
    → AreLasting script es (lists_below (moment w a) (length script.messages))
each-age script es begun w ranges have k lasts a =
    subst (λ i. AreLasting script es (lists_below (moment w i) (length script.messages))) (omega arith)
    (from-age script es begun w ranges have k zero a
    (subst (λ l. AreLasting script es l) (sym (same-lists (moment w zero) (λ m. (begun.places m).lists)
    (length script.messages) (λ m l. k.first m))) lasts))

-- all that holds of a wire that was new once
pub kept-of : (o : Opening) (begun w : Wire) → IsRunSince o begun w → Keeps o begun w
kept-of o begun w run = keeps o begun run.0 run.1.0 w run.1.1

pub lasts : (script : Script) (es : List Entry) (begun w : Wire) → HasGroupRanges script
    → IsRunSince (first_group_of script).opening begun w → HaveCome script w
    → AreLasting script es (logs_in (first_group_of script).opening begun)
    → AreLasting script es (logs_in (first_group_of script).opening w)
lasts script es begun w ranges run have first = subst (λ l. AreLasting script es l)
    (same-lists (moment w (top w.votes)) (λ m. (w.places m).lists) (length script.messages)
    (λ m l. at-none w.votes (top w.votes) m (w.places m).lists (λ v c e. above-all w.votes v c)))
    (each-age script es begun w ranges have (kept-of (first_group_of script).opening begun w run) first (top w.votes))

pub begins : (script : Script) (es : List Entry) (begun w : Wire) (v : Voted) → HasGroupRanges script
    → IsRunSince (first_group_of script).opening begun w → HaveCome script w
    → AreLasting script es (logs_in (first_group_of script).opening begun)
    → Contains w.votes v → IsOpened w v.call → IsPrefixOf es v.start.entries
begins script es begun w v ranges run have first c p =
    let k = kept-of (first_group_of script).opening begun w run in
    last-kept script es _ v.start.present v.start (each-age script es begun w ranges have k first v.call.age)
    (choice-at (first_group_of script).opening begun w v.call.age v
    (record { keeps = k; vote = c; age = refl; opened = p }))

-- what was durable in an age begins each later one
pub durable : (script : Script) (es more : List Entry) (begun w : Wire) (v u : Voted) (world : World)
    → HasGroupRanges script → IsRunSince (first_group_of script).opening begun w → HaveCome script w
    → AreLasting script es (logs_in (first_group_of script).opening begun)
    → Contains w.votes v → Contains w.ages v.call → HasCome script w v world
    → AreDurableIn (group_of script v.start) world more
    → Contains w.votes u → IsOpened w u.call → v.call.age < u.call.age → IsPrefixOf more u.start.entries
durable script es more begun w v u world ranges run have first c d come is e p l =
    last-kept script more _ u.start.present u.start later
    (choice-at (first_group_of script).opening begun w u.call.age u
    (record { keeps = k; vote = e; age = refl; opened = p }))
  where
    k : Keeps (first_group_of script).opening begun w
    k = kept-of (first_group_of script).opening begun w run

    behind : AreLasting script more (lists_below (moment w (v.call.age + 1)) (length script.messages))
    behind = durable-lasts script es more begun w v.call.age v world ranges
        (record { keeps = k; vote = c; age = refl; opened = k.opens v.call d }) come
        (each-age script es begun w ranges have k first v.call.age)
        (λ m. moves (first_group_of script).opening begun w k v.call.age m) is

    later : AreLasting script more (lists_below (moment w u.call.age) (length script.messages))
    later = subst (λ i. AreLasting script more (lists_below (moment w i) (length script.messages))) (omega (arith, l))
        (from-age script more begun w ranges have k (v.call.age + 1) (u.call.age - (v.call.age + 1)) behind)
