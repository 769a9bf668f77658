-- Logs that are handed in: two majorities share one, and what stands on that of a member that was there.
use Rattle.std.proofs.Common.{◌≡◌, refl, ap, sym, ◌∙◌, ℕ, Bool, true, false, List, None, Some, slice_get, if◌then◌else◌, Option, is_some, ◌&&◌, nat_lt, inl, inr, subst, ◌≤◌, arith, [], ◌∷◌, length, length-append, append-nil, ◌⊎◌, Contains, ◌==◌}
use Rattle.std.proofs.lemmas.{List.Elements.{Contains-push_cases, Contains-append_left}, Option.none-some}
use Rattle.dr_entry.specs.declared.entry.Entry.{Entry}
use Rattle.dr_entry.{specs.declared.record.Vote.Vote, proofs.ListPlaces.{read-in, Contains-slice_get, slice_get-some}}
use Rattle.dr_entry.proofs.{ListParts.{in-filter, filter-in}, NumberFacts.{both_true, same_age}}
use Rattle.dr_history.specs.{History.IsPrefixOf, Members.has}
use Rattle.dr_words.{specs.Masks.{IsPartOf, IsMajorityOf}, proofs.{Majorities.majorities_meet_lem, Masks.has_mask_of}}
use Rattle.dr_machine.specs.{Group.{Group, IsGroup, IsPresent}, Votes.HasLogged, World.World}
use Rattle.dr_machine.proofs.Presence.{in_roster}
use Rattle.dr_restart.specs.{Choosing.{of_set, Handed, handed_of, HasQuorum}, declared.lists.LogLists.LogLists}
use Rattle.dr_restart.specs.Left.{AreLeftOf, MayLogVote, IsLeftByMember, votes_of_age, AreLeft}

-- the log of a member of a set
pub set-log : (logs : List LogLists) (set m : ℕ) (log : LogLists) → of_set logs set m ≡ Some log
    → (has set m ≡ true) × (slice_get logs m ≡ Some log)
set-log logs set m log e = by (has set m) refl e
  where
    by : (b : Bool) → has set m ≡ b → (if has set m then slice_get logs m else None) ≡ Some log
        → (has set m ≡ true) × (slice_get logs m ≡ Some log)
    by true f h = (f, ap (λ b. if b then slice_get logs m else None) (sym f) ∙ h)
    by false f h = absurd (none-some log (ap (λ b. if b then slice_get logs m else None) (sym f) ∙ h))

pub log-of_set : (logs : List LogLists) (set m : ℕ) (log : LogLists) → has set m ≡ true
    → slice_get logs m ≡ Some log → of_set logs set m ≡ Some log
log-of_set logs set m log e h = ap (λ b. if b then slice_get logs m else None) e ∙ h

there : (o : Option LogLists) → is_some o ≡ true → (log : LogLists) × (o ≡ Some log)
there None e = absurd (cc)
there (Some log) e = (log, refl)

-- a member of which a log was handed in
pub handed-has : (h : Handed) (members m : ℕ) → has (handed_of h members) m ≡ true
    → (has members m ≡ true) × (log : LogLists) × (h m ≡ Some log)
handed-has h members m e =
    let t = both_true (nat_lt m 16) (has members m) (is_some (h m))
    (sym (has_mask_of (λ i. has members i && is_some (h i)) m) ∙ e) in
    let l = there (h m) t.1 in (t.0, l.0, l.1)

pub handed-part : (h : Handed) (members : ℕ) → IsPartOf (handed_of h members) members
handed-part h members m e = (handed-has h members m e).0

-- where more than half of some members have handed in their logs, one of any other half has
pub quorum-meets : (h : Handed) (members mask : ℕ) → HasQuorum h members → IsPartOf mask members
    → IsMajorityOf mask members
    → (m : ℕ) × (has members m ≡ true) × (has mask m ≡ true) × (log : LogLists) × (h m ≡ Some log)
quorum-meets h members mask q part most =
    let t = majorities_meet_lem members mask (handed_of h members) part (handed-part h members) most q in
    let l = handed-has h members t.0 t.4 in (t.0, t.2, t.3, l.1, l.2)

-- and one has
pub quorum-some : (h : Handed) (members : ℕ) → HasQuorum h members
    → (m : ℕ) × (has members m ≡ true) × (log : LogLists) × (h m ≡ Some log)
quorum-some h members q =
    let t = quorum-meets h members (handed_of h members) q (handed-part h members) q in (t.0, t.1, t.3, t.4)

-- it has all entries that stood there, and is a front of the history
pub left-entries : (g : Group) (w : World) (m : ℕ) (entries : List Entry) (votes : List Vote)
    → IsPrefixOf (w.past.log m) (w.past.history m) → AreLeftOf g w m entries votes
    → (length (w.past.log m) ≤ length entries) × IsPrefixOf entries (w.past.history m)
left-entries g w m entries votes p (inl (e, same)) =
    (omega (arith, ap length e), subst (λ es. IsPrefixOf es (w.past.history m)) (sym e) p)
left-entries g w m entries votes p (inr (inl (x, e, q, same))) =
    (omega (arith, ap length e, length-append (w.past.log m) (x ∷ [])), q)
left-entries g w m entries votes p (inr (inr (inl (e, same)))) = (
  omega (arith, ap length e, ap length p.1, length-append (w.past.log m) p.0),
  ([], append-nil entries ∙ e),
)
left-entries g w m entries votes p (inr (inr (inr (x, e, more, may)))) =
    (omega (arith, ap length e), subst (λ es. IsPrefixOf es (w.past.history m)) (sym e) p)

-- a vote of the age on it is one that it had logged, or may have begun to log
left_case : (g : Group) (w : World) (m : ℕ) (entries : List Entry) (votes : List Vote) (x : Vote)
    → AreLeftOf g w m entries votes → Contains votes x → HasLogged w.past.votes m x ⊎ MayLogVote g w m x
left_case g w m entries votes x (inl (e, same)) c =
    inl (read-in (w.past.votes m) x (subst (λ l. Contains l x) same c))
left_case g w m entries votes x (inr (inl (entry, e, q, same))) c =
    inl (read-in (w.past.votes m) x (subst (λ l. Contains l x) same c))
left_case g w m entries votes x (inr (inr (inl (e, same)))) c =
    inl (read-in (w.past.votes m) x (subst (λ l. Contains l x) same c))
left_case g w m entries votes x (inr (inr (inr (z, e, more, may)))) c =
    by (Contains-push_cases (w.past.votes m) z x (subst (λ l. Contains l x) more c))
  where
    by : Contains (w.past.votes m) x ⊎ (z ≡ x) → HasLogged w.past.votes m x ⊎ MayLogVote g w m x
    by (inl h) = inl (read-in (w.past.votes m) x h)
    by (inr same) = inr (subst (MayLogVote g w m) same may)

pub left-vote : (g : Group) (w : World) (m : ℕ) (was : LogLists) (x : Vote) → IsLeftByMember g w m was
    → Contains was.votes x → x.age ≡ g.opening.age → HasLogged w.past.votes m x ⊎ MayLogVote g w m x
left-vote g w m was x left c e = left_case g w m was.entries (votes_of_age g.opening.age was.votes) x left.left
    (in-filter (λ z. z.age == g.opening.age) was.votes x (same_age x.age g.opening.age e) c)

-- each vote that it had logged is there
logged_case : (g : Group) (w : World) (m : ℕ) (entries : List Entry) (votes : List Vote) (x : Vote)
    → AreLeftOf g w m entries votes → Contains (w.past.votes m) x → Contains votes x
logged_case g w m entries votes x (inl (e, same)) c = subst (λ l. Contains l x) (sym same) c
logged_case g w m entries votes x (inr (inl (entry, e, q, same))) c = subst (λ l. Contains l x) (sym same) c
logged_case g w m entries votes x (inr (inr (inl (e, same)))) c = subst (λ l. Contains l x) (sym same) c
logged_case g w m entries votes x (inr (inr (inr (z, e, more, may)))) c =
    subst (λ l. Contains l x) (sym more) (Contains-append_left (w.past.votes m) (z ∷ []) x c)

pub logged-left : (g : Group) (w : World) (m : ℕ) (was : LogLists) (x : Vote) → IsLeftByMember g w m was
    → HasLogged w.past.votes m x → Contains was.votes x
logged-left g w m was x left h = (filter-in (λ z. z.age == g.opening.age) was.votes x
    (logged_case g w m was.entries (votes_of_age g.opening.age was.votes) x left.left
    (Contains-slice_get (w.past.votes m) h.0 x h.1))).0

-- the log that was left of a member that was there
pub was-left : (g : Group) (w : World) (choice : List LogLists) (m : ℕ) → IsGroup g → AreLeft g w choice
    → IsPresent g m → (was : LogLists) × (slice_get choice m ≡ Some was) × IsLeftByMember g w m was
was-left g w choice m is left present =
    let t = slice_get-some choice m (omega (arith, in_roster g m is present, left.all)) in
    (t.0, t.1, left.members m t.0 present t.1)
