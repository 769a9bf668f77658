-- What the logs that are handed in make the next age start with, though others may be missing.
use Rattle.std.specs.{List.flat_map, Option.option_map_or}
use Rattle.std.specs.Prelude.{◌≡◌, ℕ, zero, suc, ◌+◌, ◌-◌, ◌<◌, ◌≤◌, ◌⊎◌, ◌^◌, ◌==◌, ◌&&◌, nat_lt, not, if◌then◌else◌, List, [], ◌∷◌, filter, length, Contains, Option, None, Some, is_some, option_and_then, option_map, slice_get, Bool}
use Rattle.dr_entry.specs.{declared.entry.Entry.{Entry, TheVariants.View}, declared.record.AgeVote.AgeVote}
use Rattle.dr_entry.specs.declared.record.Vote.{Vote}
use Rattle.dr_history.specs.{History.{GroupView, view_of}, Members.{has, members_of}, Restarting.{AllStand, AreAlong}}
use Rattle.dr_history.specs.{Soundness.whole_roster, declared.opening.Opening.Opening}
use Rattle.dr_words.specs.Masks.{IsMajorityOf, IsPartOf, mask_of, next_members, without}
use Rattle.dr_restart.specs.declared.{lists.LogLists.LogLists, start.Start.Start}

-- the log of each member, by number, where it was handed in
abbrev pub Handed : Type 0
Handed = ℕ → Option LogLists

-- those of the members of a set, of the logs of all members
abbrev pub of_set : List LogLists → ℕ → Handed
of_set logs set m = if has set m then slice_get logs m else None

-- the members of a mask whose logs were handed in
abbrev pub handed_of : Handed → ℕ → ℕ
handed_of h members = mask_of (λ m. has members m && is_some (h m))

-- these are more than half of them
abbrev pub HasQuorum : Handed → ℕ → Type 0
HasQuorum h members = IsMajorityOf (handed_of h members) members

-- ---- the holders

-- the last View of a log is of this age
abbrev pub EndsInAge : LogLists → ℕ → Type 0
EndsInAge log age = (v : GroupView) × (view_of log.entries ≡ Some v) × (v.age ≡ age)

-- the greatest age of a last View
pub record IsLastAge (h : Handed) (age : ℕ) : Type 0 where
  pub some : (m : ℕ) × (log : LogLists) × (h m ≡ Some log) × EndsInAge log age
  pub greatest : (m a : ℕ) (log : LogLists) → h m ≡ Some log → EndsInAge log a → a ≤ age

-- these are the entries of a holder: of a log whose last View is of that age
abbrev pub AreOnHolder : Handed → ℕ → List Entry → Type 0
AreOnHolder h age es =
    (m : ℕ) × (log : LogLists) × (h m ≡ Some log) × EndsInAge log age × (es ≡ log.entries)

-- ---- the path of its views

-- a vote of this view of the age, in a roster of so many, names the next one: it names some members of the roster
-- and nobody else, and somebody is in the next view
abbrev pub names_next : ℕ → ℕ → ℕ → ℕ → Vote → Bool
names_next n age v members x =
    x.age == age && (x.view == v && (x.members == n
    && (not (x.value.leavers == 0) && (without x.value.leavers (2 ^ n - 1) == 0
    && not (next_members members x.value.leavers == 0)))))

-- the votes that name it on the logs of the members of the view, by ascending member and as they stand there
abbrev pub next_votes : Handed → ℕ → ℕ → ℕ → ℕ → List Vote
next_votes h n age v members =
    flat_map (λ m. filter (names_next n age v members) (option_map_or (λ log. log.votes) (h m) []))
    (members_of members)

-- the first one of the highest ballot
unfoldable pub highest : List Vote → Option Vote
highest [] = None
highest (x ∷ xs) = Some (option_map_or (λ y. if nat_lt x.ballot y.ballot then y else x) (highest xs) x)

-- the members of the view that follows a view of these members, where a vote names it
abbrev pub next_on_path : Handed → ℕ → ℕ → ℕ → ℕ → Option ℕ
next_on_path h n age v members =
    option_map (λ x. next_members members x.value.leavers) (highest (next_votes h n age v members))

-- the members of view v of the age, where `first` are those of View 0
unfoldable pub on_path : Handed → ℕ → ℕ → ℕ → ℕ → Option ℕ
on_path h n age first zero = Some first
on_path h n age first (suc v) =
    if nat_lt v 255 then option_and_then (next_on_path h n age v) (on_path h n age first v) else None

-- the members of View 0 of the age, as the holders have it
abbrev pub AreFirst : Handed → ℕ → ℕ → Type 0
AreFirst h age first = (es : List Entry) × AreOnHolder h age es × Contains es (View age 0 first)

-- ---- the choice

-- the entries are the longest ones of a holder: of any two holders one has a prefix of what the other has,
-- and of each view on the path more than half of the members have handed in their logs
pub record AreOfHolders (o : Opening) (h : Handed) (es : List Entry) : Type 0 where
  pub age : ℕ
  pub last : IsLastAge h age
  pub along : (f g : List Entry) → AreOnHolder h age f → AreOnHolder h age g → AreAlong f g
  pub path : (first v members : ℕ) → AreFirst h age first
      → on_path h (length o.messages) age first v ≡ Some members → HasQuorum h members
  pub held : AreOnHolder h age es
  pub longest : (f : List Entry) → AreOnHolder h age f → length f ≤ length es

-- or none, where no log has a View
pub record AreOfNobody (h : Handed) (es : List Entry) : Type 0 where
  pub nobody : (m : ℕ) (log : LogLists) → h m ≡ Some log → view_of log.entries ≡ None
  pub none : es ≡ []

-- a View, a vote or an age vote on the log is of this age
abbrev pub HasAge : LogLists → ℕ → Type 0
HasAge log age =
    ((number : ℕ) × (members : ℕ) × Contains log.entries (View age number members))
    ⊎ ((x : Vote) × Contains log.votes x × (x.age ≡ age))
    ⊎ ((x : AgeVote) × Contains log.age_votes x × (x.age ≡ age))

-- the age after all those on the logs, or 0
pub record IsAgeAfter (h : Handed) (age : ℕ) : Type 0 where
  pub above : (m a : ℕ) (log : LogLists) → h m ≡ Some log → HasAge log a → a < age
  pub next : (age ≡ 0)
      ⊎ ((a : ℕ) × (m : ℕ) × (log : LogLists) × (h m ≡ Some log) × HasAge log a × (age ≡ a + 1))

-- A start that the logs handed in make: each is a log that the script can have brought about, and they are
-- those of more than half of the roster. Who is there are those that handed them in, and the members of the
-- age's first view are some of them.
pub record IsChosenStart (o : Opening) (h : Handed) (start : Start) : Type 0 where
  pub sound : (m : ℕ) (log : LogLists) → h m ≡ Some log → AllStand o log.entries
  pub quorum : HasQuorum h (whole_roster o)
  pub entries : AreOfHolders o h start.entries ⊎ AreOfNobody h start.entries
  pub age : IsAgeAfter h start.age
  pub left : start.age < 2 ^ 16
  pub present : start.present ≡ handed_of h (whole_roster o)
  pub members : IsPartOf start.members start.present
  pub some : 0 < start.members
