-- Why the logs that are handed in make no start, each reason where none of those before it holds.
use Rattle.std.specs.Prelude.{◌≡◌, ℕ, ◌+◌, ◌<◌, ◌/◌, List, length, Option, None, Some}
use Rattle.dr_entry.specs.declared.entry.Entry.{Entry}
use Rattle.dr_history.specs.{Members.members_of, Soundness.whole_roster, declared.opening.Opening.Opening}
use Rattle.dr_history.specs.Restarting.{AllStand, AreAlong, DifferAt, IsEarlierPair, IsForeignAt}
use Rattle.dr_restart.specs.Choosing.{AreFirst, AreOnHolder, EndsInAge, Handed, HasAge, HasQuorum, IsLastAge, handed_of, on_path}
use Rattle.dr_restart.specs.declared.lists.LogLists.{LogLists}

pub data Refusal : Type 0 where
  -- on the log of this member the entry at this place may not stand
  Foreign : ℕ → ℕ → Refusal
  -- of the roster, or of the members of the view of this number, so many have handed in their logs, and so
  -- many are needed
  NoQuorum : Option ℕ → ℕ → ℕ → Refusal
  -- the logs of these two members, both of the last age, have an entry at this place, and differ there
  Disagree : ℕ → ℕ → ℕ → Refusal
  -- a log knows the last age
  AgesUsedUp : Refusal

-- all entries of each log may stand
abbrev pub HaveNothingForeign : Opening → Handed → Type 0
HaveNothingForeign o h = (m : ℕ) (log : LogLists) → h m ≡ Some log → AllStand o log.entries

-- the first log with an entry that may not stand, and where
pub record IsFirstForeignOf (o : Opening) (h : Handed) (member place : ℕ) : Type 0 where
  pub before : (m : ℕ) (log : LogLists) → m < member → h m ≡ Some log → AllStand o log.entries
  pub log : LogLists
  pub here : h member ≡ Some log
  pub foreign : IsForeignAt o log.entries place

-- so many of these members have handed in their logs, and so many are needed
pub record LacksQuorum (h : Handed) (members have need : ℕ) : Type 0 where
  pub count : have ≡ length (members_of (handed_of h members))
  pub half : need ≡ length (members_of members) / 2 + 1
  pub fewer : have < need

-- these are the entries of a member whose last View is of that age
abbrev pub IsHeldBy : Handed → ℕ → ℕ → List Entry → Type 0
IsHeldBy h age m es = (log : LogLists) × (h m ≡ Some log) × EndsInAge log age × (es ≡ log.entries)

-- the first two holders that differ, and where
pub record IsFirstSplit (h : Handed) (age a b place : ℕ) : Type 0 where
  pub below : a < b
  pub before : (i j : ℕ) (f g : List Entry) → IsEarlierPair i j a b → IsHeldBy h age i f → IsHeldBy h age j g
      → AreAlong f g
  pub one : List Entry
  pub other : List Entry
  pub in_a : IsHeldBy h age a one
  pub in_b : IsHeldBy h age b other
  pub differ : DifferAt one other place

-- of any two holders one has a prefix of what the other has
abbrev pub AreHoldersAlong : Handed → ℕ → Type 0
AreHoldersAlong h age = (f g : List Entry) → AreOnHolder h age f → AreOnHolder h age g → AreAlong f g

-- the first view on the path from View 0 of whose members too few have handed in their logs
pub record LacksPath (n : ℕ) (h : Handed) (age first view have need : ℕ) : Type 0 where
  pub members : ℕ
  pub here : on_path h n age first view ≡ Some members
  pub before : (v earlier : ℕ) → v < view → on_path h n age first v ≡ Some earlier → HasQuorum h earlier
  pub lacks : LacksQuorum h members have need

-- of each view on the path more than half of the members have handed in their logs
abbrev pub HasPath : ℕ → Handed → ℕ → ℕ → Type 0
HasPath n h age first =
    (v members : ℕ) → on_path h n age first v ≡ Some members → HasQuorum h members

-- nothing is foreign, and the logs are those of more than half of the roster
abbrev pub AreEnough : Opening → Handed → Type 0
AreEnough o h = HaveNothingForeign o h × HasQuorum h (whole_roster o)

-- the logs are refused for this
abbrev pub IsRefusedFor : Opening → Handed → Refusal → Type 0
IsRefusedFor o h (Foreign m place) = IsFirstForeignOf o h m place
IsRefusedFor o h (NoQuorum None have need) =
    HaveNothingForeign o h × LacksQuorum h (whole_roster o) have need
IsRefusedFor o h (Disagree a b place) =
    AreEnough o h × (age : ℕ) × IsLastAge h age × IsFirstSplit h age a b place
IsRefusedFor o h (NoQuorum (Some v) have need) =
    AreEnough o h × (age : ℕ) × IsLastAge h age × AreHoldersAlong h age
    × (first : ℕ) × AreFirst h age first × LacksPath (length o.messages) h age first v have need
IsRefusedFor o h AgesUsedUp =
    AreEnough o h × ((age : ℕ) → IsLastAge h age → AreHoldersAlong h age
    × ((first : ℕ) → AreFirst h age first → HasPath (length o.messages) h age first))
    × (m : ℕ) × (log : LogLists) × (h m ≡ Some log) × HasAge log 65535
