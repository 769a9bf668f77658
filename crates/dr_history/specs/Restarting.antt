-- How one age follows another: what its logs leave, and what the next age may start with.
use Rattle.std.specs.Prelude.{◌≡◌, ℕ, ◌+◌, ◌<◌, ◌≤◌, ◌⊎◌, List, [], ◌∷◌, ◌++◌, length, take, slice_get, Option, None, Some}
use Rattle.dr_entry.specs.declared.entry.Entry.{Entry}
use Rattle.dr_history.specs.{Agreement.{Account, Accounts}, History.{IsPrefixOf, GroupView}}
use Rattle.dr_history.specs.{Soundness.{IsPresentIn, MayStand}, declared.opening.Opening.Opening}

-- each entry may stand behind those before it
abbrev pub AllStand : Opening → List Entry → Type 0
AllStand o es = (i : ℕ) (e : Entry) → slice_get es i ≡ Some e → MayStand o (take i es) e

-- so may each of the first n
abbrev pub AllStandBelow : Opening → List Entry → ℕ → Type 0
AllStandBelow o es n = (i : ℕ) (e : Entry) → i < n → slice_get es i ≡ Some e → MayStand o (take i es) e

-- one of two histories is a prefix of the other
abbrev pub AreAlong : List Entry → List Entry → Type 0
AreAlong g h = IsPrefixOf g h ⊎ IsPrefixOf h g

-- the first place at which an entry may not stand
pub record IsForeignAt (o : Opening) (es : List Entry) (place : ℕ) : Type 0 where
  pub before : AllStandBelow o es place
  pub entry : Entry
  pub here : slice_get es place ≡ Some entry
  pub foreign : MayStand o (take place es) entry → ⊥

-- the first place at which two histories both have an entry and differ
pub record DifferAt (g h : List Entry) (place : ℕ) : Type 0 where
  pub same : take place g ≡ take place h
  pub one : Entry
  pub other : Entry
  pub in_one : slice_get g place ≡ Some one
  pub in_other : slice_get h place ≡ Some other
  pub apart : one ≡ other → ⊥

-- one of the lists, and none is longer
pub record IsLongest (lists : List (List Entry)) (es : List Entry) : Type 0 where
  pub place : ℕ
  pub one : slice_get lists place ≡ Some es
  pub longest : (i : ℕ) (l : List Entry) → slice_get lists i ≡ Some l → length l ≤ length es

-- the lists are those of logs that may be: all their entries may stand
abbrev pub AreSound : Opening → List (List Entry) → Type 0
AreSound o lists = (m : ℕ) (es : List Entry) → slice_get lists m ≡ Some es → AllStand o es

-- of any two of them one is a prefix of the other
abbrev pub AreAllAlong : List (List Entry) → Type 0
AreAllAlong lists = (a b : ℕ) (g h : List Entry) → a < b → slice_get lists a ≡ Some g
    → slice_get lists b ≡ Some h → AreAlong g h

-- the pair of numbers a and b, with a below b, comes before another: by the greater number, then by the less
abbrev pub IsEarlierPair : ℕ → ℕ → ℕ → ℕ → Type 0
IsEarlierPair i j a b = (i < j) × ((j < b) ⊎ ((j ≡ b) × (i < a)))

-- the number of the age after one whose last view this is
abbrev pub next_age : Option GroupView → ℕ
next_age None = 0
next_age (Some v) = v.age + 1

-- A log that a member with this account may leave: the entries that it tells, or, where its last append
-- failed, maybe the next one of its history behind them, or all of it.
abbrev pub IsLeftBy : Account → List Entry → Type 0
IsLeftBy a log =
    (log ≡ a.log) ⊎ ((e : Entry) × (log ≡ a.log ++ e ∷ []) × IsPrefixOf log a.history) ⊎ (log ≡ a.history)

-- the logs that the members of an age may leave, by number
pub record AreLeftBy (o : Opening) (accounts : Accounts) (lists : List (List Entry)) : Type 0 where
  pub each : (i : ℕ) (l : List Entry) → slice_get lists i ≡ Some l
      → IsPresentIn o i × IsLeftBy (accounts i) l
  pub all : (i : ℕ) → IsPresentIn o i → (l : List Entry) × (slice_get lists i ≡ Some l)

-- An age keeps what another has delivered durably: it is a later one, what it starts with was delivered,
-- and it starts with all that some member knew to be durable.
pub record Kept (o : Opening) (accounts : Accounts) (next : Opening) : Type 0 where
  pub later : o.age < next.age
  pub delivered : (i : ℕ) × IsPresentIn o i × IsPrefixOf next.start (accounts i).history
  pub durable : (i : ℕ) → IsPresentIn o i
      → IsPrefixOf (take (accounts i).durable (accounts i).history) next.start
