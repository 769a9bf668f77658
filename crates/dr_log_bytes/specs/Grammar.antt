-- The bytes of a log, and what they stand for.
use Rattle.std.specs.List.{AllByRecursion}
use Rattle.std.specs.Prelude.{◌≡◌, ◌≢◌, ℕ, ◌+◌, ◌<◌, ◌≤◌, Bool, true, if◌then◌else◌, List, [], ◌∷◌, ◌++◌, length, take, ⊤, ◌⊎◌}
use Rattle.dr_entry.specs.{Spelling.{IsValid, Fits, Spells, spelling}, declared.record.Record.Record}
use Rattle.dr_log_bytes.specs.Content.{ArePlaced, IsPlaced, OnLog, content_after, empty_of}

-- DERLOG01 and DERLOG02
abbrev pub older_magic : List ℕ
older_magic = 68 ∷ 69 ∷ 82 ∷ 76 ∷ 79 ∷ 71 ∷ 48 ∷ 49 ∷ []

abbrev pub newer_magic : List ℕ
newer_magic = 68 ∷ 69 ∷ 82 ∷ 76 ∷ 79 ∷ 71 ∷ 48 ∷ 50 ∷ []

-- by which a log of each format begins
abbrev pub magic_of : Bool → List ℕ
magic_of newer = if newer then newer_magic else older_magic

-- for each record an open gate, and its spelling
abbrev pub blocks : List Record → List ℕ
blocks [] = []
blocks (r ∷ rs) = 1 ∷ (spelling r ++ blocks rs)

-- valid records, each number of which fits its field
abbrev pub AreSpelled : List Record → Type 0
AreSpelled rs = AllByRecursion (λ r. IsValid r × Fits r) rs

-- A log of one of the formats, of these records: the magic, a block for each of them, none of which is misplaced,
-- a closed gate, and whatever stands behind it.
pub record IsLog (bytes : List ℕ) (newer : Bool) (rs : List Record) : Type 0 where
  pub spelled : AreSpelled rs
  pub placed : ArePlaced (empty_of newer) rs
  pub gate : ℕ
  pub closed : gate ≢ 1
  pub rest : List ℕ
  pub parts : bytes ≡ magic_of newer ++ (blocks rs ++ gate ∷ rest)

-- bytes are a log on which this is
pub record IsLogOf (bytes : List ℕ) (c : OnLog) : Type 0 where
  pub newer : Bool
  pub records : List Record
  pub log : IsLog bytes newer records
  pub content : content_after (empty_of newer) records ≡ c

-- What bytes stand for: at most nine for a new log, which is of the newer format, and more for what is on the log
-- that they are.
abbrev pub StandFor : List ℕ → OnLog → Type 0
StandFor bytes c = ((length bytes ≤ 9) × (c ≡ empty_of true)) ⊎ ((9 < length bytes) × IsLogOf bytes c)

-- here stands no gate, or an open one with no record behind it that may stand there
abbrev pub IsBroken : OnLog → List ℕ → Type 0
IsBroken c [] = ⊤
IsBroken c (gate ∷ rest) = (gate ≡ 1) × ((r : Record) (n : ℕ) → Spells rest r n → IsPlaced c r → ⊥)

-- the blocks break off at this place, before a closed gate
pub record BreaksAt (bytes : List ℕ) (at : ℕ) : Type 0 where
  pub newer : Bool
  pub records : List Record
  pub spelled : AreSpelled records
  pub placed : ArePlaced (empty_of newer) records
  pub rest : List ℕ
  pub broken : IsBroken (content_after (empty_of newer) records) rest
  pub parts : bytes ≡ magic_of newer ++ (blocks records ++ rest)
  pub place : at ≡ 8 + length (blocks records)

-- bytes don't begin as a log, which is told as the place 0, or their blocks break off
abbrev pub IsNoLog : List ℕ → ℕ → Type 0
IsNoLog bytes at = (((newer : Bool) → take 8 bytes ≢ magic_of newer) × (at ≡ 0)) ⊎ BreaksAt bytes at

-- bytes are damaged at this place; at most nine are never damaged
abbrev pub IsDamaged : List ℕ → ℕ → Type 0
IsDamaged bytes at = (9 < length bytes) × IsNoLog bytes at
