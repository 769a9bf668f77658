-- What files have.
use Rattle.std.specs.Prelude.{◌≡◌, ◌≢◌, ◌⊎◌, ⊤, ℕ, ◌+◌, ◌<◌, ◌≤◌, Bool, true, false, List, length, take, slice_get, Some}
use Rattle.dr_log_bytes.specs.Content.{OnLog, content_after, empty_of}
use Rattle.dr_log_bytes.specs.Grammar.{BreaksAt, IsLogOf, blocks, magic_of}
use Rattle.dr_folder.specs.{Foretold.file_in, declared.{file.LogFile.LogFile, survey.Survey.Survey}}
use Rattle.dr_folder.specs.declared.survey.Survey.TheVariants.{Missing, Unread, Empty, Log}
use Rattle.dr_folder.specs.declared.file.LogFile.TheVariants as files

-- bytes are a log on which this is, whose gate is closed at this place
pub record HasClosedLog (bytes : List ℕ) (c : OnLog) (at : ℕ) : Type 0 where
  pub log : IsLogOf bytes c
  pub place : at ≡ 8 + length (blocks log.records)

-- bytes break off at this place, behind records that make this
pub record HasBrokenLog (bytes : List ℕ) (c : OnLog) (at : ℕ) : Type 0 where
  pub breaks : BreaksAt bytes at
  pub content : content_after (empty_of breaks.newer) breaks.records ≡ c

-- bytes don't begin as a log
pub record HasNoLog (bytes : List ℕ) (c : OnLog) (at : ℕ) : Type 0 where
  pub foreign : (newer : Bool) → take 8 bytes ≢ magic_of newer
  pub none : c ≡ empty_of true
  pub place : at ≡ 0

-- bytes begin as a log on which this is, and then at this place a gate is closed, or they are damaged
abbrev pub HasLog : List ℕ → OnLog → ℕ → Bool → Type 0
HasLog bytes c at true = HasClosedLog bytes c at
HasLog bytes c at false = HasNoLog bytes c at ⊎ HasBrokenLog bytes c at

-- what a file has
abbrev pub IsSurvey : LogFile → Survey → Type 0
IsSurvey files.Missing Missing = ⊤
IsSurvey (files.Unread why) (Unread told) = told ≡ why
IsSurvey (files.Bytes bytes) (Empty len) = (len ≡ length bytes) × (len ≤ 9)
IsSurvey (files.Bytes bytes) (Log len content at closed) =
    (len ≡ length bytes) × (9 < len) × HasLog bytes content at closed
IsSurvey file survey = ⊥

-- what each of these files has, by member
pub record AreSurveys (files : List LogFile) (surveys : List Survey) : Type 0 where
  pub all : length surveys ≡ length files
  pub each : (m : ℕ) (survey : Survey) → slice_get surveys m ≡ Some survey → IsSurvey (file_in files m) survey
