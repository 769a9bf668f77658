-- Which log may be moved away.
use Rattle.std.specs.{List.list_all, Option.option_map_or}
use Rattle.std.specs.Prelude.{◌≡◌, ◌≢◌, ◌⊎◌, ⊤, ℕ, ◌+◌, ◌<◌, ◌≤◌, ◌==◌, ◌||◌, not, nat_lt, Bool, true, false, List, length, slice_get, slice_set, Option, None, Some}
use Rattle.dr_entry.specs.declared.entry.Entry.{Entry, TheVariants.{View, Msg}}
use Rattle.dr_history.specs.{History.{GroupView, view_of}, Members.members_of}
use Rattle.dr_restart.specs.declared.start.Start.{Start}
use Rattle.dr_script.specs.declared.script.Script.{Script}
use Rattle.dr_text.specs.declared.last.Last.{Last}
use Rattle.dr_folder.specs.{Foretold.{IsBarred, IsForetold}, declared.{advice.Advice.Advice, file.LogFile.LogFile}}
use Rattle.dr_folder.specs.declared.{file.LogFile.TheVariants.Missing, survey.Survey.{Survey, TheVariants.Log}}
use Rattle.dr_folder.specs.declared.advice.Advice.TheVariants as advised

-- a file has a log with entries, and nothing stands behind its closed gate
abbrev pub IsIntact : Survey → Type 0
IsIntact (Log len content at true) = (len ≡ at + 1) × (0 < length content.entries)
IsIntact survey = ⊥

-- there are others than this member, and all of them have intact logs
pub record AreIntactBut (surveys : List Survey) (member : ℕ) : Type 0 where
  pub some : 1 < length surveys
  pub others : (m : ℕ) (survey : Survey) → m ≢ member → slice_get surveys m ≡ Some survey → IsIntact survey

-- without the log of this member the others, all of them intact, make a run start so
pub record MakesStartAlone (script : Script) (files : List LogFile) (surveys : List Survey) (member : ℕ)
    (start : Start) : Type 0 where
  pub intact : AreIntactBut surveys member
  pub starts : IsForetold script (slice_set files member Missing) start

-- without the log of this member the others aren't all intact, or a run over them is refused
abbrev pub CanNotGo : Script → List LogFile → List Survey → ℕ → Type 0
CanNotGo script files surveys member =
    (AreIntactBut surveys member → ⊥) ⊎ ((last : Last) × IsBarred script (slice_set files member Missing) last)

-- the entry is no View of this age, or one of several members
abbrev pub is_shared : ℕ → Entry → Bool
is_shared age (View other number members) = not (other == age) || nat_lt 1 (length (members_of members))
is_shared age (Msg sender index bytes) = true

-- each View of the last age among entries is one of several members: the first may have one alone, where the
-- others were late
abbrev pub are_shared : List Entry → Bool
are_shared es = option_map_or (λ (v : GroupView). list_all (is_shared v.age) es) (view_of es) false

-- The log of this member may be moved away: it is the only one without which the others, all of them intact, make
-- a run start, and in the last age of that no view had one member alone. So if one log alone is bad, it is this
-- one, and what was durable stands on another one.
pub record MayGo (script : Script) (files : List LogFile) (surveys : List Survey) (member : ℕ) (start : Start)
    : Type 0 where
  pub makes : MakesStartAlone script files surveys member start
  pub shared : are_shared start.entries ≡ true
  pub only : (m : ℕ) → m < script.members → m ≢ member → CanNotGo script files surveys m

-- what is advised: a log is told that may be moved away
abbrev pub IsAdvice : Script → List LogFile → List Survey → Advice → Type 0
IsAdvice script files surveys (advised.Away member start) = MayGo script files surveys member start
IsAdvice script files surveys advice = ⊤

-- the first member from this one on without whose log the others make a run start, or that there is none
abbrev pub IsNextAway : Script → List LogFile → List Survey → ℕ → Option (ℕ × Start) → Type 0
IsNextAway script files surveys from None =
    (m : ℕ) → from ≤ m → m < script.members → CanNotGo script files surveys m
IsNextAway script files surveys from (Some (member, start)) =
    (from ≤ member) × (member < script.members) × MakesStartAlone script files surveys member start
    × ((m : ℕ) → from ≤ m → m < member → CanNotGo script files surveys m)
