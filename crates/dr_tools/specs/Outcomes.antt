-- How a run ends, as a line.
use Rattle.std.specs.List.{concat, enumerate_from, flat_map}
use Rattle.std.specs.Prelude.{◌≡◌, ◌⊎◌, ℕ, ◌==◌, ◌||◌, if◌then◌else◌, Bool, false, List, [], ◌∷◌, ◌++◌, bytes_eq, codes, Option, Some}
use Rattle.dr_ages.specs.{Ages.all_with, declared.{mode.Mode.TheVariants.Sim, stop.Stop.Stop}}
use Rattle.dr_entry.specs.declared.end.{AgeEnd.AgeEnd, MemberEnd.MemberEnd}
use Rattle.dr_json.specs.Json.{comma_before}
use Rattle.dr_outcome.specs.{Last.last_of, Outcome.{AreAllLate, IsMemoryRun}}
use Rattle.dr_script.specs.{Reading.{Reading, Reads, reading_of}, declared.script.Script.Script}
use Rattle.dr_text.specs.{Report.{end_text, last_text}, declared.last.Last.Last}
use Rattle.dr_tools.specs.OutcomeForms.{without_blanks}

-- how the member with this number ended
abbrev pub member_ending : ℕ → MemberEnd → List ℕ
member_ending number m = comma_before number ++ end_text m.end

abbrev pub members_endings : List MemberEnd → List ℕ
members_endings members = flat_map (λ t. member_ending t.0 t.1) (enumerate_from 0 members)

-- the bar before all ages but the first
abbrev pub bar_before : ℕ → List ℕ
bar_before nth = if nth == 0 then [] else codes " | "

-- how the members of the age with this number ended
abbrev pub age_ending : ℕ → AgeEnd → List ℕ
age_ending nth age = bar_before nth ++ members_endings age.members

abbrev pub ages_endings : List AgeEnd → List ℕ
ages_endings ages = flat_map (λ t. age_ending t.0 t.1) (enumerate_from 0 ages)

-- the outcome of a run: how its members ended, age by age, and its last line
abbrev pub outcome_line : List AgeEnd → Last → List ℕ
outcome_line ages last = concat (ages_endings ages ∷ codes ": " ∷ last_text last ∷ [])

-- a simulated run of the script over empty disks in which these members are late, and its last line
pub record Ran (script : Script) (late : ℕ) : Type 0 where
  pub ages : List AgeEnd
  pub stop : Option Stop
  pub run : IsMemoryRun script (all_with late) Sim ages stop
  pub last : Last
  pub line : last_of ages stop ≡ Some last

-- such a run has this outcome
pub record ComesTo (script : Script) (late : ℕ) (line : List ℕ) : Type 0 where
  pub ran : Ran script late
  pub outcome : line ≡ outcome_line ran.ages ran.last

-- whether an outcome is the one that is wanted, or its last line is: blanks don't count
abbrev pub is_wanted : List ℕ → List AgeEnd → Last → Bool
is_wanted wanted ages last =
    bytes_eq wanted (without_blanks (outcome_line ages last)) || bytes_eq wanted (without_blanks (last_text last))

-- whether a run of the script has the outcome that is wanted
pub record EndsSo (script : Script) (late : ℕ) (wanted : List ℕ) (shows : Bool) : Type 0 where
  pub ran : Ran script late
  pub is : shows ≡ is_wanted wanted ran.ages ran.last

-- the same where all members may be late: then there is no run
abbrev pub MayEndSo : Script → ℕ → List ℕ → Bool → Type 0
MayEndSo script late wanted shows =
    EndsSo script late wanted shows ⊎ (AreAllLate script (all_with late) × (shows ≡ false))

-- the same of the script that a text is; one that is no script has no outcome
abbrev pub ReadsSo : Reading → ℕ → List ℕ → Bool → Type 0
ReadsSo (Reads script) late wanted shows = MayEndSo script late wanted shows
ReadsSo refused late wanted shows = shows ≡ false

abbrev pub TextEndsSo : List ℕ → ℕ → List ℕ → Bool → Type 0
TextEndsSo text = ReadsSo (reading_of text)
