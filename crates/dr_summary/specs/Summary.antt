-- The summary of an age, and what it rests on.
use Rattle.std.specs.Prelude.{◌≡◌, ◌⊎◌, ℕ, List, [], ◌++◌, slice_get, Some}
use Rattle.dr_entry.specs.declared.end.{AgeEnd.AgeEnd, MemberEnd.MemberEnd}
use Rattle.dr_history.specs.{Agreement.EndsAgreed, Soundness.IsPresentIn, declared.opening.Opening.Opening}
use Rattle.dr_script.specs.declared.script.Script.{Script}
use Rattle.dr_summary.specs.{Histories.longest, Notes.{ends_text, faults_text, undelivered, undelivered_text}}
use Rattle.dr_summary.specs.Table.{table_text}

-- these are the ends of members that agree: each took part in an age with this opening, or has no history
pub record HaveAgreed (o : Opening) (members : List MemberEnd) : Type 0 where
  pub present : (i : ℕ) (e : MemberEnd) → slice_get members i ≡ Some e → IsPresentIn o i ⊎ (e.history ≡ [])
  pub agreed : EndsAgreed o members

-- the lines below its table
unfoldable pub notes_text : Script → ℕ → AgeEnd → List ℕ
notes_text script nth a =
    undelivered_text (undelivered script (longest a.members))
    ++ (faults_text script.faults nth a.members ++ ends_text script.turns a.members)

-- the summary of age number nth of a run of the script, from 0
abbrev pub age_text : Script → ℕ → AgeEnd → List ℕ
age_text script nth a = table_text a ++ notes_text script nth a
