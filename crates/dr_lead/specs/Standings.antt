-- Where a member stands in the change of a view.
use Rattle.std.specs.Prelude.{◌≡◌, ◌≢◌, ℕ, true, false}
use Rattle.dr_history.specs.Members.{has}
use Rattle.dr_words.specs.Masks.{IsInRoster, without}
use Rattle.dr_rows.specs.Words.{Words}
use Rattle.dr_pred.specs.Group.{IsOfShape}
use Rattle.dr_lead.specs.declared.standing.Standing.{Standing}

-- the unsuspected members of the view, the own among them
abbrev pub unsuspected : Standing → ℕ
unsuspected s = without s.members s.suspects

-- the standing of the rows' own member, which is of the view, and wedged: it suspects others
pub record IsStanding (rows : Words) (s : Standing) : Type 0 where
  pub group : IsOfShape s.shape rows
  pub me : s.me ≡ rows.me
  pub roster : IsInRoster rows.members s.members
  pub present : has s.members s.me ≡ true
  pub trusted : has s.suspects s.me ≡ false
  pub wedged : s.suspects ≢ 0
