-- Whom a member suspects or wishes for, and what the suspected words of others make of that.
use Rattle.std.specs.{List.filter, Option.option_and_then}
use Rattle.std.specs.Prelude.{◌≡◌, ℕ, ◌<◌, ◌==◌, Bool, ◌&&◌, ◌||◌, not, true, false, List, Option, is_some}
use Rattle.dr_entry.specs.declared.limits.TheConstants.{MAX_MEMBERS}
use Rattle.dr_history.specs.Members.{has, members_of}
use Rattle.dr_words.specs.declared.column.TheConstants.{SUSPECTED_COLUMN}
use Rattle.dr_rows.specs.Words.{Words, seen}
use Rattle.dr_suspect.specs.Answers.{least_where}

-- a member, and as masks the members of its view and those that it suspects or wishes for
pub record Suspicion : Type 0 where
  pub me : ℕ
  pub members : ℕ
  pub suspects : ℕ

-- the form that it always has: the member suspects others alone
pub record IsSuspicion (s : Suspicion) : Type 0 where
  pub number : s.me < MAX_MEMBERS
  pub trusted : has s.suspects s.me ≡ false

-- at the beginning nobody is suspected
abbrev pub trusting : ℕ → ℕ → Suspicion
trusting me members = record { me = me; members = members; suspects = 0 }

-- whether the member is an unsuspected member of the view
abbrev pub is_unsuspected : Suspicion → ℕ → Bool
is_unsuspected s i = has s.members i && not (has s.suspects i)

-- the unsuspected members of the view, ascending
abbrev pub unsuspected_of : Suspicion → List ℕ
unsuspected_of s = filter (λ i. not (has s.suspects i)) (members_of s.members)

-- whether the suspected word of the row names the member
abbrev pub names : Words → ℕ → ℕ → Bool
names rows row member = has (seen rows row SUSPECTED_COLUMN) member

-- whether the row is that of an unsuspected member of the view, and names the own member
abbrev pub names_me : Suspicion → Words → ℕ → Bool
names_me s rows row = is_unsuspected s row && names rows row s.me

-- whether it may suspect or wish for the member next: another one that is in the view or to be wished for, and
-- that it doesn't suspect or wish for so far
abbrev pub may_name : Suspicion → (ℕ → Bool) → ℕ → Bool
may_name s wishable member =
    not (member == s.me) && ((has s.members member || wishable member) && not (has s.suspects member))

-- whether the row is that of an unsuspected member of the view, and names this one, which may be named next
abbrev pub spreads : Suspicion → (ℕ → Bool) → Words → ℕ → ℕ → Bool
spreads s wishable rows row member =
    is_unsuspected s row && (names rows row member && may_name s wishable member)

-- the member that the rows say to suspect or to wish for next, if they say any: the least of those that the least
-- row with some names
abbrev pub spread_of : Suspicion → (ℕ → Bool) → Words → Option ℕ
spread_of s wishable rows =
    option_and_then (λ i. least_where (spreads s wishable rows i))
    (least_where (λ i. is_some (least_where (spreads s wishable rows i))))

-- the least member that the least row with a member to suspect or to wish for names
pub record IsNextSpread (s : Suspicion) (wishable : ℕ → Bool) (rows : Words) (member : ℕ) : Type 0 where
  pub row : ℕ
  pub named : spreads s wishable rows row member ≡ true
  pub least_row : (i j : ℕ) → i < row → spreads s wishable rows i j ≡ false
  pub least_member : (j : ℕ) → j < member → spreads s wishable rows row j ≡ false
