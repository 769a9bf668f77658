-- Logs that come back behind an age, though others are missing.
use Rattle.std.specs.Prelude.{◌≡◌, ℕ, ◌<◌, Contains, Some, length, true, is_some}
use Rattle.dr_entry.specs.declared.record.Vote.{Vote}
use Rattle.dr_history.specs.{Members.has, declared.opening.Opening.Opening}
use Rattle.dr_restart.specs.{Choosing.{AreFirst, Handed, IsLastAge}, Refusing.{AreEnough, AreHoldersAlong}}
use Rattle.dr_restart.specs.declared.lists.LogLists.{LogLists}

-- the member has handed in its log
abbrev pub HasHandedIn : Handed → ℕ → Type 0
HasHandedIn h m = is_some (h m) ≡ true

-- All entries may stand, and the logs are those of more than half of the roster. Of any two of the last age one
-- is a front of the other, and all members of its View 0 have handed in theirs, and so have all whom votes of that
-- age name.
pub record HaveReturned (o : Opening) (h : Handed) : Type 0 where
  pub enough : AreEnough o h
  pub along : (age : ℕ) → IsLastAge h age → AreHoldersAlong h age
  pub first : (age first m : ℕ) → IsLastAge h age → AreFirst h age first → has first m ≡ true → HasHandedIn h m
  pub named : (age k m : ℕ) (log : LogLists) (x : Vote) → IsLastAge h age → h k ≡ Some log → Contains log.votes x
      → x.age ≡ age → m < length o.messages → has x.value.leavers m ≡ true → HasHandedIn h m
