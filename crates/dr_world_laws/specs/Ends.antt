-- How members are ended by suspicion, and worlds without any.
use Rattle.std.specs.Prelude.{◌≡◌, ◌≢◌, ℕ, true, false}
use Rattle.dr_history.specs.Members.{has}
use Rattle.dr_machine.specs.{Guards.unsuspected_of, World.World}
use Rattle.dr_words.specs.{Masks.{IsMajorityOf, IsPartOf}, declared.column.TheConstants.SUSPECTED_COLUMN}

-- another member of m's view, which member m doesn't suspect, suspects m: so its own word of this view
-- says, also once it is in a later view
pub record IsSuspectedBack (w : World) (m by : ℕ) : Type 0 where
  pub member : has (w.members m) by ≡ true
  pub other : by ≢ m
  pub unsuspected : has (w.suspects m) by ≡ false
  pub suspects : has (w.past.own by (w.past.view m) SUSPECTED_COLUMN) m ≡ true

-- the members of its view that member m doesn't suspect are those of the mask, m itself among them, and no
-- majority
pub record IsLeftWith (w : World) (m mask : ℕ) : Type 0 where
  pub unsuspected : mask ≡ unsuspected_of w m
  pub own : has mask m ≡ true
  pub members : IsPartOf mask (w.members m)
  pub minority : ¬ IsMajorityOf mask (w.members m)

-- nobody suspects anybody
abbrev pub NobodySuspects : World → Type 0
NobodySuspects w = (m : ℕ) → w.suspects m ≡ 0
