-- Sweeps: looks and pushes that a member takes one after the other.
use Rattle.std.specs.Prelude.{◌≡◌, ℕ, List, [], ◌∷◌}
use Rattle.atomic_table.specs.Table.{Me}
use Rattle.dr_program.specs.{Running.{Running, after_step, next_deed}, declared.deed.Deed.Deed}
use Rattle.dr_program.specs.declared.deed.Deed.TheVariants as deeds
use Rattle.dr_table.specs.{Cards.board_size, Slots.Slot, Steps.{IsAhead, IsReachedMember, MayFind, alone}}
use Rattle.dr_table.specs.declared.rule.View.{View}

-- the deed is a look or a push
abbrev pub IsSwept : Deed → Type 0
IsSwept (deeds.Look index) = Unit {0}
IsSwept (deeds.Push index word) = Unit {0}
IsSwept d = ⊥

-- q is r after looks and pushes at which it saw these words, each one that it may find
abbrev pub HasTaken : List ℕ → Running → Running → Type 0
HasTaken [] r q = r ≡ q
HasTaken (word ∷ words) r q = IsSwept (next_deed r) × MayFind r word × HasTaken words (after_step word r) q

-- the member has taken some looks and pushes
abbrev pub HasSwept : Running → Running → Type 0
HasSwept r q = (words : List ℕ) × HasTaken words r q

-- a member that was `from` is q now, by some looks and pushes from this seat, over a board of so many words
pub record HasComeBySweep (size : ℕ) (from : Running) (me : Me Slot View) (q : Running) : Type 0 where
  pub taken : HasSwept from q
  pub seat : (r : Running) × (me ≡ alone r) × IsAhead r q
  pub reached : IsReachedMember q
  pub of : board_size q ≡ size
