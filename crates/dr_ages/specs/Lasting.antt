-- The world in which an age has ended.
use Rattle.std.specs.Prelude.{◌≡◌, ℕ, false, Some, slice_get}
use Rattle.dr_entry.specs.declared.end.{AgeEnd.AgeEnd, MemberEnd.MemberEnd}
use Rattle.dr_history.specs.Members.{has}
use Rattle.dr_machine.specs.World.{World}
use Rattle.dr_ages.specs.declared.part.Part.{Part}

-- in this world each member that isn't missing has the history that the end of the age tells, and knows as much of it
-- to be durable
abbrev pub HasEndedIn : Part → AgeEnd → World → Type 0
HasEndedIn part age w = (m : ℕ) (e : MemberEnd) → slice_get age.members m ≡ Some e → has part.missing m ≡ false
    → (w.past.history m ≡ e.history) × (w.past.durable m ≡ e.durable)
