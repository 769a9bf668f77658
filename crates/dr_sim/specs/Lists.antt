-- What the deeds of a member ask of the letters and of the lists for them.
use Rattle.std.specs.Prelude.{◌≡◌, ℕ, ◌+◌, ◌<◌, ◌≤◌, IfSome, List, None, Option, Some, length}
use Rattle.dr_form.specs.Letters.{IsFitting}
use Rattle.dr_history.specs.Members.{members_of}
use Rattle.dr_served.specs.Served.{LetterGoesOn}
use Rattle.dr_program.specs.{Presence.present_at, Running.{Running, next_deed}}
use Rattle.dr_program.specs.declared.deed.Deed.TheVariants.{Give, Take}
use Rattle.dr_sim.specs.Deeds.{own_letter}
use Rattle.dr_world.specs.Posts.{PostsOf, count_filled}

-- where the member gives a letter, its place is empty, and there is a list for it, with room for its history;
-- and where it takes one that is there, that fits it, and goes on from its history
pub record FindsLists (p : PostsOf) (r : Running) : Type 0 where
  pub list : (j : ℕ) → next_deed r ≡ Give j → (j < length p.letters) × (present_at p.letters j ≡ None)
      × (0 < p.left) × (r.replica.room ≤ p.room)
  pub fitting : next_deed r ≡ Take → IfSome (own_letter p.letters r) (IsFitting r.replica)
  pub goes_on : next_deed r ≡ Take → LetterGoesOn r.replica.history (own_letter p.letters r)

-- a list is left for each late member that has no letter, with room for the history of this one
pub record HasSpare (p : PostsOf) (r : Running) : Type 0 where
  pub enough : length (members_of r.replica.late) ≤ p.left + count_filled p.letters
  pub room : r.replica.room ≤ p.room

-- so it is for each of these members
abbrev pub HaveSpares : PostsOf → List (Option Running) → Type 0
HaveSpares p members = (m : ℕ) (r : Running) → present_at members m ≡ Some r → HasSpare p r
