-- What is asked of one member for all to agree.
use Rattle.std.specs.Prelude.{◌≡◌, ℕ, ◌≤◌, ◌⊎◌, true, List, length, All, Contains, Some}
use Rattle.dr_entry.specs.declared.{end.MemberEnd.MemberEnd, entry.Entry.{Entry, TheVariants.View}}
use Rattle.dr_history.specs.{Agreement.{Accounts, KnowsDurable, SamePast, accounts_of}, Members.{has, members_of}}
use Rattle.dr_history.specs.{History.{IsPrefixOf, sent_of, view_of}, Order.InOrder, declared.opening.Opening.Opening}

-- two histories may stand side by side
abbrev pub AreConsistent : List Entry → List Entry → Type 0
AreConsistent g h = SamePast g h × (IsPrefixOf g h ⊎ IsPrefixOf h g)

-- each member of a mask has so many entries on its log
abbrev pub AllHaveLogged : Accounts → ℕ → ℕ → Type 0
AllHaveLogged accounts durable members = All (λ j. durable ≤ length (accounts j).log) (members_of members)

-- an entry is a View of this age each of whose members has so many entries on its log
abbrev pub IsLoggedView : Accounts → ℕ → ℕ → Entry → Type 0
IsLoggedView accounts age durable e =
    (number : ℕ) × (members : ℕ) × (e ≡ View age number members) × AllHaveLogged accounts durable members

-- a history holds such a View
abbrev pub HoldsLoggedView : Accounts → ℕ → ℕ → List Entry → Type 0
HoldsLoggedView accounts age durable h =
    (number : ℕ) × (members : ℕ) × Contains h (View age number members)
    × AllHaveLogged accounts durable members

-- a history is in such a view, and the member is in it
abbrev pub IsInLoggedView : Accounts → ℕ → ℕ → List Entry → ℕ → Type 0
IsInLoggedView accounts age durable h i =
    (number : ℕ) × (members : ℕ)
    × (view_of h ≡ Some (record { age = age; number = number; members = members_of members }))
    × Contains (members_of members) i
    × AllHaveLogged accounts durable members

-- a member agrees with all members that are there
pub record AgreesWithAll (o : Opening) (ends : List MemberEnd) (i : ℕ) : Type 0 where
  pub ordered : InOrder o (sent_of ends) (accounts_of ends i).history
  pub consistent : (j : ℕ) → has o.present j ≡ true
      → AreConsistent (accounts_of ends i).history (accounts_of ends j).history
  pub durable : KnowsDurable o (accounts_of ends) i
