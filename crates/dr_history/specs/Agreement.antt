-- What it is for the members of an age to agree.
use Rattle.std.specs.Option.{option_map_or}
use Rattle.std.specs.Prelude.{◌≡◌, ℕ, ◌≤◌, ◌⊎◌, List, [], length, take, All, Contains, slice_get, Some}
use Rattle.dr_entry.specs.declared.{end.{MemberEnd.MemberEnd, SentItem.SentItem}, entry.Entry.Entry}
use Rattle.dr_entry.specs.declared.entry.Entry.TheVariants.{View}
use Rattle.dr_history.specs.{History.{IsPrefixOf, Sent, sent_of, view_of}, Members.members_of, Order.InOrder}
use Rattle.dr_history.specs.{Soundness.{IsNobodyLate, IsPresentIn}, declared.opening.Opening.Opening}

-- what a member has done in an age
pub record Account : Type 0 where
  -- what it has put in each view, by the view's number
  pub sent : ℕ → List SentItem
  -- what it has delivered
  pub history : List Entry
  -- the entries on its log
  pub log : List Entry
  -- how many entries it knows to be durable
  pub durable : ℕ

-- an account of each member, by its number
abbrev pub Accounts : Type 0
Accounts = ℕ → Account

-- what each member has put in each view
abbrev pub sent_by : Accounts → Sent
sent_by accounts s v = (accounts s).sent v

-- two histories that hold a View of the same age and number have the same members in it and the same
-- entries before it
abbrev pub SamePast : List Entry → List Entry → Type 0
SamePast g h = (i j age number m n : ℕ) → slice_get g i ≡ Some (View age number m) → slice_get h j
    ≡ Some (View age number n)
    → (m ≡ n) × (take i g ≡ take j h)

-- what a member knows to be durable stands on its own log, and on the log of each member of some view of the
-- age that its history holds. Where nobody is late, that is the view that the history is in, and the member
-- is in it
pub record KnowsDurable (o : Opening) (accounts : Accounts) (i : ℕ) : Type 0 where
  pub own : (accounts i).durable ≤ length (accounts i).log
  pub number : ℕ
  pub members : ℕ
  pub view : Contains (accounts i).history (View o.age number members)
  pub logged : All (λ j. (accounts i).durable ≤ length (accounts j).log) (members_of members)
  pub last : IsNobodyLate o
      → (view_of (accounts i).history ≡ Some (record { age = o.age; number = number; members = members_of members }))
      × Contains (members_of members) i

-- the members of an age agree
pub record Agreed (o : Opening) (accounts : Accounts) : Type 0 where
  -- of any two histories, one is a prefix of the other
  pub prefix : (i j : ℕ) → IsPresentIn o i → IsPresentIn o j
      → IsPrefixOf (accounts i).history (accounts j).history
      ⊎ IsPrefixOf (accounts j).history (accounts i).history
  -- each is in order
  pub ordered : (i : ℕ) → IsPresentIn o i → InOrder o (sent_by accounts) (accounts i).history
  -- members that installed the same view had the same history before it
  pub same_past : (i j : ℕ) → IsPresentIn o i → IsPresentIn o j
      → SamePast (accounts i).history (accounts j).history
  -- the entries of each log are the first ones of its member's history
  pub logged : (i : ℕ) → IsPresentIn o i → IsPrefixOf (accounts i).log (accounts i).history
  -- and what a member knows to be durable stands on logs
  pub durable : (i : ℕ) → IsPresentIn o i → KnowsDurable o accounts i

-- what the members of an age that has ended have done: each has as many entries on its log as it tells, its
-- first ones
abbrev pub accounts_of : List MemberEnd → Accounts
accounts_of ends m = let end = slice_get ends m in record {
  sent = sent_of ends m;
  history = option_map_or (λ (e : MemberEnd). e.history) end [];
  log = option_map_or (λ (e : MemberEnd). take e.logged e.history) end [];
  durable = option_map_or (λ (e : MemberEnd). e.durable) end 0;
}

-- the members of an age that has ended agree
pub record EndsAgreed (o : Opening) (ends : List MemberEnd) : Type 0 where
  -- nobody tells of more entries on its log than it has delivered
  pub told : All (λ (e : MemberEnd). e.logged ≤ length e.history) ends
  pub agreed : Agreed o (accounts_of ends)
