-- Letters for late members, as they come to doors.
use Rattle.std.specs.Prelude.{◌≡◌, ℕ, ◌-◌, ◌^◌, ◌&&◌, nat_le, nat_lt, Bool, true, false, All, IfSome, List, length, Option}
use Rattle.dr_entry.specs.{Spelling.IsValidEntry, declared.entry.Entry.Entry}
use Rattle.dr_form.specs.Letters.{IsFitting}
use Rattle.dr_history.specs.{History.{IsPrefixOf, last_view}, Members.has, Order.messages_from}
use Rattle.dr_member.specs.Deeds.{is_take}
use Rattle.dr_program.specs.{Replica.{Replica, me}, Running.{Running, next_deed}}
use Rattle.dr_door.specs.declared.refused.NotTaken.{NotTaken}
use Rattle.dr_door.specs.declared.refused.NotTaken.TheVariants as why

-- the letter begins with what the member has, its entries are valid, and it fits the member
pub record Suits (r : Replica) (letter : List Entry) : Type 0 where
  pub begins : IsPrefixOf r.history letter
  pub valid : All IsValidEntry letter
  pub fits : IsFitting r letter

-- a view of this number and of these members is one that the member may come into: one of the roster with it, above
-- the first one, for which there is a bank
abbrev pub may_enter : Replica → ℕ × ℕ → Bool
may_enter r view =
    nat_lt 0 view.0 && (nat_lt view.0 r.banks && (nat_le view.1 (2 ^ r.roster - 1) && has view.1 (me r)))

-- the letter, which is no shorter than what the member has, fits it
abbrev pub is_fitting : Replica → List Entry → Bool
is_fitting r letter = nat_le (length letter) r.room
    && (nat_le (length (messages_from (me r) letter)) (length r.messages) && may_enter r (last_view (0, 0) letter))

-- why the member takes no letter: it asks for none, or this one doesn't suit it
abbrev pub IsNotTaken : Running → Option (List Entry) → NotTaken → Type 0
IsNotTaken r letter why.NotDue = is_take (next_deed r) ≡ false
IsNotTaken r letter why.Unfit = (is_take (next_deed r) ≡ true) × ¬ IfSome letter (Suits r.replica)
