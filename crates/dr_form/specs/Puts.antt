-- What a replica may put next.
use Rattle.std.specs.Prelude.{◌≡◌, ◌<◌, false, [], ◌∷◌, ◌++◌, length}
use Rattle.dr_entry.{specs.declared.{end.SentItem.SentItem, entry.Item.Item}, proofs.Fields.IsItem}
use Rattle.dr_machine.specs.Sending.{IsPut}
use Rattle.dr_program.specs.Replica.{Replica, me, count, greatest, is_wedged}
use Rattle.dr_ring.specs.Slots.{IsFree}

-- it may put this item under this name
pub record MayPut (r : Replica) (name : SentItem) (item : Item) : Type 0 where
  -- it isn't wedged
  pub unwedged : is_wedged r ≡ false
  -- the item has its ranges, there is room for one more, and its slot is free
  pub ranges : IsItem item
  pub room : count r (me r) < greatest r.totals
  pub free : IsFree r.window r.rows r.members (count r (me r))
  -- the name follows those of what it has put
  pub order : IsPut r.base (length r.messages) (r.sent ++ name ∷ [])
