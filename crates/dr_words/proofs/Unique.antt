-- Shapes and layouts of the same numbers are the same.
use Rattle.std.{specs.Coded.le_prop, proofs.Common.{◌≡◌, subst, ◌≤◌}}
use Rattle.dr_words.specs.declared.shape.Shape.{Shape}

-- two shapes with the same numbers
pub same_shape : (a b : Shape) → a.members ≡ b.members → a.window ≡ b.window → a.banks ≡ b.banks → a ≡ b
same_shape a b members window banks = subst (λ n. (p : 1 ≤ n) (q : n ≤ 16) → a ≡ record {
  members = n;
  window = b.window;
  banks = b.banks;
  some_member = p;
  most_members = q;
  some_slot = b.some_slot;
  most_slots = b.most_slots;
}) members (λ p q. subst (λ n. (s : 1 ≤ n) (t : n ≤ 8) → a ≡ record {
  members = a.members;
  window = n;
  banks = b.banks;
  some_member = p;
  most_members = q;
  some_slot = s;
  most_slots = t;
}) window (λ s t. λ z. record {
  members = a.members;
  window = a.window;
  banks = banks z;
  some_member = le_prop a.some_member p z;
  most_members = le_prop a.most_members q z;
  some_slot = le_prop a.some_slot s z;
  most_slots = le_prop a.most_slots t z;
}) b.some_slot b.most_slots) b.some_member b.most_members
