-- Whose seat it is.
use Rattle.std.specs.Prelude.{◌≡◌, ◌≢◌, ℕ, ◌-◌, ◌^◌, ◌<◌}
use Rattle.dr_packet.specs.declared.{Seal.Seal, Way.Way}
use Rattle.dr_script.specs.declared.script.Script.{Script}
use Rattle.dr_words.specs.Masks.{with_member, without}

-- the script of its group, by which its packets are known, and the number of its member
pub record RoleOf : Type 0 where
  pub script : Script
  pub seal : Seal
  pub me : ℕ

-- all members of the group
abbrev pub roster_of : RoleOf → ℕ
roster_of role = 2 ^ role.script.members - 1

-- these but its own
abbrev pub others_of : RoleOf → ℕ → ℕ
others_of role members = without members (with_member 0 role.me)

-- what goes this way is for its member, and by another one of the group
abbrev pub IsMine : RoleOf → Way → Type 0
IsMine role way = (way.to ≡ role.me) × ((way.from < role.script.members) × (way.from ≢ role.me))
