use Rattle.std.proofs.Common.{◌≡◌, ◌≤◌, length, map, take}
use Rattle.dr_history.specs.Members.{members_below}
use Rattle.dr_rows.specs.Words.{seen}
use Rattle.dr_rows.proofs.rows.Rows.column_of.Given as goal

abbrev pub invariant-loop-member : goal.invariant-loop-member
invariant-loop-member l = record {
  within : l.count ≤ l.member;
  count : l.count ≡ length (members_below l.members l.member);
  words : take l.count l.into ≡ map (λ i. seen l.self i l.column) (members_below l.members l.member);
}
