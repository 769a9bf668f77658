use Rattle.std.proofs.Common.{◌≡◌, ◌+◌, ◌≤◌}
use Rattle.dr_rows.specs.Words.{own}
use Rattle.dr_program.specs.declared.deed.Deed.TheVariants.{Push}
use Rattle.dr_turn.specs.Work.{deeds_left}
use Rattle.dr_member.{specs.Inside.member_inside, proofs.Sweeps.{IsOnRow, at_column}}
use Rattle.dr_member.proofs.member.Member.push_row.Given as goal

abbrev pub invariant-loop-column : goal.invariant-loop-column
invariant-loop-column g l = record {
  home : g.A.Access.home l.access l.fn.board;
  came : g.A.Access.came l.fn.access l.fn.self l.access (member_inside (at_column l.self-inside l.column));
  on : IsOnRow (Push (l.first + l.column) (own l.self-inside.replica.rows l.column)) l.fn.self
      (at_column l.self-inside l.column);
  row : l.self-inside.place.row ≡ l.to;
  behind : l.self-inside.place.column ≤ l.column;
  columns : l.self-inside.bases.columns ≡ l.columns;
}

abbrev pub decreases-loop-column : goal.decreases-loop-column
decreases-loop-column g l = deeds_left (member_inside (at_column l.self-inside l.column))
