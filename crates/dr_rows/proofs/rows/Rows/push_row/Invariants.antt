use Rattle.std.proofs.Common.{◌≡◌, ◌-◌, ◌≤◌}
use Rattle.dr_rows.{specs.{Along.pushed_along, Words.IsWords}, proofs.Along.{IsFlat, by_rows}}
use Rattle.dr_rows.proofs.rows.Rows.push_row.Given as goal

abbrev pub invariant-loop-column : goal.invariant-loop-column
invariant-loop-column l = record {
  from : l.from ≤ l.column;
  within : l.column ≤ l.columns;
  long : IsFlat l.fn.self l.sent;
  after : record { words = by_rows l.fn.self l.sent; table = l.table; count = l.count } ≡ pushed_along l.to l.first
      (record { words = l.fn.self; table = l.fn.table; count = 0 }) l.from (l.column - l.from);
  few : l.count ≤ l.column - l.from;
  form : IsWords (by_rows l.fn.self l.sent);
}
