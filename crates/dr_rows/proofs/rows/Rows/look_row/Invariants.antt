use Rattle.std.proofs.Common.{◌≡◌, ◌+◌, ◌-◌, ◌*◌, ◌≤◌}
use Rattle.dr_rows.{specs.{Along.looked_along, Growth.RowsGrew, Words.IsWords}, proofs.Along.{IsFlat, by_columns}}
use Rattle.dr_rows.proofs.rows.Rows.look_row.Given as goal

abbrev pub invariant-loop-column : goal.invariant-loop-column
invariant-loop-column l = record {
  from : l.from ≤ l.column;
  within : l.column ≤ l.columns;
  cell : l.cell ≡ l.column * l.members + l.row;
  long : IsFlat l.fn.self l.words;
  after : by_columns l.fn.self l.words ≡ looked_along l.row l.table l.first l.fn.self l.from (l.column - l.from);
  grown : RowsGrew l.fn.self (by_columns l.fn.self l.words);
  form : IsWords (by_columns l.fn.self l.words);
}
