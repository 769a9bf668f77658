use Rattle.std.proofs.Common.{◌≡◌, ◌+◌, ◌*◌, ◌-◌, ◌<◌, ℕ, set, slice_index, sym, ap, subst, ◌∙◌, arith}
use Rattle.std.proofs.lemmas.List.{length-set}
use Rattle.dr_rows.specs.{Along.looked_along, Growth.RowsGrew, Words.{IsWords, Words, looked, row_of, seen}}
use Rattle.dr_rows.proofs.Along.{IsInside-lent, by_columns, grown_on, look_grown, look_written, looked_more, row_beside, seen_behind}
use Rattle.dr_rows.proofs.WordsLemmas.{IsWords-looked}
use Rattle.dr_rows.proofs.rows.Rows.look_row.Goals as goal

pub loop-column-preserved : goal.loop-column-preserved
loop-column-preserved c =
    let w = c.args.self.now in
    let i = c.args.row in
    let column = c.loop-column.column in
    let table = c.args.table.now in
    let v = slice_index table (c.args.first + column) in
    let flat = c.loop-column.words in
    let before = c.loop-column.invariant in
    let columns : c.self.inside.columns ≡ w.columns = ap (λ (x : Words). x.columns) c.self.view_is in
    let members : c.from-members.result ≡ w.members =
    c.from-members.ensures ∙ ap (λ (x : Words). x.members) c.self.view_is in
    let low : column < w.columns = omega (arith, c.loop-column-test.true, columns) in
    let written : by_columns w (set flat c.loop-column.cell v) ≡ looked (by_columns w flat) i column v =
    look_written w flat i column c.loop-column.cell v before.long c.requires.row low
    (before.cell ∙ ap (λ (n : ℕ). column * n + i) members) in
    let so_far : c.args.from + (column - c.args.from) ≡ column = omega (arith, before.from) in
    let next : column + 1 - c.args.from ≡ column - c.args.from + 1 = omega (arith, before.from) in
    let here : seen (by_columns w flat) i column ≡ seen w i column = ap (λ (x : Words). seen x i column) before.after
    ∙ seen_behind i table c.args.first w c.args.from (column - c.args.from) i column (omega (arith, so_far)) in
    record {
      from = omega (arith, before.from);
      within = omega (arith, c.loop-column-test.true);
      cell = omega (arith, before.cell);
      long = length-set flat c.loop-column.cell v ∙ before.long;
      after = written ∙ ap (λ (x : Words). looked x i column v) before.after
          ∙ sym (looked_more i table c.args.first w c.args.from (column - c.args.from) column so_far)
          ∙ ap (looked_along i table c.args.first w c.args.from) (sym next);
      grown = grown_on w (by_columns w flat) (by_columns w (set flat c.loop-column.cell v)) before.grown
          (subst (RowsGrew (by_columns w flat)) (sym written)
          (look_grown (by_columns w flat) i column v before.form c.requires.row low c.requires.other
          c.requires.unfrozen (omega (arith, here, c.requires.grown column before.from low))));
      form = subst IsWords (sym written) (IsWords-looked (by_columns w flat) i column v before.form c.requires.row);
    }

pub invariant_of-self : goal.invariant_of-self
invariant_of-self c =
    let w = c.args.self.now in
    let before = c.loop-column.invariant in
    IsInside-lent c.self.inside w c.loop-column.words c.self.view_is c.self.invariant before.long before.form
    (ap (λ (x : Words). row_of x.words w.me) before.after
    ∙ row_beside c.args.row c.args.table.now c.args.first w c.args.from
    (c.loop-column.column - c.args.from) w.me (λ e. c.requires.other (sym e)))
