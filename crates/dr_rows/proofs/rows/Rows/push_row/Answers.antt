use Rattle.std.specs.Int.{from_bool}
use Rattle.std.proofs.Common.{◌≡◌, ◌+◌, ◌*◌, ◌-◌, ◌<◌, ◌==◌, ℕ, not, true, false, slice_index, slice_set, sym, ap, ap₂, subst, ◌∙◌, arith}
use Rattle.std.proofs.lemmas.{Bool.Decides.nat_tests, List.{get_or_default, length-set, set-get_or}}
use Rattle.dr_rows.specs.{Along.{Pushes, pushed_along, with_push}, Words.{IsWords, Words, changed, own}}
use Rattle.dr_rows.proofs.Along.{by_rows, push_is, push_is_none, push_test, push_written, pushed_more}
use Rattle.dr_rows.proofs.{Vectors.{own_long, own_read}, WordsLemmas.IsWords-pushed}
use Rattle.dr_rows.proofs.rows.Rows.push_row.Goals.{then-changed, else-changed}
use Rattle.dr_rows.proofs.rows.Rows.push_row.Goals as goal

pub loop-column-preserved : goal.loop-column-preserved
loop-column-preserved c =
    let w = c.args.self.now in
    let j = c.args.to in
    let column = c.loop-column.column in
    let flat = c.loop-column.sent in
    let before = c.loop-column.invariant in
    let s : Pushes = record { words = by_rows w flat; table = c.loop-column.table; count = c.loop-column.count } in
    let begin : Pushes = record { words = w; table = c.args.table.now; count = 0 } in
    let columns : c.self.inside.columns ≡ w.columns = ap (λ (x : Words). x.columns) c.self.view_is in
    let low : column < w.columns = omega (arith, c.loop-column-test.true, columns) in
    let word = slice_index c.as_slice-own.result.now column in
    let place = c.from.result * c.self.inside.columns + column in
    let at : place ≡ j * w.columns + column = ap₂ (λ (n k : ℕ). n * k + column) c.from.ensures columns in
    let is : word ≡ own w column = own_read c.self.inside w column word c.self.view_is c.self.invariant low
    (ap (λ xs. slice_index xs column) c.as_slice-own.ensures.value
    ∙ sym (get_or_default c.self.inside.own.items column word 0
    (omega (arith, low, own_long c.self.inside w c.self.view_is c.self.invariant)))) in
    let tested : changed s.words j column ≡ not (word == slice_index flat place) =
    push_test w flat j column place word (slice_index flat place) c.requires.to low at is
    (λ z. slice_index flat place) in
    let so_far : c.args.from + (column - c.args.from) ≡ column = omega (arith, before.from) in
    let next : column - c.args.from + 1 ≡ column + 1 - c.args.from = omega (arith, before.from) in
    let more : with_push j c.args.first s column ≡ pushed_along j c.args.first begin c.args.from
    (column + 1 - c.args.from) = ap (λ (x : Pushes). with_push j c.args.first x column) before.after
    ∙ sym (pushed_more j c.args.first begin c.args.from (column - c.args.from) column so_far)
    ∙ ap (pushed_along j c.args.first begin c.args.from) next in
    let put = slice_set flat place word in
    let into = c.args.first + column in
    let long = length-set flat place word ∙ before.long in
    elim c.if-changed.branch [
      | then-changed x ↦
          let apart = x.if-changed.true in
          let differs : not (word == slice_index flat place) ≡ true = grind (arith, nat_tests, apart) in
          let one : c.from-in-loop-column.result ≡ 1 = c.from-in-loop-column.ensures ∙ ap from_bool differs in
          let written = push_written w flat j column place word before.long c.requires.to low at is in
          record {
            from = omega (arith, before.from);
            within = omega (arith, c.loop-column-test.true);
            long = long;
            after = (λ z. record {
              words = written z;
              table = ap (slice_set s.table into) (x.table-is ∙ is) z;
              count = ap (λ (n : ℕ). s.count + n) one z;
            }) ∙ sym (push_is j c.args.first s column (tested ∙ differs)) ∙ more;
            few = omega (arith, one, before.few, next);
            form = subst IsWords (sym written) (IsWords-pushed s.words j column before.form c.requires.to);
          }
      | else-changed x ↦
          let same = x.if-changed.false in
          let differs : not (word == slice_index flat place) ≡ false = grind (arith, nat_tests, same) in
          let none : c.from-in-loop-column.result ≡ 0 = c.from-in-loop-column.ensures ∙ ap from_bool differs in
          let still : s.count + c.from-in-loop-column.result ≡ s.count = omega (arith, none) in
          let equal : word ≡ slice_index flat place = grind (arith, nat_tests, same) in
          let kept : put ≡ flat = ap (slice_set flat place) equal ∙ set-get_or flat place 0 in
          let left : slice_set s.table into c.if-changed.table ≡ s.table =
          ap (slice_set s.table into) x.table-is ∙ set-get_or s.table into 0 in
          record {
            from = omega (arith, before.from);
            within = omega (arith, c.loop-column-test.true);
            long = long;
            after = (λ z. record {
              words = by_rows w (kept z);
              table = left z;
              count = still z;
            }) ∙ sym (push_is_none j c.args.first s column (tested ∙ differs)) ∙ more;
            few = omega (arith, none, before.few, next);
            form = subst IsWords (sym (ap (by_rows w) kept)) before.form;
          }
    ]
