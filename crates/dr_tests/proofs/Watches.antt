-- Rows of a group, in which the members 0 and 1 have each a word in one column.
use Rattle.std.proofs.Common.{refl, sym, subst, ℕ, ◌<◌, ◌≤◌, arith}
use Rattle.dr_pred.specs.Group.{IsOfShape}
use Rattle.dr_rows.{specs.Words.{begun, looked, with_own}, proofs.WordsLemmas.{IsFresh-begun, IsWords-begun}}
use Rattle.dr_words.{specs.{Columns.columns_of, Form.IsInForm, declared.shape.Shape.Shape}, proofs.Forms.form_zero}
use Rattle.dr_words.proofs.Tables.{IsTable, table_looked, table_set}

begun_table : (n window : ℕ) → 1 < n → n ≤ 16 → columns_of n window ≤ 1024
    → IsTable n window (begun n (columns_of n window) 0)
begun_table n window several most few = record {
  rows = IsWords-begun n (columns_of n window) 0 most few (omega (arith, several));
  members = refl;
  columns = refl;
  words = λ i c. subst (IsInForm n c) (sym ((IsFresh-begun n (columns_of n window) 0).zero i c))
      (form_zero n c (omega (arith, several)));
}

-- rows in which the members 0 and 1 have each a word in form in one column are those of the group
pub pair_of_shape : (s : Shape) (column one other : ℕ) → 1 < s.members → s.members ≤ 16
    → columns_of s.members s.window ≤ 1024 → column < columns_of s.members s.window
    → IsInForm s.members column one → IsInForm s.members column other → IsOfShape s
    (looked (with_own (begun s.members (columns_of s.members s.window) 0) column one) 1 column other)
pair_of_shape s column one other several most few within form_one form_other =
    let begins = begun_table s.members s.window several most few in
    let set = table_set s.members s.window (begun s.members (columns_of s.members s.window) 0) column one
    begins within form_one in
    let both = table_looked s.members s.window
    (with_own (begun s.members (columns_of s.members s.window) 0) column one) 1 column other set several
    within form_other in
    record { shape = record { members = both.members; columns = both.columns }; form = both.words }
