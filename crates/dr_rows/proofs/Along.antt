-- Rows taken whole, column by column, in the vectors of `Rows`.
use Rattle.std.{specs.Vec.with_items, proofs.lemmas.List.with_items_is}
use Rattle.std.proofs.Common.{◌≡◌, ◌≢◌, ℕ, zero, suc, ◌+◌, ◌*◌, ◌<◌, ◌≤◌, ◌==◌, Bool, not, false, true, List, length, set, slice_index, slice_set, refl, sym, ap, ap₂, subst, ◌∙◌, rules, arith, le_trans}
use Rattle.dr_rows.specs.{Along.{Pushes, looked_along, pushed_along, with_look, with_push}, Growth.RowsGrew}
use Rattle.dr_rows.specs.Inside.{IsInsideRows, by_column, by_row, rows_at, rows_inside}
use Rattle.dr_rows.specs.Words.{Words, IsWords, changed, is_frozen, looked, own, pushed, row_of, seen, with_word}
use Rattle.dr_rows.{specs.declared.rows.Rows.TheInside.Inside, proofs.Grids.{with_word-column, with_word-row}}
use Rattle.dr_rows.proofs.FlatRows.{IsLayout-by_column, IsLayout-by_row, rows_at-set, word_at-rows_at}
use Rattle.dr_entry.proofs.NumberFacts.{fold_range_more}

-- ---- what the vectors mean while one of them is lent

-- the words whose rows, or whose pushed words, stand in this vector
abbrev pub by_columns : Words → List ℕ → Words
by_columns w flat = record w { words = rows_at (by_column w.members) w.members w.columns flat }

abbrev pub by_rows : Words → List ℕ → Words
by_rows w flat = record w { sent = rows_at (by_row w.columns) w.members w.columns flat }

-- it has a place for each word
abbrev pub IsFlat : Words → List ℕ → Type 0
IsFlat w flat = length flat ≡ w.members * w.columns

-- ---- looks

pub looked_more : (i : ℕ) (table : List ℕ) (first : ℕ) (w : Words) (from m c : ℕ) → from + m ≡ c
    → looked_along i table first w from (m + 1) ≡ with_look i table first (looked_along i table first w from m) c
looked_more i table first w from m c e = fold_range_more (with_look i table first) w from m c e

-- a word that was put at its place is a look
pub look_written : (w : Words) (flat : List ℕ) (i c p v : ℕ) → IsFlat w flat → i < w.members → c < w.columns
    → p ≡ c * w.members + i → by_columns w (set flat p v) ≡ looked (by_columns w flat) i c v
look_written w flat i c p v long row column at = ap (λ q. by_columns w (set flat q v)) at
    ∙ ap (λ rows. record w { words = rows })
    (rows_at-set (by_column w.members) w.members w.columns flat i c v
    (IsLayout-by_column w.members w.columns) long row column)

-- words that grow on
pub grown_on : (a b c : Words) → RowsGrew a b → RowsGrew b c → RowsGrew a c
grown_on a b c g h = record {
  members = h.members ∙ g.members;
  columns = h.columns ∙ g.columns;
  me = h.me ∙ g.me;
  rise = λ i d. le_trans (g.rise i d) (h.rise i d);
  stay = λ i f. h.stay i (g.stay i f);
  still = λ i f. h.still i (g.stay i f) ∙ g.still i f;
}

-- a look at a word that has not fallen
pub look_grown : (w : Words) (i c v : ℕ) → IsWords w → i < w.members → c < w.columns → i ≢ w.me
    → is_frozen w i ≡ false → seen w i c ≤ v → RowsGrew w (looked w i c v)
look_grown w i c v form row column other unfrozen grown = search rules

-- the columns from this one on are as before, and so are other rows
pub seen_behind : (i : ℕ) (table : List ℕ) (first : ℕ) (w : Words) (from m j d : ℕ) → from + m ≤ d
    → seen (looked_along i table first w from m) j d ≡ seen w j d
seen_behind i table first w from zero j d past = refl
seen_behind i table first w from (suc m) j d past =
    seen_behind i table first (with_look i table first w from) (from + 1) m j d (omega (arith, past))
    ∙ with_word-column w.words i from (slice_index table (first + from)) j d (λ e. absurd (omega (arith, past, e)))

pub row_beside : (i : ℕ) (table : List ℕ) (first : ℕ) (w : Words) (from m j : ℕ) → j ≢ i
    → row_of (looked_along i table first w from m).words j ≡ row_of w.words j
row_beside i table first w from zero j other = refl
row_beside i table first w from (suc m) j other = row_beside i table first (with_look i table first w from)
    (from + 1) m j other ∙ with_word-row w.words i from (slice_index table (first + from)) j other

-- nothing else changes
pub looked_stays : (i : ℕ) (table : List ℕ) (first : ℕ) (w : Words) (from m : ℕ)
    → looked_along i table first w from m ≡ record w { words = (looked_along i table first w from m).words }
looked_stays i table first w from zero = refl
looked_stays i table first w from (suc m) = looked_stays i table first (with_look i table first w from) (from + 1) m

-- what was written through the lent vector keeps the form of all
pub IsInside-lent : (a : Inside) (w : Words) (flat : List ℕ) → rows_inside a ≡ w → IsInsideRows a → IsFlat w flat
    → IsWords (by_columns w flat) → row_of (by_columns w flat).words w.me ≡ row_of w.words w.me
    → IsInsideRows (record a { words = with_items a.words flat })
IsInside-lent a w flat same inside long form stays = record {
  form = subst IsWords (sym view) form;
  own = inside.own ∙ ap₂ (λ (x : Words) (m : ℕ). row_of x.words m) same me ∙ sym stays
      ∙ ap₂ (λ (x : Words) (m : ℕ). row_of x.words m) (sym view) (sym me);
  words = ap length items ∙ long ∙ size;
  sent = inside.sent;
}
  where
    me : a.me ≡ w.me
    me = ap (λ (x : Words). x.me) same

    size : w.members * w.columns ≡ a.members * a.columns
    size = sym (ap (λ (x : Words). x.members * x.columns) same)

    items : (with_items a.words flat).items ≡ flat
    items = with_items_is a.words flat (omega (arith, long, size, inside.words, a.words.ok))

    view : rows_inside (record a { words = with_items a.words flat }) ≡ by_columns w flat
    view = ap (λ xs. by_columns (rows_inside a) xs) items ∙ ap (λ (x : Words). by_columns x flat) same

-- ---- pushes

pub pushed_more : (j first : ℕ) (s : Pushes) (from m c : ℕ) → from + m ≡ c
    → pushed_along j first s from (m + 1) ≡ with_push j first (pushed_along j first s from m) c
pushed_more j first s from m c e = fold_range_more (with_push j first) s from m c e

-- a word that was put at its place is a push
pub push_written : (w : Words) (flat : List ℕ) (j c p v : ℕ) → IsFlat w flat → j < w.members → c < w.columns
    → p ≡ j * w.columns + c → v ≡ own w c → by_rows w (set flat p v) ≡ pushed (by_rows w flat) j c
push_written w flat j c p v long row column at is = ap (λ q. by_rows w (set flat q v)) at
    ∙ ap (λ rows. record w { sent = rows })
    (rows_at-set (by_row w.columns) w.members w.columns flat j c v
    (IsLayout-by_row w.members w.columns) long row column) ∙ ap (pushed_as w flat j c) is
  where
    pushed_as : Words → List ℕ → ℕ → ℕ → ℕ → Words
    pushed_as w flat j c v = record w { sent = with_word (rows_at (by_row w.columns) w.members w.columns flat) j c v }

-- a word that differs from the one at its place has changed, and one that does not has not
pub push_test : (w : Words) (flat : List ℕ) (j c p v x : ℕ) → j < w.members → c < w.columns
    → p ≡ j * w.columns + c → v ≡ own w c → x ≡ slice_index flat p → changed (by_rows w flat) j c ≡ not (v == x)
push_test w flat j c p v x row column at is read = ap₂ (λ (a b : ℕ). not (a == b)) (sym is)
    (word_at-rows_at (by_row w.columns) w.members w.columns flat j c row column
    ∙ ap (slice_index flat) (sym at) ∙ sym read)

pub push_is : (j first : ℕ) (s : Pushes) (c : ℕ) → changed s.words j c ≡ true → with_push j first s c ≡ record {
  words = pushed s.words j c;
  table = slice_set s.table (first + c) (own s.words c);
  count = s.count + 1;
}
push_is j first s c e = rw e refl

pub push_is_none : (j first : ℕ) (s : Pushes) (c : ℕ) → changed s.words j c ≡ false → with_push j first s c ≡ s
push_is_none j first s c e = rw e refl

-- nothing but the pushed words changes
push_stays : (j first : ℕ) (s : Pushes) (c : ℕ)
    → (with_push j first s c).words ≡ record s.words { sent = (with_push j first s c).words.sent }
push_stays j first s c = by (changed s.words j c) refl
  where
    IsSo : Pushes → Type 0
    IsSo x = x.words ≡ record s.words { sent = x.words.sent }

    by : (b : Bool) → changed s.words j c ≡ b → IsSo (with_push j first s c)
    by true e = subst IsSo (sym (push_is j first s c e)) refl
    by false e = subst IsSo (sym (push_is_none j first s c e)) refl

pub pushed_stays : (j first : ℕ) (s : Pushes) (from m : ℕ) → (pushed_along j first s from m).words
    ≡ record s.words { sent = (pushed_along j first s from m).words.sent }
pushed_stays j first s from zero = refl
pushed_stays j first s from (suc m) = pushed_stays j first (with_push j first s from) (from + 1) m
    ∙ ap (λ (w : Words). record w { sent = (pushed_along j first s from (suc m)).words.sent })
    (push_stays j first s from)
