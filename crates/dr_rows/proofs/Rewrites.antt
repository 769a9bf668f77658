-- Own words of which each is made of the one before: what stands in them, and a loop that makes them one by
-- one.
use Rattle.std.{specs.List.range_with_len, proofs.lemmas.{Bool.{cases_eq, cases_lt}, List.Elements.All-set}}
use Rattle.std.proofs.Common.{◌≡◌, ◌≢◌, ℕ, ◌+◌, ◌<◌, ◌≤◌, ◌⊎◌, inl, inr, true, false, List, [], length, map, get_or, set, refl, sym, ap, ◌∙◌, ◌||◌, ◌==◌, arith}
use Rattle.std.proofs.lemmas.List.{length-set, get_or-set_same, get_or-set_other, get_or_past, set-get_or}
use Rattle.std.proofs.lemmas.List.FromFn.{fill_by_all, get_or-map-range_with_len, length-map-range_with_len}
use Rattle.dr_entry.proofs.ListFacts.{set_over}
use Rattle.dr_rows.specs.Words.{Words, IsWords, is_frozen, own, rewritten, row_of, seen, with_frozen, with_own, word_at}
use Rattle.dr_rows.proofs.Grids.{with_word-same, with_word-column}

-- the own row, made anew
abbrev made : Words → (ℕ → ℕ → ℕ) → List ℕ
made w make = map (λ c. make c (own w c)) (range_with_len 0 w.columns)

made_long : (w : Words) (make : ℕ → ℕ → ℕ) → length (made w make) ≡ w.columns
made_long w make = length-map-range_with_len (λ c. make c (own w c)) 0 w.columns

-- the words keep their form
pub IsWords-rewritten : (w : Words) (make : ℕ → ℕ → ℕ) → IsWords w → IsWords (rewritten w make)
IsWords-rewritten w make f = record {
  few = f.few;
  narrow = f.narrow;
  present = f.present;
  rows = record {
    height = length-set w.words w.me (made w make) ∙ f.rows.height;
    width = All-set (λ (row : List ℕ). length row ≡ w.columns) w.words w.me (made w make)
        (made_long w make) f.rows.width;
  };
  pushes = f.pushes;
  marks = f.marks;
  alive = f.alive;
}

-- and with the row of another member frozen
pub IsWords-frozen : (w : Words) (j : ℕ) → IsWords w → j ≢ w.me → IsWords (with_frozen w j)
IsWords-frozen w j f other = record {
  few = f.few;
  narrow = f.narrow;
  present = f.present;
  rows = f.rows;
  pushes = f.pushes;
  marks = length-set w.frozen j true ∙ f.marks;
  alive = get_or-set_other w.frozen j w.me true false (λ e. other (sym e)) ∙ f.alive;
}

-- which rows are frozen then
pub frozen_more : (w : Words) (j i : ℕ) → IsWords w → j < w.members
    → is_frozen (with_frozen w j) i ≡ (i == j || is_frozen w i)
frozen_more w j i f within = elim (cases_eq i j) [
  | inl same ↦ let here = get_or-set_same w.frozen j true false (omega (arith, f.marks, within)) in
      rw (same, here) (grind arith)
  | inr other ↦ let kept = get_or-set_other w.frozen j i true false other in rw kept (grind (arith, other))
]

-- past the end of the own row all words are 0
own_past : (w : Words) (c : ℕ) → IsWords w → w.columns ≤ c → own w c ≡ 0
own_past w c f past =
    let long = f.rows.width w.me [] (omega (arith, f.rows.height, f.present)) in
    get_or_past (row_of w.words w.me) c 0 (omega (arith, long))

-- an own word, made anew
pub own_rewritten : (w : Words) (make : ℕ → ℕ → ℕ) (c : ℕ) → IsWords w → c < w.columns
    → own (rewritten w make) c ≡ make c (own w c)
own_rewritten w make c f low = ap (λ row. get_or row c 0)
    (get_or-set_same w.words w.me (made w make) [] (omega (arith, f.rows.height, f.present)))
    ∙ get_or-map-range_with_len (λ d. make d (own w d)) 0 w.columns c c 0 low (omega arith)

-- and one of any column, where the words past the end are made 0
pub own_rewritten_all : (w : Words) (make : ℕ → ℕ → ℕ) (c : ℕ) → IsWords w
    → (w.columns ≤ c → make c 0 ≡ 0) → own (rewritten w make) c ≡ make c (own w c)
own_rewritten_all w make c f nothing = elim (cases_lt c w.columns) [
  | inl low ↦ own_rewritten w make c f low
  | inr past ↦ own_past (rewritten w make) c (IsWords-rewritten w make f) past
      ∙ sym (ap (make c) (own_past w c f past) ∙ nothing past)
]

-- the rows of other members stay
pub row_rewritten : (w : Words) (make : ℕ → ℕ → ℕ) (i : ℕ) → i ≢ w.me
    → row_of (rewritten w make).words i ≡ row_of w.words i
row_rewritten w make i other = get_or-set_other w.words w.me i (made w make) [] other

pub seen_rewritten : (w : Words) (make : ℕ → ℕ → ℕ) (i c : ℕ) → i ≢ w.me → seen (rewritten w make) i c ≡ seen w i c
seen_rewritten w make i c other = ap (λ row. get_or row c 0) (row_rewritten w make i other)

-- a word is as before, or it is an own one made anew
pub rewritten_either : (w : Words) (make : ℕ → ℕ → ℕ) (i c : ℕ) → IsWords w
    → (word_at (rewritten w make).words i c ≡ word_at w.words i c)
    ⊎ ((i ≡ w.me) × (word_at (rewritten w make).words i c ≡ make c (own w c)))
rewritten_either w make i c f = elim (cases_eq i w.me) [
  | inr other ↦ inl (seen_rewritten w make i c other)
  | inl same ↦ elim (cases_lt c w.columns) [
    | inl low ↦ inr (same, ap (λ (j : ℕ). word_at (rewritten w make).words j c) same ∙ own_rewritten w make c f low)
    | inr past ↦ inl (rw same (own_past (rewritten w make) c (IsWords-rewritten w make f) past
        ∙ sym (own_past w c f past)))
  ]
]

-- ---- one by one

-- the own words are made anew below this column
pub record IsRewrittenTo (old new : Words) (make : ℕ → ℕ → ℕ) (column : ℕ) : Type 0 where
  pub form : IsWords new
  pub rest : new ≡ record old { words = set old.words old.me (row_of new.words old.me) }
  pub below : (c : ℕ) → c < column → own new c ≡ make c (own old c)
  pub above : (c : ℕ) → column ≤ c → own new c ≡ own old c

-- a row put back, and a row put over another
set_back : (rows : List (List ℕ)) (i : ℕ) → i < length rows → rows ≡ set rows i (row_of rows i)
set_back rows i within = sym (set-get_or rows i [])

-- before the first column that is made anew
pub rewritten_none : (w : Words) (make : ℕ → ℕ → ℕ) (from : ℕ) → IsWords w
    → ((c : ℕ) → c < from → make c (own w c) ≡ own w c) → IsRewrittenTo w w make from
rewritten_none w make from f same = record {
  form = f;
  rest = ap (λ (rows : List (List ℕ)). record w { words = rows })
      (set_back w.words w.me (omega (arith, f.rows.height, f.present)));
  below = λ c l. sym (same c l);
  above = λ c l. refl;
}

-- one column more
pub rewritten_more : (old mid new : Words) (make : ℕ → ℕ → ℕ) (column : ℕ)
    → IsRewrittenTo old mid make column → column < old.columns
    → new ≡ with_own mid column (make column (own mid column)) → IsWords new → IsRewrittenTo old new make (column + 1)
rewritten_more old mid new make column so low is form = record {
  form = form;
  rest = rest;
  below = λ c l. elim (cases_eq c column) [
    | inl same ↦ rw same (here ∙ ap (make column) (so.above column (omega arith)))
    | inr other ↦ left c other ∙ so.below c (omega (arith, l, other))
  ];
  above = λ c l. left c (λ e. absurd (omega (arith, l, e))) ∙ so.above c (omega (arith, l));
}
  where
    v : ℕ
    v = make column (own mid column)

    row : List ℕ
    row = set (row_of mid.words mid.me) column v

    me : mid.me ≡ old.me
    me = ap (λ (w : Words). w.me) so.rest

    columns : mid.columns ≡ old.columns
    columns = ap (λ (w : Words). w.columns) so.rest

    here : own new column ≡ v
    here = ap (λ (w : Words). own w column) is
        ∙ with_word-same mid.members mid.columns mid.words mid.me column v so.form.rows so.form.present
        (omega (arith, columns, low))

    left : (c : ℕ) → c ≢ column → own new c ≡ own mid c
    left c other = ap (λ (w : Words). own w c) is ∙ with_word-column mid.words mid.me column v mid.me c other

    there : row_of new.words old.me ≡ row
    there = ap (λ (w : Words). row_of w.words old.me) is ∙ ap (λ (m : ℕ). row_of (set mid.words mid.me row) m)
        (sym me) ∙ get_or-set_same mid.words mid.me row [] (omega (arith, so.form.rows.height, so.form.present))

    rest : new ≡ record old { words = set old.words old.me (row_of new.words old.me) }
    rest = is ∙ ap (λ (w : Words). record w { words = set mid.words mid.me row }) so.rest
        ∙ ap (λ (rows : List (List ℕ)). record old { words = rows }) (ap (λ (m : ℕ). set mid.words m row) me
        ∙ ap (λ (w : Words). set w.words old.me row) so.rest ∙ set_over old.words old.me (row_of mid.words old.me) row
        ∙ ap (λ (r : List ℕ). set old.words old.me r) (sym there))

-- after the last column that is made anew all are
pub rewritten_whole : (old new : Words) (make : ℕ → ℕ → ℕ) (column : ℕ) → IsRewrittenTo old new make column
    → ((c : ℕ) → column ≤ c → make c (own old c) ≡ own old c) → new ≡ rewritten old make
rewritten_whole old new make column so same =
    so.rest ∙ ap (λ (row : List ℕ). record old { words = set old.words old.me row }) row
  where
    me : new.me ≡ old.me
    me = ap (λ (w : Words). w.me) so.rest

    columns : new.columns ≡ old.columns
    columns = ap (λ (w : Words). w.columns) so.rest

    long : length (row_of new.words old.me) ≡ old.columns
    long = ap (λ (m : ℕ). length (row_of new.words m)) (sym me)
        ∙ so.form.rows.width new.me [] (omega (arith, so.form.rows.height, so.form.present)) ∙ columns

    whole : (c : ℕ) → own new c ≡ make c (own old c)
    whole c = elim (cases_lt c column) [
      | inl below ↦ so.below c below
      | inr above ↦ so.above c above ∙ sym (same c above)
    ]

    row : row_of new.words old.me ≡ made old make
    row = fill_by_all (λ c. make c (own old c)) (row_of new.words old.me) old.columns 0 long
        (λ c l. ap (λ (m : ℕ). word_at new.words m c) (sym me) ∙ whole c)
