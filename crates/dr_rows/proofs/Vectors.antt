-- What the writes to the vectors of `Rows` are to its callers.
use Rattle.std.specs.Vec.{with_item}
use Rattle.std.proofs.Common.{◌≡◌, ◌≢◌, ℕ, ◌+◌, ◌*◌, ◌-◌, ◌<◌, ◌≤◌, false, List, [], drop, get_or, length, set, take, replicate, slice_index, slice_index_or, sym, ap, subst, ◌∙◌, arith}
use Rattle.std.proofs.lemmas.List.{get_or-drop, get_or_default, length-drop, get_or-replicate, get_or-set_same, length-set, length-replicate}
use Rattle.dr_entry.proofs.NumberFacts.{place_onward}
use Rattle.dr_rows.specs.{Growth.IsFresh, declared.rows.Rows.TheInside.Inside}
use Rattle.dr_rows.{specs.Inside.{IsInsideRows, by_column, by_row, rows_at, rows_inside}, proofs.Grids.with_word-row}
use Rattle.dr_rows.specs.Words.{Words, IsWords, begun, last_pushed, looked, own, pushed, row_of, seen, with_word, word_at}
use Rattle.dr_rows.proofs.FlatRows.{IsLayout, IsLayout-by_column, IsLayout-by_row, rows_at-set, rows_at-zeros, word_at-rows_at}
use Rattle.dr_rows.proofs.WordsLemmas.{IsFresh-begun, IsWords-begun, IsWords-looked, IsWords-pushed}

-- the own row is one of the rows
pub present : (a : Inside) (now : Words) → rows_inside a ≡ now → IsInsideRows a → now.me < now.members
present a now same inside = subst (λ (w : Words). w.me < w.members) same inside.form.present

-- the word that was read at a place is that of its row and its column
word_read : (place : ℕ → ℕ → ℕ) (members columns : ℕ) (flat : List ℕ) (i c p x : ℕ)
    → IsLayout place members columns → length flat ≡ members * columns → i < members
    → c < columns → p ≡ place i c → x ≡ slice_index_or flat p x → x ≡ word_at (rows_at place members columns flat) i c
word_read place members columns flat i c p x layout long h g at read =
    let near = layout.within i c h g in
    read ∙ get_or_default flat p x 0 (omega (arith, long)) ∙ ap (λ q. slice_index_or flat q 0) at
    ∙ sym (word_at-rows_at place members columns flat i c h g)

-- so it is the seen one
pub seen_read : (a : Inside) (now : Words) (i c p x : ℕ) → rows_inside a ≡ now → IsInsideRows a → i < now.members
    → c < now.columns → p ≡ c * now.members + i → x ≡ slice_index_or a.words.items p x → x ≡ seen now i c
seen_read a now i c p x same inside = subst (λ (w : Words). i < w.members → c < w.columns
    → p ≡ c * w.members + i → x ≡ slice_index_or a.words.items p x → x ≡ seen w i c) same
    (word_read (by_column a.members) a.members a.columns a.words.items i c p x
    (IsLayout-by_column a.members a.columns) inside.words)

-- the words from its place on have those of its row, as far apart as there are rows
pub seen_onward : (a : Inside) (now : Words) (i c p n : ℕ) → rows_inside a ≡ now → IsInsideRows a → i < now.members
    → c + n < now.columns → p ≡ c * now.members + i
    → slice_index (drop p a.words.items) (n * now.members) ≡ seen now i (c + n)
seen_onward a now i c p n same inside = subst (λ (w : Words). i < w.members → c + n < w.columns
    → p ≡ c * w.members + i → slice_index (drop p a.words.items) (n * w.members) ≡ seen w i (c + n)) same
    (λ h g at. get_or-drop p a.words.items (n * a.members) 0
    ∙ ap (slice_index a.words.items) (ap (λ (q : ℕ). q + n * a.members) at ∙ place_onward c n a.members i)
    ∙ sym (word_at-rows_at (by_column a.members) a.members a.columns a.words.items i (c + n) h g))

-- and they are there, up to the last column
pub onward_within : (a : Inside) (now : Words) (i c p n : ℕ) → rows_inside a ≡ now → IsInsideRows a → i < now.members
    → c + n < now.columns → p ≡ c * now.members + i → n * now.members < length (drop p a.words.items)
onward_within a now i c p n same inside = subst (λ (w : Words). i < w.members → c + n < w.columns
    → p ≡ c * w.members + i → n * w.members < length (drop p a.words.items)) same (λ h g at. omega (
      arith,
      length-drop p a.words.items,
      inside.words,
      at,
      place_onward c n a.members i,
      (IsLayout-by_column a.members a.columns).within i (c + n) h g,
    ))

-- or the one last pushed
pub last_pushed_read : (a : Inside) (now : Words) (i c p x : ℕ) → rows_inside a ≡ now → IsInsideRows a
    → i < now.members → c < now.columns
    → p ≡ i * now.columns + c → x ≡ slice_index_or a.sent.items p x → x ≡ last_pushed now i c
last_pushed_read a now i c p x same inside = subst (λ (w : Words). i < w.members → c < w.columns
    → p ≡ i * w.columns + c → x ≡ slice_index_or a.sent.items p x → x ≡ last_pushed w i c) same
    (word_read (by_row a.columns) a.members a.columns a.sent.items i c p x
    (IsLayout-by_row a.members a.columns) inside.sent)

-- the own words are the own row
pub own_row : (a : Inside) (now : Words) (flat : List ℕ) → rows_inside a ≡ now → IsInsideRows a
    → flat ≡ a.own.items → flat ≡ row_of now.words now.me
own_row a now flat same inside is = is ∙ inside.own ∙ ap (λ (w : Words). row_of w.words w.me) same

-- of which there is one for each column
pub own_long : (a : Inside) (now : Words) → rows_inside a ≡ now → IsInsideRows a → length a.own.items ≡ now.columns
own_long a now same inside =
    let form = inside.form in
    ap length inside.own ∙ form.rows.width a.me [] (omega (arith, form.rows.height, form.present))
    ∙ ap (λ (w : Words). w.columns) same

-- and the one that was read is the own word
pub own_read : (a : Inside) (now : Words) (c x : ℕ) → rows_inside a ≡ now → IsInsideRows a
    → c < now.columns → x ≡ slice_index_or a.own.items c x → x ≡ own now c
own_read a now c x same inside low read =
    read ∙ get_or_default a.own.items c x 0 (omega (arith, low, own_long a now same inside))
    ∙ ap (λ row. get_or row c 0) (own_row a now a.own.items same inside (λ i. a.own.items))

-- a word that was written at its place is a look
pub looked_written : (a : Inside) (now : Words) (i c p v : ℕ) → rows_inside a ≡ now → IsInsideRows a
    → i < now.members → c < now.columns
    → p ≡ c * now.members + i → rows_inside (record a { words = with_item a.words p v }) ≡ looked now i c v
looked_written a now i c p v same inside = subst (λ (w : Words). i < w.members → c < w.columns
    → p ≡ c * w.members + i → rows_inside (record a { words = with_item a.words p v }) ≡ looked w i c v)
    same (λ h g at. ap (λ q. rows_inside (record a { words = with_item a.words q v })) at
    ∙ ap (λ rows. record (rows_inside a) { words = rows })
    (rows_at-set (by_column a.members) a.members a.columns a.words.items i c v
    (IsLayout-by_column a.members a.columns) inside.words h g))

-- a look at another row keeps the form of the vectors
pub IsInside-looked : (a : Inside) (now : Words) (i c p v : ℕ) → rows_inside a ≡ now → IsInsideRows a
    → i < now.members → c < now.columns → i ≢ now.me
    → p ≡ c * now.members + i → IsInsideRows (record a { words = with_item a.words p v })
IsInside-looked a now i c p v same inside h g other at =
    let written = looked_written a now i c p v same inside h g at in
    record {
      form = subst IsWords (sym written) (IsWords-looked now i c v (subst IsWords same inside.form) h);
      own = own_row a now a.own.items same inside (λ j. a.own.items) ∙ sym (with_word-row now.words i c v now.me
          (λ e. other (sym e))) ∙ ap (λ (w : Words). row_of w.words w.me) (sym written);
      words = length-set a.words.items p v ∙ inside.words;
      sent = inside.sent;
    }

-- a place by the own number
pub own_place : (a : Inside) (now : Words) (c p : ℕ) → rows_inside a ≡ now → p ≡ c * now.members + a.me
    → p ≡ c * now.members + now.me
own_place a now c p same at = at ∙ ap (λ (w : Words). c * now.members + w.me) same

-- and so does an own word that was written at both of its places
pub IsInside-own : (a : Inside) (now : Words) (c p v : ℕ) → rows_inside a ≡ now → IsInsideRows a
    → c < now.columns → p ≡ c * now.members + now.me
    → IsInsideRows (record a { own = with_item a.own c v; words = with_item a.words p v })
IsInside-own a now c p v same inside g at =
    let here = present a now same inside in
    let written = looked_written a now now.me c p v same inside here g at in
    let form = subst IsWords same inside.form in
    record {
      form = subst IsWords (sym written) (IsWords-looked now now.me c v form here);
      own = ap (λ (row : List ℕ). set row c v) (own_row a now a.own.items same inside (λ j. a.own.items))
          ∙ sym (get_or-set_same now.words now.me (set (row_of now.words now.me) c v) []
          (omega (arith, form.rows.height, here))) ∙ ap (λ (w : Words). row_of w.words w.me) (sym written);
      words = length-set a.words.items p v ∙ inside.words;
      sent = inside.sent;
    }

-- the own word that was written at its place is a push
pub pushed_written : (a : Inside) (now : Words) (j c p v : ℕ) → rows_inside a ≡ now → IsInsideRows a
    → j < now.members → c < now.columns → p ≡ j * now.columns + c → v ≡ own now c
    → rows_inside (record a { sent = with_item a.sent p v }) ≡ pushed now j c
pushed_written a now j c p v same inside = subst (λ (w : Words). j < w.members → c < w.columns
    → p ≡ j * w.columns + c → v ≡ own w c
    → rows_inside (record a { sent = with_item a.sent p v }) ≡ pushed w j c) same (λ h g at word.
    ap (λ q. rows_inside (record a { sent = with_item a.sent q v })) at
    ∙ ap (λ rows. record (rows_inside a) { sent = rows })
    (rows_at-set (by_row a.columns) a.members a.columns a.sent.items j c v
    (IsLayout-by_row a.members a.columns) inside.sent h g)
    ∙ ap (λ x. record (rows_inside a)
    { sent = with_word (rows_at (by_row a.columns) a.members a.columns a.sent.items) j c x }) word)

-- a push keeps the form of the vectors
pub IsInside-pushed : (a : Inside) (now : Words) (j c p v : ℕ) → rows_inside a ≡ now → IsInsideRows a
    → j < now.members → c < now.columns
    → p ≡ j * now.columns + c → v ≡ own now c → IsInsideRows (record a { sent = with_item a.sent p v })
IsInside-pushed a now j c p v same inside h g at word = record {
  form = subst IsWords (sym (pushed_written a now j c p v same inside h g at word))
      (IsWords-pushed now j c (subst IsWords same inside.form) h);
  own = inside.own;
  words = inside.words;
  sent = length-set a.sent.items p v ∙ inside.sent;
}

-- what is known of the vectors where all is as at the beginning
pub record IsBlank (a : Inside) : Type 0 where
  pub own : a.own.items ≡ replicate a.columns 0
  pub words : a.words.items ≡ replicate (a.members * a.columns) 0
  pub sent : a.sent.items ≡ replicate (a.members * a.columns) 0
  pub frozen : a.frozen.items ≡ replicate a.members false

-- blank vectors mean the words of the beginning
pub begun_blank : (a : Inside) → IsBlank a → rows_inside a ≡ begun a.members a.columns a.me
begun_blank a blank =
    let words = ap (rows_at (by_column a.members) a.members a.columns) blank.words
    ∙ rows_at-zeros (by_column a.members) a.members a.columns (IsLayout-by_column a.members a.columns) in
    let sent = ap (rows_at (by_row a.columns) a.members a.columns) blank.sent
    ∙ rows_at-zeros (by_row a.columns) a.members a.columns (IsLayout-by_row a.members a.columns) in
    let frozen = blank.frozen in cc

-- blank vectors have their form, where members and columns are within their limits
pub IsInside-begun : (a : Inside) → IsBlank a → a.members ≤ 16 → a.columns ≤ 1024 → a.me < a.members → IsInsideRows a
IsInside-begun a blank few narrow present = record {
  form = subst IsWords (sym (begun_blank a blank)) (IsWords-begun a.members a.columns a.me few narrow present);
  own = blank.own ∙ sym (get_or-replicate a.members a.me (replicate a.columns 0) [] present)
      ∙ ap (λ (w : Words). row_of w.words w.me) (sym (begun_blank a blank));
  words = ap length blank.words ∙ length-replicate (a.members * a.columns) 0;
  sent = ap length blank.sent ∙ length-replicate (a.members * a.columns) 0;
}

-- blank vectors mean fresh words
pub IsFresh-blank : (a : Inside) → IsBlank a → IsFresh (rows_inside a)
IsFresh-blank a blank = subst IsFresh (sym (begun_blank a blank)) (IsFresh-begun a.members a.columns a.me)
