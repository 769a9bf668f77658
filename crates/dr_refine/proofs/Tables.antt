-- The words of the table, one of them written.
use Rattle.std.{specs.Prelude.{slice_set, max}, proofs.lemmas.List.{get_or-set_same, get_or-set_other, length-set}}
use Rattle.std.proofs.Common.{◌≡◌, refl, sym, ◌∙◌, ℕ, ◌<◌, inl, inr, List, slice_index, arith, ap, ◌∷◌}
use Rattle.std.proofs.{Math.Path.fun_ext, lemmas.Bool.cases_eq}
use Rattle.dr_entry.proofs.NumberFacts.{cell_inside}
use Rattle.dr_words.{specs.Layout.word_index_of, proofs.Places.{word_index_within, word_index_one_to_one}}
use Rattle.dr_machine.specs.{Group.{Group, banks, roster, columns}, Run.{ComesNext, WasOwn, with_table}, World.World}
use Rattle.dr_machine.{specs.Writes.at₄, proofs.Writes.{at₄_same, at₄_other}}
use Rattle.dr_program.{specs.{Program.Program, Reading.{word_of, world}}, proofs.Replicas.{word_inside, word_arrives}}
use Rattle.dr_refine.specs.Programs.{IsTable, IsProgram}

-- a word that is written stands in its cell, and the others stay
pub table_written : (g : Group) (table : List ℕ) (v j i c x : ℕ) → IsTable g table → v < banks g
    → j < roster g → i < roster g → c < columns g
    → word_of g (slice_set table (word_index_of (roster g) g.window v j i c) x) ≡ at₄ (word_of g table) v j i c x
table_written g table v j i c x whole bank copy row column =
    fun_ext λ b. fun_ext λ k. fun_ext λ n. fun_ext λ d. each b k n d
  where
    index : ℕ → ℕ → ℕ → ℕ → ℕ
    index = word_index_of (roster g) g.window

    written : List ℕ
    written = slice_set table (index v j i c) x

    same : word_of g written v j i c ≡ x
    same = word_inside g written v j i c bank copy row column ∙ get_or-set_same table (index v j i c) x 0
        (omega (arith, whole, word_index_within (roster g) g.window (banks g) v j i c bank copy row column))

    other : (b k n d : ℕ) → (b ≡ v → k ≡ j → n ≡ i → d ≡ c → ⊥) → word_of g written b k n d ≡ word_of g table b k n d
    other b k n d apart = elim (cell_inside (banks g) (roster g) (columns g) b k n d) [
      | inr out ↦ rw out refl
      | inl inside ↦ rw inside.1 (get_or-set_other table (index v j i c) (index b k n d) x 0 (λ e.
          let one = word_index_one_to_one
          (roster g) g.window v j i c b k n d copy row column inside.0.1 inside.0.2 inside.0.3 e in
          apart one.0 one.1 one.2 one.3))
    ]

    apart : (b k n d : ℕ) → (b ≡ v → k ≡ j → n ≡ i → d ≡ c → ⊥)
        → word_of g written b k n d ≡ at₄ (word_of g table) v j i c x b k n d
    apart b k n d a = other b k n d a ∙ sym (at₄_other (word_of g table) v j i c x b k n d a)

    each : (b k n d : ℕ) → word_of g written b k n d ≡ at₄ (word_of g table) v j i c x b k n d
    each b k n d = elim (cases_eq b v) [
      | inr p ↦ apart b k n d (λ e _ _ _. p e)
      | inl p ↦ elim (cases_eq k j) [
        | inr q ↦ apart b k n d (λ _ e _ _. q e)
        | inl q ↦ elim (cases_eq n i) [
          | inr r ↦ apart b k n d (λ _ _ e _. r e)
          | inl r ↦ elim (cases_eq d c) [
            | inr s ↦ apart b k n d (λ _ _ _ e. s e)
            | inl s ↦ rw (p, q, r, s) (same ∙ sym (at₄_same (word_of g table) v j i c x))
          ]
        ]
      ]
    ]

-- so the world that it is then comes next
pub come_follows : (g : Group) (before : List World) (p : Program) (v j i c word : ℕ) → IsProgram g p
    → v < banks g → j < roster g → i < roster g → c < columns g → WasOwn (world g p ∷ before) v i c word
    → let place = word_index_of (roster g) g.window v j i c in
    let q : Program = record {
      members = p.members;
      table = slice_set p.table place (max (slice_index p.table place) word);
      letters = p.letters;
    } in
    IsProgram g q × ComesNext g before (world g p) (world g q)
come_follows g before p v j i c word is bank to from cell was = (
  record {
    all = is.all;
    form = is.form;
    of = is.of;
    there = is.there;
    table = length-set p.table place (max (slice_index p.table place) word) ∙ is.table;
    posts = is.posts;
  },
  inr (
    at₄ (word_of g p.table) v j i c (max (slice_index p.table place) word),
    word_arrives g (world g p ∷ before) p v j i c word bank to from cell was,
    ap (with_table (world g p)) (table_written g p.table v j i c
        (max (slice_index p.table place) word) is.table bank to from cell),
  ),
)
  where
    place : ℕ
    place = word_index_of (roster g) g.window v j i c
