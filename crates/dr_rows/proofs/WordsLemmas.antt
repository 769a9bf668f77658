-- Each change of the words keeps their form, and they grow.
use Rattle.std.proofs.Common.{◌≡◌, ℕ, ◌<◌, ◌≤◌, [], false, get_or, replicate, inl, inr, ap, ◌∙◌, arith}
use Rattle.std.proofs.lemmas.Bool.{cases_lt, Decides.nat_tests}
use Rattle.std.proofs.lemmas.List.{get_or-replicate, get_or_past, length-replicate}
use Rattle.dr_entry.proofs.ListFacts.{copy_at}
use Rattle.dr_rows.{specs.Growth.IsFresh, proofs.Grids.{IsGrid-with_word, IsGrid-zeros}}
use Rattle.dr_rows.specs.Words.{Words, IsWords, begun, looked, pushed, own, word_at, zeros, last_pushed}

-- the words of the beginning have their form
pub IsWords-begun : (n k me : ℕ) → n ≤ 16 → k ≤ 1024 → me < n → IsWords (begun n k me)
IsWords-begun n k me few narrow present = record {
  few = few;
  narrow = narrow;
  present = present;
  rows = IsGrid-zeros n k;
  pushes = IsGrid-zeros n k;
  marks = length-replicate n false;
  alive = get_or-replicate n me false false present;
}

-- a look keeps the form of the words
pub IsWords-looked : (w : Words) (i c v : ℕ) → IsWords w → i < w.members → IsWords (looked w i c v)
IsWords-looked w i c v form within = record {
  few = form.few;
  narrow = form.narrow;
  present = form.present;
  rows = IsGrid-with_word w.members w.columns w.words i c v form.rows within;
  pushes = form.pushes;
  marks = form.marks;
  alive = form.alive;
}

-- a push keeps the form of the words
pub IsWords-pushed : (w : Words) (j c : ℕ) → IsWords w → j < w.members → IsWords (pushed w j c)
IsWords-pushed w j c form within = record {
  few = form.few;
  narrow = form.narrow;
  present = form.present;
  rows = form.rows;
  pushes = IsGrid-with_word w.members w.columns w.sent j c (own w c) form.pushes within;
  marks = form.marks;
  alive = form.alive;
}

-- all words of rows of zeros are 0
word_at-zeros : (n k i c : ℕ) → word_at (zeros n k) i c ≡ 0
word_at-zeros n k i c = elim (cases_lt i n) [
  | inl within ↦ ap (λ row. get_or row c 0) (get_or-replicate n i (replicate k 0) [] within) ∙ copy_at k 0 c
  | inr past ↦ ap (λ row. get_or row c 0)
      (get_or_past (zeros n k) i [] (omega (arith, length-replicate n (replicate {A = ℕ} k 0))))
]

-- the words of the beginning are fresh
pub IsFresh-begun : (n k me : ℕ) → IsFresh (begun n k me)
IsFresh-begun n k me = record {
  zero = word_at-zeros n k;
  unfrozen = copy_at n false;
  unchanged = λ j c. let here = word_at-zeros n k me c in let there = word_at-zeros n k j c in
      grind (arith, nat_tests);
}

pub begun_sent : (n k m j c : ℕ) → last_pushed (begun n k m) j c ≡ 0
begun_sent n k m j c =
    let fresh = IsFresh-begun n k m in grind (arith, nat_tests, fresh.unchanged j c, fresh.zero m c)
