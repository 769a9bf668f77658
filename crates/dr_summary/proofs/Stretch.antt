-- Marks that stay for a stretch of rows.
use Rattle.std.proofs.Common.{◌≡◌, refl, sym, ◌∙◌, ap, subst, ℕ, suc, ◌+◌, ◌<◌, ◌≤◌, List, [], ◌∷◌, ◌++◌, All, length, get_or, slice_index_or, take, arith, le_trans}
use Rattle.std.proofs.lemmas.List.{take_more, Elements.{All-append, All-cons, All-nil}}
use Rattle.dr_entry.specs.declared.end.MemberEnd.{MemberEnd}
use Rattle.dr_summary.specs.{Marks.{AreMarks, IsMarkUntil}, Table.marks_text}

-- the marks of a row, where no member's changes
pub marks_stay : (ms : List MemberEnd) (first last n : ℕ) → All (IsMarkUntil first last) ms → first ≤ n
    → n ≤ last → marks_text ms n ≡ marks_text ms first
marks_stay [] first last n same from until = refl
marks_stay (m ∷ ms) first last n same from until = rw (
  same 0 m (omega arith) n from until,
  marks_stay ms first last n (λ k d below. same (suc k) d (omega (arith, below))) from until,
) refl

-- marks that hold up to a row hold up to each row before it
pub until_less : (first last less : ℕ) (m : MemberEnd) → less ≤ last → IsMarkUntil first last m
    → IsMarkUntil first less m
until_less first last less m l same n from until = same n from (le_trans until l)

-- marks that were made hold as far as no member's changes
pub marks_made : (ms : List MemberEnd) (first last : ℕ) (text : List ℕ) → text ≡ marks_text ms first
    → All (IsMarkUntil first last) ms → AreMarks ms first last text
marks_made ms first last text made same n from until = marks_stay ms first last n same from until ∙ sym made

-- the marks of one member more
pub alike_more : (ms : List MemberEnd) (i first last own less : ℕ) (m : MemberEnd) → i < length ms
    → m ≡ get_or ms i m → less ≤ last → less ≤ own → All (IsMarkUntil first last) (take i ms)
    → IsMarkUntil first own m → All (IsMarkUntil first less) (take (i + 1) ms)
alike_more ms i first last own less m below is l o before same = subst (All (IsMarkUntil first less))
    (sym (take_more ms i m below ∙ ap (λ x. take i ms ++ x ∷ []) (sym is))) (All-append (IsMarkUntil first less)
    (take i ms) (m ∷ []) (λ k d b. until_less first last less (slice_index_or (take i ms) k d) l (before k d b))
    (All-cons (IsMarkUntil first less) m [] (until_less first own less m o same) (All-nil (IsMarkUntil first less))))
