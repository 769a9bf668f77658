-- Printing one line more, and the text of the first lines.
use Rattle.std.{specs.List.flat_map, proofs.{Math.ListN.get_or-append, lemmas.List.length-append}}
use Rattle.std.proofs.Common.{◌≡◌, ℕ, ◌+◌, ◌≤◌, ◌<◌, List, [], ◌∷◌, ◌++◌, length, take, get_or, refl, sym, ap, ◌∙◌, arith}
use Rattle.std.proofs.{Math.Seq.{take-length, get_or-append_seam}, lemmas.Grind.get_or_default_zero}
use Rattle.dr_entry.{specs.declared.entry.Entry.Entry, proofs.ListFacts.{text_more, first_text}}
use Rattle.dr_entry.proofs.NumberFacts.{up_to_none, up_to_more}
use Rattle.dr_text.specs.{Printed.{ArePrinted, lines}, Report.entry_text}

-- an end where the lines of the first i entries end
abbrev IsEnd : List Entry → List ℕ → ℕ → Type 0
IsEnd entries ends i = get_or ends i 0 ≡ length (lines entries i)

-- no line is printed yet
pub none_printed : (entries : List Entry) (text ends : List ℕ)
    → text ≡ [] → ends ≡ 0 ∷ [] → ArePrinted entries 0 text ends
none_printed entries text ends empty zero_alone = record {
  printed = empty;
  many = ap length zero_alone;
  each = up_to_none (IsEnd entries ends) (ap (λ xs. get_or xs 0 0) zero_alone);
}

-- one line more is printed
pub printed_more : (entries : List Entry) (n : ℕ) (e : Entry) (text ends text' ends' : List ℕ)
    → n < length entries → e ≡ get_or entries n e → ArePrinted entries n text ends
    → text' ≡ text ++ entry_text e → ends' ≡ ends ++ length text' ∷ [] → ArePrinted entries (n + 1) text' ends'
printed_more entries n e text ends text' ends' below is before after marked = record {
  printed = whole;
  many = rw (marked, length-append, before.many) refl;
  each = up_to_more (IsEnd entries ends') n earlier last;
}
  where
    whole : text' ≡ lines entries (n + 1)
    whole = after ∙ ap (λ t. t ++ entry_text e) before.printed ∙ sym (text_more entry_text entries n e below is)

    earlier : (i : ℕ) → i ≤ n → IsEnd entries ends' i
    earlier i within =
        let many = before.many in
        rw (marked, get_or-append ends (length text' ∷ []) 0 i (omega arith)) (before.each i within)

    last : IsEnd entries ends' (n + 1)
    last = rw (marked, ← before.many, get_or-append_seam ends (length text') [] 0, before.many) (ap length whole)

-- all lines are printed
all_printed : (entries : List Entry) (text ends : List ℕ) → ArePrinted entries (length entries) text ends
    → text ≡ flat_map entry_text entries
all_printed entries text ends all = all.printed ∙ ap (flat_map entry_text) (take-length entries)

-- the end that is kept for the first entries is that of their lines
first_end : (entries : List Entry) (text ends : List ℕ) (count end : ℕ)
    → ArePrinted entries (length entries) text ends → count ≤ length entries → end ≡ get_or ends count end
    → end ≡ length (lines entries count)
first_end entries text ends count end all within is =
    let many = all.many in is ∙ get_or_default_zero ends count end (omega arith) ∙ all.each count within

-- up to that end there stand their lines
pub first_lines : (entries : List Entry) (text ends : List ℕ) (count end : ℕ)
    → ArePrinted entries (length entries) text ends → count ≤ length entries → end ≡ get_or ends count end
    → take end text ≡ lines entries count
first_lines entries text ends count end all within is =
    let at = first_end entries text ends count end all within is in
    rw (at, all_printed entries text ends all) (first_text entry_text entries count)
