-- Lines of a text, each up to its line feed.
use Rattle.std.{specs.List.concat, proofs.lemmas.{Bool.{and_parts, eqb-true}, List.{drop_all, take_all, take_more}}}
use Rattle.std.proofs.Common.{◌≡◌, inl, inr, refl, sym, ap, ◌∙◌, ℕ, ◌==◌, not, arith, ◌+◌, ◌<◌, ◌≤◌, Bool, true, false, List, [], ◌∷◌, ◌++◌, append_assoc, length, take, drop, get_or, take-append-drop}
use Rattle.dr_entry.proofs.{ListFacts.{is_free, AreFed, IsPart}, NumberFacts.not_feed}
use Rattle.dr_check.specs.Lines.{begin_with, lines_of}

-- the line up to the first line feed
pub lines_front : (body rest : List ℕ) → is_free body ≡ true
    → lines_of (body ++ 10 ∷ rest) ≡ (body ++ 10 ∷ []) ∷ lines_of rest
unfolding lines_of
lines_front [] rest free = refl
lines_front (byte ∷ body) rest free =
    let parts = and_parts (not (byte == 10)) (is_free body) free in
    rw (not_feed byte parts.0, lines_front body rest parts.1) refl

-- a text without a line feed is one line, or none
pub lines_free : (byte : ℕ) (bytes : List ℕ) → is_free (byte ∷ bytes) ≡ true
    → lines_of (byte ∷ bytes) ≡ (byte ∷ bytes) ∷ []
unfolding lines_of
lines_free byte [] free =
    let parts = and_parts (not (byte == 10)) (is_free []) free in rw (not_feed byte parts.0) refl
lines_free byte (next ∷ bytes) free =
    let parts = and_parts (not (byte == 10)) (is_free (next ∷ bytes)) free in
    rw (not_feed byte parts.0) (ap (begin_with byte) (lines_free next bytes parts.1))

-- whole lines behind one another
pub lines_fed : (lines : List (List ℕ)) (rest : List ℕ) → AreFed lines
    → lines_of (concat lines ++ rest) ≡ lines ++ lines_of rest
lines_fed [] rest fed = refl
lines_fed (line ∷ lines) rest fed =
    let body = fed.0.0 in
    let text = concat lines ++ rest in
    let parts : concat (line ∷ lines) ++ rest ≡ body ++ 10 ∷ text = append_assoc line (concat lines) rest
    ∙ (ap (λ xs. xs ++ text) fed.0.2 ∙ append_assoc body (10 ∷ []) text) in
    ap lines_of parts ∙ (lines_front body text fed.0.1
    ∙ (ap (λ xs. xs ∷ lines_of text) (sym fed.0.2) ∙ ap (λ ls. line ∷ ls) (lines_fed lines rest fed.1)))

abbrev pub AreParts : List (List ℕ) → Type 0
AreParts [] = Unit {0}
AreParts (line ∷ lines) = IsPart line × AreParts lines

begin_part : (byte : ℕ) (lines : List (List ℕ)) → (byte == 10) ≡ false → AreParts lines
    → AreParts (begin_with byte lines)
begin_part byte [] other parts = (inr (rw other refl), tt)
begin_part byte (line ∷ lines) other parts = (more parts.0, parts.1)
  where
    more : IsPart line → IsPart (byte ∷ line)
    more (inl fed) = inl (byte ∷ fed.0, rw other fed.1, ap (λ xs. byte ∷ xs) fed.2)
    more (inr free) = inr (rw other free)

pub parts_of : (text : List ℕ) → AreParts (lines_of text)
unfolding lines_of
parts_of [] = tt
parts_of (byte ∷ bytes) = by (parts_of bytes) (byte == 10) refl
  where
    by : AreParts (lines_of bytes) → (b : Bool) → (byte == 10) ≡ b → AreParts (lines_of (byte ∷ bytes))
    by rest true is = rw is (inl ([], refl, ap (λ (n : ℕ). n ∷ []) (eqb-true byte 10 is)), rest)
    by rest false is = rw is (begin_part byte (lines_of bytes) is rest)

pub lines_none : lines_of [] ≡ []
unfolding lines_of
lines_none = refl

-- the first line, by where its line feed is
pub line_at : (bytes : List ℕ) (i : ℕ) → i < length bytes → get_or bytes i 0 ≡ 10 → is_free (take i bytes) ≡ true
    → lines_of bytes ≡ take (i + 1) bytes ∷ lines_of (drop (i + 1) bytes)
line_at bytes i within is free =
    let front : take (i + 1) bytes ≡ take i bytes ++ 10 ∷ [] =
    take_more bytes i 0 within ∙ ap (λ (n : ℕ). take i bytes ++ n ∷ []) is in
    let parts : bytes ≡ take i bytes ++ 10 ∷ drop (i + 1) bytes = sym (take-append-drop (i + 1) bytes)
    ∙ (ap (λ xs. xs ++ drop (i + 1) bytes) front ∙ append_assoc (take i bytes) (10 ∷ []) (drop (i + 1) bytes)) in
    ap lines_of parts ∙ (lines_front (take i bytes) (drop (i + 1) bytes) free
    ∙ ap (λ xs. xs ∷ lines_of (drop (i + 1) bytes)) (sym front))

-- the only line of a text without one
pub line_alone : (bytes : List ℕ) (i : ℕ) → 0 < length bytes → length bytes ≤ i → is_free (take i bytes) ≡ true
    → lines_of bytes ≡ take (length bytes) bytes ∷ lines_of (drop (length bytes) bytes)
line_alone [] i some past free = absurd (omega (arith, some))
line_alone (byte ∷ bytes) i some past free =
    let all = byte ∷ bytes in
    let none : drop (length all) all ≡ [] = drop_all (length all) all (omega arith) in
    lines_free byte bytes (ap is_free (sym (take_all i all past)) ∙ free)
    ∙ (ap (λ xs. xs ∷ []) (sym (take_all (length all) all (omega arith)))
    ∙ ap (λ ls. take (length all) all ∷ ls) (sym (ap lines_of none ∙ lines_none)))
