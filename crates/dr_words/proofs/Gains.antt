-- One item more of a member: its count, the front, and the own words that follow.
use Rattle.std.proofs.Common.{ℕ, false, ◌<◌, ◌≤◌, inl, arith, ◌≡◌, ◌≢◌, ◌∙◌, sym, subst}
use Rattle.std.proofs.lemmas.Bool.Decides.{nat_tests}
use Rattle.dr_rows.{specs.Words.{Words, with_own, own}, proofs.Grids.own_left}
use Rattle.dr_words.specs.{Columns.recv_column, Grown.{HasGrown, Grown}, Packing.recv_word}
use Rattle.dr_words.specs.declared.column.TheConstants.{RECEIVED_COLUMN}
use Rattle.dr_words.proofs.{Forms.{form_free, form_recv, grown_free, grown_recv}, Order.Grown_trans}
use Rattle.dr_words.proofs.Tables.{IsTable, table_set, own_written, set_grown}

-- the words that say how many items of s there are, and what the front is
abbrev pub shown : Words → ℕ → ℕ → ℕ → Words
shown w s count front = with_own (with_own w (recv_column s) (recv_word count false)) RECEIVED_COLUMN front

-- the rows remain a table when a count and a front are shown
pub table_shown : (n window : ℕ) (w : Words) (s count front : ℕ) → IsTable n window w → s < n
    → count ≤ 4096 → IsTable n window (shown w s count front)
table_shown n window w s count front t within small = table_set n window
    (with_own w (recv_column s) (recv_word count false)) RECEIVED_COLUMN front (table_set n window w (recv_column s)
    (recv_word count false) t (omega arith) (form_recv n s (recv_word count false) within (omega arith)))
    (omega arith) (form_free n RECEIVED_COLUMN front (inl (omega arith, omega arith)))

-- showing a count and a front leaves the other own words
pub shown_left : (w : Words) (s count front d : ℕ) → d ≢ RECEIVED_COLUMN → d ≢ recv_column s
    → own (shown w s count front) d ≡ own w d
shown_left w s count front d received recv =
    own_left (with_own w (recv_column s) (recv_word count false)) RECEIVED_COLUMN front d received
    ∙ own_left w (recv_column s) (recv_word count false) d recv

-- the count that is shown stands in the sender's column
pub shown_recv : (n window : ℕ) (w : Words) (s count front : ℕ) → IsTable n window w → s < n
    → own (shown w s count front) (recv_column s) ≡ recv_word count false
shown_recv n window w s count front t within =
    own_left (with_own w (recv_column s) (recv_word count false)) RECEIVED_COLUMN front (recv_column s)
    (λ e. omega arith) ∙ own_written n window w (recv_column s) (recv_word count false) t (omega arith)

-- the front that is shown stands in its column
pub shown_received : (n window : ℕ) (w : Words) (s count front : ℕ) → IsTable n window w → s < n
    → count ≤ 4096 → own (shown w s count front) RECEIVED_COLUMN ≡ front
shown_received n window w s count front t within small = own_written n window (with_own w (recv_column s)
    (recv_word count false)) RECEIVED_COLUMN front (table_set n window w (recv_column s) (recv_word count false) t
    (omega arith) (form_recv n s (recv_word count false) within (omega arith))) (omega arith)

-- where neither the count nor the front falls, showing them grows the words
pub shown_grown : (n window : ℕ) (w : Words) (s old count front : ℕ) → IsTable n window w → s < n → count ≤ 4096
    → own w (recv_column s) ≡ recv_word old false → old ≤ count → own w RECEIVED_COLUMN ≤ front
    → Grown n w.words (shown w s count front).words w.frozen w.frozen
shown_grown n window w s old count front t within small is more rises =
    let mid : Words = with_own w (recv_column s) (recv_word count false) in
    let left = own_left w (recv_column s) (recv_word count false) RECEIVED_COLUMN (λ e. omega arith) in
    Grown_trans n w.words mid.words (shown w s count front).words w.frozen w.frozen w.frozen
    (set_grown n window w (recv_column s) (recv_word count false) t (omega arith)
    (subst (λ (x : ℕ). HasGrown n (recv_column s) x (recv_word count false)) (sym is)
    (grown_recv n s (recv_word old false) (recv_word count false) (grind (arith, nat_tests)) (omega arith))))
    (set_grown n window mid RECEIVED_COLUMN front
    (table_set n window w (recv_column s) (recv_word count false) t (omega arith)
    (form_recv n s (recv_word count false) within (omega arith)))
    (omega arith) (grown_free n RECEIVED_COLUMN (own mid RECEIVED_COLUMN) front
    (inl (omega arith, omega arith)) (omega (arith, left, rises))))
