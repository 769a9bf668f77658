-- The records and the bytes that are appended behind one gate, and the calls that write them.
use Rattle.std.proofs.Common.{◌≡◌, ℕ, ◌+◌, ◌<◌, List, [], ◌∷◌, ◌++◌, length, get_or, refl, sym, ap, ◌∙◌, append_assoc, arith, suc}
use Rattle.dr_entry.specs.{Spelling.{IsValidEntry, FitsEntry, spelling}, declared.entry.Entry.Entry}
use Rattle.dr_entry.specs.declared.record.Record.{Record}
use Rattle.dr_disk.specs.Calls.{Call}
use Rattle.dr_log.specs.{Grouping.{gate_of, opening, writes}, Standing.as_records}
use Rattle.dr_log_bytes.specs.Grammar.{AreSpelled, blocks}

-- ---- the records and the bytes of a group

-- what stands behind the gate of a group
abbrev pub bytes_of : List Record → List ℕ
bytes_of [] = []
bytes_of (r ∷ rs) = (spelling r ++ gate_of rs ∷ []) ++ bytes_of rs

-- with that gate these are its blocks, and a closed gate
pub bytes_are : (rs : List Record) → gate_of rs ∷ bytes_of rs ≡ blocks rs ++ 0 ∷ []
bytes_are [] = refl
bytes_are (r ∷ rs) = ap (λ (l : List ℕ). 1 ∷ l) (append_assoc (spelling r) (gate_of rs ∷ []) (bytes_of rs)
    ∙ ap (λ (l : List ℕ). spelling r ++ l) (bytes_are rs) ∙ sym (append_assoc (spelling r) (blocks rs) (0 ∷ [])))

-- ---- writes that follow one another

-- ---- the code that makes the calls

-- what is left to write, and the calls that open the gate then
abbrev pub left_calls : ℕ → ℕ → List Entry → Entry → List Call
left_calls gate at es last = writes at (as_records (es ++ last ∷ [])) ++ opening gate

-- valid entries that fit are spelled
pub are_spelled : (es : List Entry) → ((k : ℕ) (d : Entry) → k < length es → IsValidEntry (get_or es k d))
    → ((k : ℕ) (d : Entry) → k < length es → FitsEntry (get_or es k d)) → AreSpelled (as_records es)
are_spelled [] valid fits = tt
are_spelled (e ∷ es) valid fits = (
  (valid 0 e (omega arith), fits 0 e (omega arith)),
  are_spelled es (λ k d h. valid (suc k) d (omega (arith, h))) (λ k d h. fits (suc k) d (omega (arith, h))),
)

pub spelled_more : (es : List Entry) (last : Entry) → AreSpelled (as_records es) → IsValidEntry last
    → FitsEntry last → AreSpelled (as_records (es ++ last ∷ []))
spelled_more [] last spelled valid fits = ((valid, fits), tt)
spelled_more (e ∷ es) last spelled valid fits = (spelled.0, spelled_more es last spelled.1 valid fits)

pub some_records : (es : List Entry) (last : Entry) → 0 < length (as_records (es ++ last ∷ []))
some_records [] last = omega arith
some_records (e ∷ es) last = omega arith
