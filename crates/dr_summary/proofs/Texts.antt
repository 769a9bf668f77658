-- Pieces of the text of a summary.
use Rattle.std.{specs.List.range_with_len, proofs.lemmas.List.FromFn.map-range_with_len_more}
use Rattle.std.proofs.Common.{◌≡◌, refl, ap, ◌∙◌, ℕ, ◌+◌, ◌-◌, ◌≤◌, List, [], ◌∷◌, ◌++◌, arith, map, append_assoc, max, Result, Ok, Err, OnOk}
use Rattle.dr_entry.specs.declared.{end.{AgeEnd.AgeEnd, MemberEnd.MemberEnd}, entry.Entry.Entry}
use Rattle.dr_script.specs.declared.script.{Fault.Fault, Script.Script}
use Rattle.dr_summary.specs.{Histories.longest, Summary.notes_text}
use Rattle.dr_summary.specs.Notes.{ends_text, faults_text, names_behind, undelivered, undelivered_text}

-- one name more
pub names_more : (s had index : ℕ) → had ≤ index
    → names_behind s had (index + 1) ≡ names_behind s had index ++ (s, index) ∷ []
names_more s had index l =
    let e : (index + 1) - had ≡ (index - had) + 1 = omega (arith, l) in
    let f : had + (index - had) ≡ index = omega (arith, l) in
    ap (λ (n : ℕ). map (λ i. (s, i)) (range_with_len had n)) e
    ∙ map-range_with_len_more (λ i. (s, i)) had (index - had) index f

-- a list of names that goes on by one name
pub names_pushed : (s had index : ℕ) (old now new : List (ℕ × ℕ)) → had ≤ index → now ≡ old
    ++ names_behind s had index → new ≡ now ++ (s, index) ∷ [] → new ≡ old ++ names_behind s had (index + 1)
names_pushed s had index old now new l before after = rw (after, before, names_more s had index l, append_assoc) refl

-- names up to a number that isn't below the last one are all
pub names_as_far : (s had index count : ℕ) → index ≤ max had count → count ≤ index
    → names_behind s had index ≡ names_behind s had count
names_as_far s had index count within end = ap (λ (n : ℕ). map (λ i. (s, i)) (range_with_len had n)) same
  where
    same : index - had ≡ count - had
    same = omega (arith, within, end)

-- the lines below the table of an age, one kind after the other
pub notes_pushed : {T E : Type 0} (r : Result T E) (script : Script) (nth : ℕ) (a : AgeEnd) (h : List Entry)
    (fs : List Fault) (ms : List MemberEnd) (old x y new : List ℕ) → h ≡ longest a.members → fs ≡ script.faults
    → ms ≡ a.members → x ≡ old ++ undelivered_text (undelivered script h) → y ≡ x ++ faults_text fs nth ms
    → OnOk r (new ≡ y ++ ends_text script.turns ms) → OnOk r (new ≡ old ++ notes_text script nth a)
unfolding notes_text
notes_pushed (Ok value) script nth a h fs ms old x y new is faults members first second third = third
    ∙ ap (λ l. l ++ ends_text script.turns ms) second
    ∙ ap (λ l. (l ++ faults_text fs nth ms) ++ ends_text script.turns ms) first ∙ append_assoc (old
    ++ undelivered_text (undelivered script h)) (faults_text fs nth ms) (ends_text script.turns ms) ∙ append_assoc old
    (undelivered_text (undelivered script h)) (faults_text fs nth ms ++ ends_text script.turns ms) ∙ ap (λ l. old
    ++ (undelivered_text (undelivered script l) ++ (faults_text fs nth ms ++ ends_text script.turns ms))) is
    ∙ ap (λ l. old ++ (undelivered_text (undelivered script (longest a.members))
    ++ (faults_text l nth ms ++ ends_text script.turns ms))) faults
    ∙ ap (λ l. old ++ (undelivered_text (undelivered script (longest a.members))
    ++ (faults_text script.faults nth l ++ ends_text script.turns l))) members
notes_pushed (Err fault) script nth a h fs ms old x y new is faults members first second third = tt
