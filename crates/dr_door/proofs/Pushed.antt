-- What a member pushed last stands in others' copies, whatever it does.
use Rattle.std.{specs.Prelude.{if◌then◌else◌}, proofs.lemmas.Bool.{cases_eq, cond-false, cond-true, eq-eqb, ne_eqb}}
use Rattle.std.proofs.Common.{◌≡◌, ◌≢◌, ◌⊎◌, ◌∙◌, inl, inr, refl, sym, ap, subst, ℕ, ◌<◌, ◌≤◌, ◌==◌, Bool, true, false, List, length, slice_index, slice_set, arith}
use Rattle.std.proofs.lemmas.List.{get_or-set_other, get_or-set_same}
use Rattle.dr_machine.specs.declared.step.Step.TheVariants.{Look}
use Rattle.dr_program.specs.{Form.HasForm, Replica.{Replica, looked, me, pushed}, Steps.index_in}
use Rattle.dr_program.proofs.Replicas.{SentAlike}
use Rattle.dr_rows.specs.Words.{Words, last_pushed, own, seen}
use Rattle.dr_rows.proofs.Grids.{with_word-column, with_word-row, with_word-same}
use Rattle.dr_words.{specs.{Columns.columns_of, Layout.word_index_of}, proofs.Places.word_index_one_to_one}
use Rattle.dr_door.{specs.{Coming.copy_of, Inside.HaveSent}, proofs.Places.copy_found}

pub sent_on : (n w m : ℕ) (r q : Replica) (words : List ℕ) → SentAlike r q
    → HaveSent n w m r.view r.rows words → HaveSent n w m q.view q.rows words
sent_on n w m r q words (inl h) old v j c later within other column =
    old v j c (omega (arith, h.0, later)) within other column ∙ (λ z. if v == sym h.0 z then sym (h.1 j c) z else 0)
sent_on n w m r q words (inr h) old v j c later within other column =
    old v j c (omega (arith, h.0, later)) within other column
    ∙ cond-false (v == r.view) (last_pushed r.rows j c) 0 (ne_eqb v r.view (λ e. absurd (omega (arith, e, h.0, later))))
    ∙ sym (none (v == q.view))
  where
    none : (b : Bool) → (if b then last_pushed q.rows j c else 0) ≡ 0
    none true = h.1 j c
    none false = refl

-- a word that is written in its own copy
pub sent_beside : (r : Replica) (words : List ℕ) (index word : ℕ) → me r < r.roster
    → copy_of r.roster r.window index ≡ me r → HaveSent r.roster r.window (me r) r.view r.rows words
    → HaveSent r.roster r.window (me r) r.view r.rows (slice_set words index word)
sent_beside r words index word number copy old v j c later within other column =
    get_or-set_other words index (word_index_of r.roster r.window v j (me r) c) word 0 (λ e. other
    (sym (copy_found r.roster r.window v j (me r) c (word_index_of r.roster r.window v j (me r) c) within number column
    refl) ∙ ap (copy_of r.roster r.window) e ∙ copy)) ∙ old v j c later within other column

-- a push
pub sent_pushed : (r : Replica) (words : List ℕ) (j c : ℕ) → HasForm r → j < r.roster
    → c < columns_of r.roster r.window → index_in r j (me r) c < length words
    → HaveSent r.roster r.window (me r) r.view r.rows words
    → HaveSent r.roster r.window (me r) r.view (pushed r j c).rows
    (slice_set words (index_in r j (me r) c) (own r.rows c))
sent_pushed r words j c form row column inside old v k d later within other place =
    by (cases_eq (word_index_of n w v k (me r) d) (index_in r j (me r) c)) (cases_eq v r.view)
  where
    n : ℕ
    n = r.roster

    w : ℕ
    w = r.window

    q : Replica
    q = pushed r j c

    new : List ℕ
    new = slice_set words (index_in r j (me r) c) (own r.rows c)

    before : slice_index words (word_index_of n w v k (me r) d) ≡ (if v == r.view then last_pushed r.rows k d else 0)
    before = old v k d later within other place

    kept : (k ≡ j) ⊎ (k ≢ j) → (d ≡ c) ⊎ (d ≢ c) → v ≡ r.view
        → word_index_of n w v k (me r) d ≢ index_in r j (me r) c → last_pushed q.rows k d ≡ last_pushed r.rows k d
    kept (inr apart) o here away = ap (λ row. slice_index row d) (with_word-row r.rows.sent j c (own r.rows c) k apart)
    kept (inl same) (inr apart) here away = with_word-column r.rows.sent j c (own r.rows c) k d apart
    kept (inl same) (inl too) here away = absurd (away (λ z. word_index_of n w (here z) (same z) (me r) (too z)))

    by : (word_index_of n w v k (me r) d ≡ index_in r j (me r) c) ⊎ (word_index_of n w v k (me r) d
        ≢ index_in r j (me r) c) → (v ≡ r.view) ⊎ (v ≢ r.view)
        → slice_index new (word_index_of n w v k (me r) d) ≡ (if v == r.view then last_pushed q.rows k d else 0)
    by (inl e) o =
        let at = word_index_one_to_one n w r.view j (me r) c v k (me r) d row form.number column within form.number
        place e in
        ap (slice_index new) e ∙ get_or-set_same words (index_in r j (me r) c) (own r.rows c) 0 inside
        ∙ sym (with_word-same r.rows.members r.rows.columns r.rows.sent j c (own r.rows c) form.rows.pushes
        (omega (arith, row, form.members)) (omega (arith, column, form.columns)))
        ∙ (λ z. last_pushed q.rows (sym at.1 z) (sym at.3 z))
        ∙ sym (cond-true (v == r.view) (last_pushed q.rows k d) 0 (eq-eqb v r.view at.0))
    by (inr away) (inl here) = get_or-set_other words (index_in r j (me r) c) (word_index_of n w v k (me r) d)
        (own r.rows c) 0 away ∙ before ∙ cond-true (v == r.view) (last_pushed r.rows k d) 0 (eq-eqb v r.view here)
        ∙ sym (kept (cases_eq k j) (cases_eq d c) here away)
        ∙ sym (cond-true (v == r.view) (last_pushed q.rows k d) 0 (eq-eqb v r.view here))
    by (inr away) (inr apart) = get_or-set_other words (index_in r j (me r) c) (word_index_of n w v k (me r) d)
        (own r.rows c) 0 away ∙ before ∙ cond-false (v == r.view) (last_pushed r.rows k d) 0 (ne_eqb v r.view apart)
        ∙ sym (cond-false (v == r.view) (last_pushed q.rows k d) 0 (ne_eqb v r.view apart))
