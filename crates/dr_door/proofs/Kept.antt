-- What always holds between a door's member and its words stays so, whatever either does.
use Rattle.std.specs.Prelude.{All, IfSome, max, not, slice_set, None, Option, Some}
use Rattle.std.proofs.Common.{◌≡◌, ◌≢◌, ◌⊎◌, ◌∙◌, inl, inr, refl, sym, ap, subst, ℕ, ◌%◌, ◌<◌, ◌≤◌, ◌==◌, ◌&&◌, nat_le, nat_lt, Bool, true, false, List, ◌*◌, length, length-set, replicate, slice_index, if◌then◌else◌, arith}
use Rattle.std.proofs.lemmas.Bool.{and_from, cases_Bool, cases_eq, cases_lt, cond-false, eq-eqb, eqb-true, lt-leb, lt-ltb, not-true}
use Rattle.std.proofs.lemmas.List.{get_or-set_other, get_or-set_same, length-replicate, Elements.All-replicate}
use Rattle.dr_arrival.{specs.Tests.{grown, in_form}, proofs.Exact.{form_exact, growth_exact}}
use Rattle.dr_entry.specs.{Spelling.{IsValid, IsValidEntry}, declared.entry.{Entry.Entry, Item.TheVariants.Null}}
use Rattle.dr_entry.{specs.{declared.end.End.End, declared.record.Record.Record}, proofs.ListFacts.copy_at}
use Rattle.dr_history.specs.Members.{has}
use Rattle.dr_machine.{specs.declared.step.Step.Step, proofs.Looking.{is_pushing, is_looking}}
use Rattle.dr_member.{specs.Deeds.{is_act, is_append, is_give, is_take}, proofs.Deeds.{at_place, take_is, push_at}}
use Rattle.dr_program.specs.{Form.{HasForm, IsRunningMember}, Reading.{step_due, step_of_member}}
use Rattle.dr_program.specs.Replica.{Replica, begun_replica, first_entries_of, greatest, is_inside, looked, me, pushed}
use Rattle.dr_program.specs.Running.{Running, after_step, deed_of, next_deed, next_step, settled, took_letter}
use Rattle.dr_program.specs.{Sight.MaySee, Steps.{index_in, stepped}, declared.{deed.Deed.Deed, setup.Setup.Setup}}
use Rattle.dr_program.proofs.{Fixed.{Told, step_told, told, took_told}, Search.{settled_same, settled_took}}
use Rattle.dr_program.proofs.Replicas.{SentAlike, joined_sent, step_sent, SawAlike, joined_saw, step_saw, apart}
use Rattle.dr_program.proofs.RunningPrograms.{act_is, allowed, allowed_inside, deed_due, next_without_end}
use Rattle.dr_play.proofs.Deeds.{at_append}
use Rattle.dr_program.specs.declared.deed.Deed.TheVariants as deeds
use Rattle.dr_machine.specs.declared.step.Step.TheVariants as steps
use Rattle.dr_rows.{specs.Words.{begun, own, seen}, proofs.WordsLemmas.{IsFresh-begun, begun_sent}}
use Rattle.dr_rows.proofs.Grids.{seen_with, with_word-column, with_word-row, with_word-same}
use Rattle.dr_served.proofs.Appends.{valid_due}
use Rattle.dr_words.specs.{Columns.columns_of, Form.IsInForm, Grown.HasGrown, Layout.{word_index_of, words_of}}
use Rattle.dr_words.{specs.declared.column.TheConstants.LOGGED_COLUMN, proofs.Columns.{column_found, row_found}}
use Rattle.dr_words.proofs.{Forms.{form_zero, grown_zero}, Order.{HasGrown_refl, HasGrown_trans}}
use Rattle.dr_words.proofs.Places.{word_index_within}
use Rattle.dr_door.{specs.Coming.{copy_of, refusal, refusal_there, row_in}, proofs.Entries.{AreValid, step_valid}}
use Rattle.dr_door.{specs.Inside.{AreInPlace, HaveGrown, HaveSent, IsKept, IsShort}, proofs.Places.copy_found}
use Rattle.dr_door.{specs.{Letters.Suits, Lone.Lone}, proofs.Pushed.{sent_beside, sent_on, sent_pushed}}
use Rattle.dr_door.specs.declared.refused.Refused.TheVariants as why

-- ---- the member goes on

grown_on : (n w m : ℕ) (r q : Replica) (words : List ℕ) → ((i c : ℕ) → i ≢ m → SawAlike r q i c)
    → HaveGrown n w m r.view r.rows words → HaveGrown n w m q.view q.rows words
grown_on n w m r q words saw old i c row other column = by (saw i c other)
  where
    by : SawAlike r q i c → HasGrown n c (seen q.rows i c) (slice_index words (word_index_of n w q.view m i c))
    by (inl h) = subst (λ v. HasGrown n c (seen q.rows i c) (slice_index words (word_index_of n w v m i c))) (sym h.0)
        (subst (λ x. HasGrown n c x (slice_index words (word_index_of n w r.view m i c))) (sym h.1)
        (old i c row other column))
    by (inr zero) = subst (λ x. HasGrown n c x (slice_index words (word_index_of n w q.view m i c))) (sym zero)
        (grown_zero n c (slice_index words (word_index_of n w q.view m i c)))

kept_on : (r q : Replica) (words : List ℕ) → IsKept r words → told q ≡ told r
    → ((i c : ℕ) → i ≢ me r → SawAlike r q i c) → SentAlike r q → AreValid q → IsKept q words
kept_on r q words kept same saw sent valid = record {
  whole = kept.whole ∙ sym (ap (λ (t : Told). words_of t.roster t.window t.banks) same);
  places = subst (λ (t : Told). AreInPlace t.roster t.window t.number words) (sym same) kept.places;
  grown = subst (λ (t : Told). HaveGrown t.roster t.window t.number q.view q.rows words) (sym same)
      (grown_on r.roster r.window (me r) r q words saw kept.grown);
  sent = subst (λ (t : Told). HaveSent t.roster t.window t.number q.view q.rows words) (sym same)
      (sent_on r.roster r.window (me r) r q words sent kept.sent);
  entries = valid.0;
  items = valid.1;
}

-- at a step that is no look and no push
kept_step : (word : ℕ) (r : Running) (words : List ℕ) → IsRunningMember r → r.replica.end ≡ None
    → is_looking (next_step r) ≡ false → is_pushing (next_step r) ≡ false → IsKept r.replica words
    → IsKept (after_step word r).replica words
kept_step word r words m none plain stays kept =
    let s = next_step r in
    subst (λ q. IsKept q words) (sym (ap (λ (x : Running). x.replica) (settled_same word r)))
    (kept_on r.replica (stepped word r.replica s) words kept (step_told word r.replica s)
    (λ i c other. step_saw word r.replica s i c other plain) (step_sent word r.replica s stays)
    (step_valid word r.replica s m.replica (allowed r m none s refl) (kept.entries, kept.items)))

-- ---- a word of its own row is written, in its own copy or in another's

-- what doesn't speak of what it has pushed
record IsWritten (r : Replica) (words : List ℕ) : Type 0 where
  whole : length words ≡ words_of r.roster r.window r.banks
  places : AreInPlace r.roster r.window (me r) words
  grown : HaveGrown r.roster r.window (me r) r.view r.rows words

kept_written : (r : Replica) (words : List ℕ) (index word : ℕ) → me r < r.roster → IsKept r words
    → row_in r.roster r.window index ≡ me r → IsWritten r (slice_set words index word)
kept_written r words index word number kept row = record {
  whole = length-set words index word ∙ kept.whole;
  places = record {
    form = λ k copy other. subst (IsInForm r.roster (k % columns_of r.roster r.window)) (sym (away k other))
        (kept.places.form k copy other);
    rest = λ k copy other. away k other ∙ kept.places.rest k copy other;
  };
  grown = λ i c inside other column. subst (HasGrown r.roster c (seen r.rows i c))
      (sym (away (index_in r (me r) i c) (λ e. other (sym (row_found r.roster r.window r.view (me r) i c
      (index_in r (me r) i c) inside column refl) ∙ e)))) (kept.grown i c inside other column);
}
  where
    away : (k : ℕ) → row_in r.roster r.window k ≢ me r → slice_index (slice_set words index word) k ≡ slice_index words k
    away k other = get_or-set_other words index k word 0 (λ e. other (ap (row_in r.roster r.window) e ∙ row))

-- ---- a word comes

-- what a word has that is taken
pub record IsTaken (n w m : ℕ) (words : List ℕ) (index word : ℕ) : Type 0 where
  pub within : index < length words
  pub copy : copy_of n w index ≡ m
  pub row : row_in n w index ≢ m
  pub form : in_form n (index % columns_of n w) word ≡ true
  pub grows : slice_index words index < word → grown n (index % columns_of n w) (slice_index words index) word ≡ true

kept_came : (r : Replica) (words : List ℕ) (index word : ℕ) → me r < r.roster → IsKept r words
    → IsTaken r.roster r.window (me r) words index word
    → IsKept r (slice_set words index (max (slice_index words index) word))
kept_came r words index word number kept is = record {
  whole = length-set words index (max stands word) ∙ kept.whole;
  places = record {
    form = λ k copy other. form_by k copy other (cases_eq k index);
    rest = λ k copy other. away k (λ e. copy (ap (copy_of n w) e ∙ is.copy)) ∙ kept.places.rest k copy other;
  };
  grown = λ i c inside other column. grown_by i c column (kept.grown i c inside other column)
      (cases_eq (index_in r (me r) i c) index);
  sent = sent_beside r words index (max stands word) number is.copy kept.sent;
  entries = kept.entries;
  items = kept.items;
}
  where
    n : ℕ
    n = r.roster

    w : ℕ
    w = r.window

    stands : ℕ
    stands = slice_index words index

    away : (k : ℕ) → k ≢ index → slice_index (slice_set words index (max stands word)) k ≡ slice_index words k
    away k other = get_or-set_other words index k (max stands word) 0 other

    here : (k : ℕ) → k ≡ index → slice_index (slice_set words index (max stands word)) k ≡ max stands word
    here k e = ap (slice_index (slice_set words index (max stands word))) e
        ∙ get_or-set_same words index (max stands word) 0 is.within

    -- the greater one
    either : (P : ℕ → Type 0) → (stands < word → P word) → P stands → P (max stands word)
    either P news old = by (cases_lt stands word)
      where
        by : (stands < word) ⊎ (word ≤ stands) → P (max stands word)
        by (inl l) = subst P (omega (arith, l)) (news l)
        by (inr l) = subst P (omega (arith, l)) old

    form_by : (k : ℕ) → copy_of n w k ≡ me r → row_in n w k ≢ me r → (k ≡ index) ⊎ (k ≢ index)
        → IsInForm n (k % columns_of n w) (slice_index (slice_set words index (max stands word)) k)
    form_by k copy other (inl e) = subst (IsInForm n (k % columns_of n w)) (sym (here k e))
        (subst (λ x. IsInForm n (x % columns_of n w) (max stands word)) (sym e)
        (either (IsInForm n (index % columns_of n w)) (λ l. (form_exact n (index % columns_of n w) word).0 is.form)
        (kept.places.form index is.copy is.row)))
    form_by k copy other (inr apart) =
        subst (IsInForm n (k % columns_of n w)) (sym (away k apart)) (kept.places.form k copy other)

    grown_by : (i c : ℕ) → c < columns_of n w
        → HasGrown n c (seen r.rows i c) (slice_index words (index_in r (me r) i c))
        → (index_in r (me r) i c ≡ index) ⊎ (index_in r (me r) i c ≢ index)
        → HasGrown n c (seen r.rows i c) (slice_index (slice_set words index (max stands word)) (index_in r (me r) i c))
    grown_by i c column old (inl e) =
        let at : index % columns_of n w ≡ c = column_found n w r.view (me r) i c index column (sym e) in
        let before : HasGrown n c (seen r.rows i c) stands =
        subst (λ k. HasGrown n c (seen r.rows i c) (slice_index words k)) e old in
        subst (HasGrown n c (seen r.rows i c)) (sym (here (index_in r (me r) i c) e))
        (either (HasGrown n c (seen r.rows i c)) (λ l. HasGrown_trans n c (seen r.rows i c) stands word before
        (subst (λ d. HasGrown n d stands word) at ((growth_exact n (index % columns_of n w) stands word).0 (is.grows l))))
        before)
    grown_by i c column old (inr apart) =
        subst (HasGrown n c (seen r.rows i c)) (sym (away (index_in r (me r) i c) apart)) old

-- a word that isn't refused is taken
tests : (copy row form news : Bool) → (if not copy then Some why.Copy else (if row then Some why.Row
    else (if not form then Some why.Form else (if news then Some why.Growth else None)))) ≡ None
    → (copy ≡ true) × (row ≡ false) × (form ≡ true) × (news ≡ false)
tests true false true false none = (refl, refl, refl, refl)
tests copy row form news none = absurd (cc)

taken_there : (n w m : ℕ) (words : List ℕ) (index word : ℕ) → index < length words
    → refusal_there n w m index (slice_index words index) word ≡ None → IsTaken n w m words index word
taken_there n w m words index word within none = record {
  within = within;
  copy = eqb-true (copy_of n w index) m passed.0;
  row = λ e. absurd (cc (sym (eq-eqb (row_in n w index) m e) ∙ passed.1));
  form = passed.2;
  grows = λ l. by l (cases_Bool news);
}
  where
    stands : ℕ
    stands = slice_index words index

    news : Bool
    news = grown n (index % columns_of n w) stands word

    passed : ((copy_of n w index == m) ≡ true) × ((row_in n w index == m) ≡ false)
        × (in_form n (index % columns_of n w) word ≡ true) × ((nat_lt stands word && not news) ≡ false)
    passed = tests (copy_of n w index == m) (row_in n w index == m) (in_form n (index % columns_of n w) word)
        (nat_lt stands word && not news) none

    by : stands < word → (news ≡ true) ⊎ (news ≡ false) → news ≡ true
    by l (inl t) = t
    by l (inr f) =
        absurd (cc (sym (and_from (nat_lt stands word) (not news) (lt-ltb stands word l) (ap not f)) ∙ passed.3))

pub kept_coming : (d : Lone) (index word : ℕ) → HasForm d.member.replica → IsKept d.member.replica d.words → index < length d.words
    → refusal d index word ≡ None
    → IsKept d.member.replica (slice_set d.words index (max (slice_index d.words index) word))
kept_coming d index word form kept within none =
    let r = d.member.replica in
    let there = refusal_there r.roster r.window (me r) index (slice_index d.words index) word in
    kept_came r d.words index word form.number kept (taken_there r.roster r.window (me r) d.words index word within
    (sym (cond-false (nat_le (length d.words) index) (Some why.Place) there (lt-leb (length d.words) index within))
    ∙ none))

-- ---- a look

-- the member may see what stands there
pub kept_sees : (r : Running) (words : List ℕ) (index : ℕ) → IsRunningMember r → IsKept r.replica words
    → next_deed r ≡ deeds.Look index → MaySee r (step_of_member r) (slice_index words index)
kept_sees r words index m kept due =
    let q = r.replica in
    let at = at_place r index m due in
    let i = at.row in
    let c = at.column in
    let copy = copy_found q.roster q.window q.view (me q) i c index m.replica.number at.among at.within (sym at.place) in
    let row = row_found q.roster q.window q.view (me q) i c index at.among at.within (sym at.place) in
    let column = column_found q.roster q.window q.view (me q) i c index at.within (sym at.place) in
    subst (λ o. MaySee r (step_due r o) (slice_index words index)) (sym at.none)
    (subst (λ s. MaySee r (Some s) (slice_index words index)) (sym at.step) (record {
      form = subst (λ d. IsInForm q.roster d (slice_index words index)) column
          (kept.places.form index copy (λ e. at.other (sym row ∙ e)));
      grown = subst (λ k. HasGrown q.roster c (seen q.rows i c) (slice_index words k)) at.place
          (kept.grown i c at.among at.other at.within);
    }))

kept_looked : (r : Replica) (words : List ℕ) (i c : ℕ) → HasForm r → i < r.roster → c < columns_of r.roster r.window
    → IsKept r words → IsKept (looked r i c (slice_index words (index_in r (me r) i c))) words
kept_looked r words i c form row column kept = record {
  whole = kept.whole;
  places = kept.places;
  grown = λ j d inside other within. by j d (cases_eq j i) (cases_eq d c) (kept.grown j d inside other within);
  sent = kept.sent;
  entries = kept.entries;
  items = kept.items;
}
  where
    v : ℕ
    v = slice_index words (index_in r (me r) i c)

    q : Replica
    q = looked r i c v

    by : (j d : ℕ) → (j ≡ i) ⊎ (j ≢ i) → (d ≡ c) ⊎ (d ≢ c)
        → HasGrown r.roster d (seen r.rows j d) (slice_index words (index_in r (me r) j d))
        → HasGrown r.roster d (seen q.rows j d) (slice_index words (index_in r (me r) j d))
    by j d (inl same) (inl here) old = subst (λ (x : ℕ × ℕ). HasGrown r.roster x.1 (seen q.rows x.0 x.1)
        (slice_index words (index_in r (me r) x.0 x.1))) (λ z. (sym same z, sym here z))
        (subst (λ x. HasGrown r.roster c x v) (sym (with_word-same r.rows.members r.rows.columns r.rows.words i c v
        form.rows.rows (omega (arith, row, form.members)) (omega (arith, column, form.columns))))
        (HasGrown_refl r.roster c v))
    by j d (inr apart) o old = subst (λ x. HasGrown r.roster d x (slice_index words (index_in r (me r) j d)))
        (sym (ap (λ row. slice_index row d) (with_word-row r.rows.words i c v j apart))) old
    by j d (inl same) (inr apart) old = subst (λ x. HasGrown r.roster d x (slice_index words (index_in r (me r) j d)))
        (sym (with_word-column r.rows.words i c v j d apart)) old

pub kept_look : (r : Running) (words : List ℕ) (index : ℕ) → IsRunningMember r → IsKept r.replica words
    → next_deed r ≡ deeds.Look index → IsKept (after_step (slice_index words index) r).replica words
kept_look r words index m kept due =
    let at = at_place r index m due in
    let i = at.row in
    let c = at.column in
    subst (λ q. IsKept q words) (sym (ap (λ (x : Running). x.replica) (settled_same (slice_index words index) r)))
    (subst (λ s. IsKept (stepped (slice_index words index) r.replica s) words) (sym at.step)
    (subst (λ k. IsKept (looked r.replica i c (slice_index words k)) words) at.place
    (kept_looked r.replica words i c m.replica at.among at.within kept)))

-- ---- a letter

pub kept_asked : (letter : Option (List Entry)) (r : Running) (words : List ℕ) → IsRunningMember r
    → IsKept r.replica words → is_take (next_deed r) ≡ true → IfSome letter (Suits r.replica)
    → IsKept (settled (took_letter letter r)).replica words
kept_asked letter r words m kept due suits = subst (λ q. IsKept q words)
    (sym (ap (λ (x : Running). x.replica) (settled_took letter r)))
    (kept_on r.replica (took_letter letter r).replica words kept (took_told letter r) (saw letter) (sent letter suits)
    (all letter suits))
  where
    -- it has the first view still
    first : r.replica.view ≡ 0
    first =
        let asks = deed_due is_take (λ end. refl) r due in
        (m.replica.outside (not-true (is_inside r.replica)
        (allowed_inside r m asks.0 steps.Join (take_is r (next_step r) asks.1)))).first

    saw : (o : Option (List Entry)) → (i c : ℕ) → i ≢ me r.replica → SawAlike r.replica (took_letter o r).replica i c
    saw None i c other = inl (refl, refl)
    saw (Some es) i c other = joined_saw r.replica es i c other

    sent : (o : Option (List Entry)) → IfSome o (Suits r.replica) → SentAlike r.replica (took_letter o r).replica
    sent None s = inl (refl, λ j c. refl)
    sent (Some es) s = joined_sent r.replica es (omega (arith, first, s.fits.later))

    all : (o : Option (List Entry)) → IfSome o (Suits r.replica) → AreValid (took_letter o r).replica
    all None s = (kept.entries, kept.items)
    all (Some es) s = (s.valid, All-replicate IsShort (greatest r.replica.totals * r.replica.roster) Null tt)

-- ---- the beginning

pub kept_begun : (s : Setup) → HasForm (begun_replica s) → All IsValidEntry (first_entries_of s)
    → IsKept (begun_replica s) (replicate (words_of s.shape.members s.shape.window s.shape.banks) 0)
kept_begun s form valid = record {
  whole = length-replicate {A = ℕ} size 0;
  places = record {
    form = λ k copy other. subst (IsInForm n (k % columns_of n s.shape.window)) (sym (copy_at size 0 k))
        (form_zero n (k % columns_of n s.shape.window) (omega (arith, form.number)));
    rest = λ k copy other. copy_at size 0 k;
  };
  grown = λ i c inside other column. subst (λ x. HasGrown n c x
      (slice_index (replicate size 0) (word_index_of n s.shape.window 0 s.me i c))) (sym (none i c other))
      (grown_zero n c (slice_index (replicate size 0) (word_index_of n s.shape.window 0 s.me i c)));
  sent = λ v j c later inside other column. copy_at size 0 (word_index_of n s.shape.window v j s.me c)
      ∙ sym (never (v == 0) (begun_sent n (columns_of n s.shape.window) s.me j c));
  entries = valid;
  items = All-replicate IsShort (greatest s.totals * n) Null tt;
}
  where
    never : (b : Bool) {x : ℕ} → x ≡ 0 → (if b then x else 0) ≡ 0
    never true zero = zero
    never false zero = refl

    n : ℕ
    n = s.shape.members

    size : ℕ
    size = words_of s.shape.members s.shape.window s.shape.banks

    none : (i c : ℕ) → i ≢ s.me → seen (begun_replica s).rows i c ≡ 0
    none i c other = seen_with (begun n (columns_of n s.shape.window) s.me) LOGGED_COLUMN
        (if has s.members s.me then length (first_entries_of s) else 0) i c other
        ∙ (IsFresh-begun n (columns_of n s.shape.window) s.me).zero i c

-- ---- a record that is due

pub due_valid : (r : Running) (words : List ℕ) (what : Record) → IsRunningMember r → IsKept r.replica words
    → next_deed r ≡ deeds.Append what → IsValid what
due_valid r words what m kept due =
    let at = at_append r what m due in subst IsValid (sym at.1) (valid_due r (next_step r) kept.entries at.0.due)

-- ---- deeds that are done to a door

kept_deed : (kind : Deed → Bool) → ((end : End) → kind (deeds.Rest end) ≡ false)
    → ((index : ℕ) → kind (deeds.Look index) ≡ false) → ((index word : ℕ) → kind (deeds.Push index word) ≡ false)
    → (r : Running) (words : List ℕ) → IsRunningMember r → IsKept r.replica words → kind (next_deed r) ≡ true
    → IsKept (after_step 0 r).replica words
kept_deed kind rests looks pushes r words m kept is =
    let due = deed_due kind rests r is in
    kept_step 0 r words m due.0 (plain (next_step r) due.1) (stays (next_step r) due.1) kept
  where
    stays : (s : Step) → kind (deed_of r s) ≡ true → is_pushing s ≡ false
    stays (steps.Push j c) e = absurd (cc (pushes (index_in r.replica j (me r.replica) c) (own r.replica.rows c), e))
    stays s e = refl

    plain : (s : Step) → kind (deed_of r s) ≡ true → is_looking s ≡ false
    plain (steps.Look i c) e = absurd (cc (looks (index_in r.replica (me r.replica) i c), e))
    plain s e = refl

pub kept_append : (r : Running) (words : List ℕ) → IsRunningMember r → IsKept r.replica words
    → is_append (next_deed r) ≡ true → IsKept (after_step 0 r).replica words
kept_append r words m kept is = kept_deed is_append (λ end. refl) (λ index. refl) (λ index word. refl) r words m kept is

pub kept_give : (r : Running) (words : List ℕ) → IsRunningMember r → IsKept r.replica words
    → is_give (next_deed r) ≡ true → IsKept (after_step 0 r).replica words
kept_give r words m kept is = kept_deed is_give (λ end. refl) (λ index. refl) (λ index word. refl) r words m kept is

pub kept_act : (r : Running) (words : List ℕ) (index word : ℕ) → IsRunningMember r → IsKept r.replica words
    → next_deed r ≡ deeds.Act index word → IsKept (after_step 0 r).replica (slice_set words index word)
kept_act r words index word m kept due =
    let q = r.replica in
    let number = m.replica.number in
    let none = (deed_due is_act (λ end. refl) r (ap is_act due)).0 in
    let at = act_is r (next_step r) index word (sym (next_without_end r none) ∙ due) in
    let row = row_found q.roster q.window q.view (me q) (me q) 0 index number (omega arith) (sym at) in
    let copy = copy_found q.roster q.window q.view (me q) (me q) 0 index number number (omega arith) (sym at) in
    let written = kept_written q words index word number kept row in
    kept_deed is_act (λ end. refl) (λ i. refl) (λ i w. refl) r (slice_set words index word) m (record {
      whole = written.whole;
      places = written.places;
      grown = written.grown;
      sent = sent_beside q words index word number copy kept.sent;
      entries = kept.entries;
      items = kept.items;
    }) (ap is_act due)

pub kept_push : (r : Running) (words : List ℕ) (index word : ℕ) → IsRunningMember r → IsKept r.replica words
    → next_deed r ≡ deeds.Push index word → IsKept (after_step 0 r).replica (slice_set words index word)
kept_push r words index word m kept due =
    let q = r.replica in
    let at = push_at r index word m due in
    let row = row_found q.roster q.window q.view at.to (me q) at.column index m.replica.number at.within (sym at.place) in
    let written = kept_written q words index word m.replica.number kept row in
    let inside : index_in q at.to (me q) at.column < length words = omega (
      arith,
      kept.whole,
      word_index_within q.roster q.window q.banks q.view at.to (me q) at.column m.replica.bank at.among
          m.replica.number at.within,
    ) in
    subst (λ x. IsKept x (slice_set words index word))
    (sym (ap (λ (x : Running). x.replica) (settled_same 0 r) ∙ ap (stepped 0 q) at.step)) (record {
      whole = written.whole;
      places = written.places;
      grown = written.grown;
      sent = subst (λ ws. HaveSent q.roster q.window (me q) q.view (pushed q at.to at.column).rows ws)
          (λ z. slice_set words (at.place z) (at.own z))
          (sent_pushed q words at.to at.column m.replica at.among at.within inside kept.sent);
      entries = kept.entries;
      items = kept.items;
    })
