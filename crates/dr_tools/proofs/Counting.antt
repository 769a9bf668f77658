-- Counting one run more.
use Rattle.std.specs.{List.position_or_len, Option.option_or}
use Rattle.std.proofs.Common.{◌≡◌, ◌⊎◌, ◌∙◌, inl, inr, refl, sym, ap, subst, ℕ, zero, suc, ◌+◌, ◌<◌, ◌≤◌, arith, Bool, true, false, add-zero, if◌then◌else◌, List, [], ◌∷◌, ◌++◌, All, AllPairs, Option, None, Some, bytes_eq, get_or, length, map, position, set}
use Rattle.std.proofs.lemmas.{Bool.{cases_Bool, cases_lt}, List.{get_or_append_left, get_or_push, length_push}}
use Rattle.std.proofs.lemmas.{Grind.common_steps, List.Quantifiers.{all_pairs_push, position-Some}}
use Rattle.std.proofs.lemmas.List.{Elements.{All-nil, All-cons, All-head, All-tail}, Sums.fails_before_first}
use Rattle.dr_entry.proofs.ListFacts.{same_line, other_line}
use Rattle.dr_tools.specs.{Outcomes.ComesTo, declared.sweeps.rows.Row.Row}
use Rattle.dr_tools.specs.Rows.{AreRows, HaveOutcomes, IsTally, count_in, first_in, first_seed, row_line, times, with_run}
use Rattle.dr_script.specs.declared.script.Script.{Script}

-- the row of a run more
abbrev plus : Row → Row
plus r = record r { count = r.count + 1 }

abbrev new : ℕ → List ℕ → Row
new seed line = record { line = line; count = 1; first = seed }

-- ---- where the row stands

pub run_at : (seed : ℕ) (line : List ℕ) (rows : List Row) (i : ℕ) (d : Row) → i < length rows
    → bytes_eq (get_or rows i d).line line ≡ true → ((k : ℕ) → k < i → bytes_eq (get_or rows k d).line line ≡ false)
    → with_run seed line rows ≡ set rows i (plus (get_or rows i d))
run_at seed line [] i d below is before = absurd (omega (arith, below))
run_at seed line (r ∷ rs) zero d below is before = rw is refl
run_at seed line (r ∷ rs) (suc i) d below is before =
    let rest = run_at seed line rs i d (omega (arith, below)) is (λ k less. before (suc k) (omega (arith, less))) in
    rw (before 0 (omega arith)) (ap (λ xs. r ∷ xs) rest)

pub run_new : (seed : ℕ) (line : List ℕ) (rows : List Row) (d : Row)
    → ((k : ℕ) → k < length rows → bytes_eq (get_or rows k d).line line ≡ false)
    → with_run seed line rows ≡ rows ++ new seed line ∷ []
run_new seed line [] d none = refl
run_new seed line (r ∷ rs) d none =
    let rest = run_new seed line rs d (λ k less. none (suc k) (omega (arith, less))) in
    rw (none 0 (omega arith)) (ap (λ xs. r ∷ xs) rest)

pub run_found : (seed : ℕ) (line : List ℕ) (rows : List Row) (i : ℕ) (d : Row)
    → position (λ (r : Row). bytes_eq r.line line) rows ≡ Some i
    → with_run seed line rows ≡ set rows i (plus (get_or rows i d))
run_found seed line rows i d is =
    let first = position-Some (λ (r : Row). bytes_eq r.line line) rows i d is in
    run_at seed line rows i d first.0 first.1 first.2

pub run_missing : (seed : ℕ) (line : List ℕ) (rows : List Row)
    → position (λ (r : Row). bytes_eq r.line line) rows ≡ None → with_run seed line rows ≡ rows ++ new seed line ∷ []
run_missing seed line rows is =
    let test : Row → Bool = λ r. bytes_eq r.line line in
    let all : length rows ≤ position_or_len test rows = grind (arith, common_steps) in
    run_new seed line rows (new seed line)
    (λ k less. fails_before_first test rows k (new seed line) (omega (arith, all, less)))

-- ---- what the rows tell

pub count_more : (seed : ℕ) (line l : List ℕ) (rows : List Row)
    → count_in l (with_run seed line rows) ≡ count_in l rows + (if bytes_eq line l then 1 else 0)
count_more seed line l [] = elim (cases_Bool (bytes_eq line l)) [
  | inl same ↦ rw same refl
  | inr other ↦ rw other refl
]
count_more seed line l (r ∷ rs) = elim (cases_Bool (bytes_eq r.line line)) [
  | inl same ↦
      let is : bytes_eq line l ≡ bytes_eq r.line l = ap (λ x. bytes_eq x l) (sym (same_line r.line line same)) in
      elim (cases_Bool (bytes_eq r.line l)) [
        | inl own ↦ rw (same, is, own) refl
        | inr other ↦ rw (same, is, other) (omega arith)
      ]
  | inr differs ↦ elim (cases_Bool (bytes_eq r.line l)) [
    | inl own ↦
        let not : bytes_eq line l ≡ false =
        ap (bytes_eq line) (sym (same_line r.line l own)) ∙ other_line r.line line differs in
        rw (differs, own, not) (omega arith)
    | inr other ↦ rw (differs, other) (count_more seed line l rs)
  ]
]

pub times_more : (line l : List ℕ) (ls : List (List ℕ))
    → times l (ls ++ line ∷ []) ≡ times l ls + (if bytes_eq line l then 1 else 0)
times_more line l [] = omega arith
times_more line l (x ∷ xs) = omega (arith, times_more line l xs)

pub first_more : (seed : ℕ) (line l : List ℕ) (rows : List Row) → first_in l (with_run seed line rows)
    ≡ option_or (first_in l rows) (if bytes_eq line l then Some seed else None)
first_more seed line l [] = refl
first_more seed line l (r ∷ rs) = elim (cases_Bool (bytes_eq r.line line)) [
  | inl same ↦
      let is : bytes_eq line l ≡ bytes_eq r.line l = ap (λ x. bytes_eq x l) (sym (same_line r.line line same)) in
      elim (cases_Bool (bytes_eq r.line l)) [
        | inl own ↦ rw (same, is, own) refl
        | inr other ↦ rw (same, is, other) (or_none (first_in l rs))
      ]
  | inr differs ↦ elim (cases_Bool (bytes_eq r.line l)) [
    | inl own ↦ rw (differs, own) refl
    | inr other ↦ rw (differs, other) (first_more seed line l rs)
  ]
]
  where
    or_none : (o : Option ℕ) → o ≡ option_or o None
    or_none None = refl
    or_none (Some n) = refl

pub first_seed_more : (from : ℕ) (line l : List ℕ) (ls : List (List ℕ)) → first_seed from l (ls ++ line ∷ [])
    ≡ option_or (first_seed from l ls) (if bytes_eq line l then Some (from + length ls) else None)
first_seed_more from line l [] = rw (add-zero) refl
first_seed_more from line l (x ∷ xs) = elim (cases_Bool (bytes_eq x l)) [
  | inl own ↦ rw own refl
  | inr other ↦
      let on : from + 1 + length xs ≡ from + length (x ∷ xs) = omega arith in
      rw other (first_seed_more (from + 1) line l xs
      ∙ ap (λ n. option_or (first_seed (from + 1) l xs) (if bytes_eq line l then Some n else None)) on)
]

-- the lines of the rows stay, or one more is behind them that was none of them
lines_more : (seed : ℕ) (line : List ℕ) (rows : List Row)
    → (map row_line (with_run seed line rows) ≡ map row_line rows)
    ⊎ ((map row_line (with_run seed line rows) ≡ map row_line rows ++ line ∷ [])
    × All (λ l. bytes_eq l line ≡ false) (map row_line rows))
lines_more seed line [] = inr (refl, All-nil (λ l. bytes_eq l line ≡ false))
lines_more seed line (r ∷ rs) = elim (cases_Bool (bytes_eq r.line line)) [
  | inl same ↦ inl (rw same refl)
  | inr differs ↦ elim (lines_more seed line rs) [
    | inl stay ↦ inl (rw differs (ap (λ ls. r.line ∷ ls) stay))
    | inr more ↦ inr (
      rw differs (ap (λ ls. r.line ∷ ls) more.0),
      All-cons (λ l. bytes_eq l line ≡ false) r.line (map row_line rs) differs more.1,
    )
  ]
]

once_more : (seed : ℕ) (line : List ℕ) (rows : List Row)
    → AllPairs (λ l other. bytes_eq l other ≡ false) (map row_line rows)
    → AllPairs (λ l other. bytes_eq l other ≡ false) (map row_line (with_run seed line rows))
once_more seed line rows once = elim (lines_more seed line rows) [
  | inl stay ↦ subst (AllPairs (λ l other. bytes_eq l other ≡ false)) (sym stay) once
  | inr more ↦ subst (AllPairs (λ l other. bytes_eq l other ≡ false)) (sym more.0)
      (all_pairs_push (λ l other. bytes_eq l other ≡ false) (map row_line rows) line once
      (λ k d within. more.1 k d within))
]

-- no count is greater than the number of runs
pub counts_within : (seed n : ℕ) (line : List ℕ) (rows : List Row) → All (λ (r : Row). r.count ≤ n) rows
    → All (λ (r : Row). r.count ≤ n + 1) (with_run seed line rows)
counts_within seed n line [] few =
    All-cons (λ (r : Row). r.count ≤ n + 1) (new seed line) [] (omega arith) (All-nil (λ (r : Row). r.count ≤ n + 1))
counts_within seed n line (r ∷ rs) few =
    let own = All-head (λ (r : Row). r.count ≤ n) r rs few in
    let rest = All-tail (λ (r : Row). r.count ≤ n) r rs few in
    elim (cases_Bool (bytes_eq r.line line)) [
      | inl same ↦
          let here : with_run seed line (r ∷ rs) ≡ plus r ∷ rs = rw same refl in
          subst (All (λ (r : Row). r.count ≤ n + 1)) (sym here) (All-cons (λ (r : Row). r.count ≤ n + 1)
          (plus r) rs (omega (arith, own)) (λ k d within. omega (arith, rest k d within)))
      | inr differs ↦
          let here : with_run seed line (r ∷ rs) ≡ r ∷ with_run seed line rs = rw differs refl in
          subst (All (λ (r : Row). r.count ≤ n + 1)) (sym here) (All-cons (λ (r : Row). r.count ≤ n + 1) r
          (with_run seed line rs) (omega (arith, own)) (counts_within seed n line rs rest))
    ]

-- ---- all together

rows_more : (from : ℕ) (line : List ℕ) (lines : List (List ℕ)) (rows : List Row) → AreRows from lines rows
    → AreRows from (lines ++ line ∷ []) (with_run (from + length lines) line rows)
rows_more from line lines rows are = record {
  once = once_more (from + length lines) line rows are.once;
  counts = λ l. count_more (from + length lines) line l rows
      ∙ ap (λ n. n + (if bytes_eq line l then 1 else 0)) (are.counts l) ∙ sym (times_more line l lines);
  firsts = λ l. first_more (from + length lines) line l rows
      ∙ ap (λ o. option_or o (if bytes_eq line l then Some (from + length lines) else None)) (are.firsts l)
      ∙ sym (first_seed_more from line l lines);
}

outcomes_more : (scripts : ℕ → Script) (late n : ℕ) (line : List ℕ) (lines : List (List ℕ))
    → HaveOutcomes scripts late n lines → ComesTo (scripts n) late line
    → HaveOutcomes scripts late (n + 1) (lines ++ line ∷ [])
outcomes_more scripts late n line lines have comes = record {
  many = length_push lines line ∙ ap (λ k. k + 1) have.many;
  each = λ i below. elim (cases_lt i n) [
    | inl old ↦ subst (ComesTo (scripts i) late)
        (sym (get_or_append_left lines (line ∷ []) [] i (omega (arith, old, have.many)))) (have.each i old)
    | inr last ↦
        let is : i ≡ n = omega (arith, last, below) in
        let at : get_or (lines ++ line ∷ []) i [] ≡ line = get_or_push lines line [] i (have.many ∙ sym is) in
        subst (ComesTo (scripts i) late) (sym at) (subst (λ k. ComesTo (scripts k) late line) (sym is) comes)
  ];
}

pub no_rows : (scripts : ℕ → Script) (late from : ℕ) → IsTally scripts late from 0 []
no_rows scripts late from = record {
  lines = [];
  have = record { many = refl; each = λ i below. absurd (omega (arith, below)) };
  are = record { once = λ i j d less within. absurd (omega (arith, within)); counts = λ l. refl; firsts = λ l. refl };
}

pub tally_more : (scripts : ℕ → Script) (late from n : ℕ) (line : List ℕ) (rows : List Row)
    → IsTally scripts late from n rows → ComesTo (scripts n) late line
    → IsTally scripts late from (n + 1) (with_run (from + n) line rows)
tally_more scripts late from n line rows tally comes = record {
  lines = tally.lines ++ line ∷ [];
  have = outcomes_more scripts late n line tally.lines tally.have comes;
  are = subst (λ k. AreRows from (tally.lines ++ line ∷ []) (with_run (from + k) line rows)) tally.have.many
      (rows_more from line tally.lines rows tally.are);
}
