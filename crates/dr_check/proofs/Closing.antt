-- Lines that may come up to a last one are those of a report.
use Rattle.std.{specs.{List.flat_map, Prelude.{if◌then◌else◌}}, proofs.lemmas.{Bool.{false≢true}, List.length-map}}
use Rattle.std.proofs.Common.{◌≡◌, ◌⊎◌, inl, inr, refl, sym, ap, ◌∙◌, subst, ℕ, suc, ◌+◌, ◌-◌, ◌<◌, ◌≤◌, arith, Bool, true, false, List, [], ◌∷◌, ◌++◌, length, map, drop, All, Some, append_assoc, length-append}
use Rattle.std.proofs.lemmas.{List.Elements.{All-nil, All-cons, All-head, All-tail}, Option.{none-some, same_Some}}
use Rattle.dr_entry.{specs.declared.entry.Entry.Entry, proofs.Entries.{drop_start, drop_none, empty}}
use Rattle.dr_check.specs.Course.{Read, course_after, with_start, put_line, read_from}
use Rattle.dr_check.specs.Grammar.{AgesFrom, HasStart, IsWholeAge, MembersFrom, age_lines, member_lines, members_lines}
use Rattle.dr_check.specs.declared.{course.Course.Course, report.{ReportAge.ReportAge, ReportMember.ReportMember}}
use Rattle.dr_check.specs.declared.line.Line.{Line, TheVariants.{Age, Present, Absent, Entry as EntryLine, Last}}
use Rattle.dr_check.proofs.Accepting.{Comes, absent_comes, after_first, member_comes, next_comes, nothing_more}

-- ---- members whose histories lack the start

abbrev pub entry_lines : List Entry → List Line
entry_lines es = map (λ e. EntryLine e) es

abbrev pub own_head : ℕ → ℕ → ReportMember → Line
own_head start number m =
    if m.present then Present number (start + length m.history) m.logged m.durable else Absent number

abbrev pub own_lines : ℕ → ℕ → List ReportMember → List Line
own_lines start number [] = []
own_lines start number (m ∷ ms) = (own_head start number m ∷ entry_lines m.history) ++ own_lines start (number + 1) ms

abbrev pub IsOwn : ReportMember → Type 0
IsOwn m = (m.present ≡ true) ⊎ ((m.present ≡ false) × (m.history ≡ []) × (m.logged ≡ 0) × (m.durable ≡ 0))

abbrev pub OwnFrom : ℕ → List ReportMember → Type 0
OwnFrom line [] = Unit {0}
OwnFrom line (m ∷ ms) = (m.line ≡ line) × OwnFrom (line + (1 + length m.history)) ms

behind_there : (start : List Entry) (m : ReportMember) → m.present ≡ true
    → with_start start m ≡ record m { history = start ++ m.history }
behind_there start m there = rw there refl

behind_absent : (start : List Entry) (m : ReportMember) → m.present ≡ false → with_start start m ≡ m
behind_absent start m absent = rw absent refl

-- with the start in front a member is whole
whole_behind : (start : List Entry) (m : ReportMember) → IsOwn m → HasStart start (with_start start m)
whole_behind start m (inl there) =
    subst (HasStart start) (sym (behind_there start m there)) (inl (there, (m.history, refl)))
whole_behind start m (inr absent) = subst (HasStart start) (sym (behind_absent start m absent.0)) (inr absent)

lines_behind : (start : List Entry) (number : ℕ) (m : ReportMember) → IsOwn m
    → member_lines (length start) (number, with_start start m)
    ≡ own_head (length start) number m ∷ entry_lines m.history
lines_behind start number m (inl there) = ap (λ b. member_lines (length start) (number, b))
    (behind_there start m there) ∙ rw (there, length-append, drop_start) refl
lines_behind start number m (inr absent) = ap (λ b. member_lines (length start) (number, b))
    (behind_absent start m absent.0) ∙ rw (absent.0, absent.1, drop_none) refl

line_behind : (start : List Entry) (m : ReportMember) → (with_start start m).line ≡ m.line
line_behind start m = by m.present refl
  where
    by : (b : Bool) → m.present ≡ b → (with_start start m).line ≡ m.line
    by true there = ap (λ (b : ReportMember). b.line) (behind_there start m there)
    by false absent = ap (λ (b : ReportMember). b.line) (behind_absent start m absent)

length_behind : (start : List Entry) (m : ReportMember) → IsOwn m
    → length (drop (length start) (with_start start m).history) ≡ length m.history
length_behind start m (inl there) = ap (λ (b : ReportMember). length (drop (length start) b.history))
    (behind_there start m there) ∙ ap length (drop_start start m.history)
length_behind start m (inr absent) = ap (λ (b : ReportMember). length (drop (length start) b.history))
    (behind_absent start m absent.0) ∙ rw (absent.1, drop_none) refl

pub all_whole : (start : List Entry) (ms : List ReportMember) → All IsOwn ms
    → All (HasStart start) (map (with_start start) ms)
all_whole start [] own = All-nil (HasStart start)
all_whole start (m ∷ ms) own = All-cons (HasStart start) (with_start start m) (map (with_start start) ms)
    (whole_behind start m (All-head IsOwn m ms own)) (all_whole start ms (All-tail IsOwn m ms own))

all_lines : (start : List Entry) (number : ℕ) (ms : List ReportMember) → All IsOwn ms
    → members_lines (length start) number (map (with_start start) ms) ≡ own_lines (length start) number ms
all_lines start number [] own = refl
all_lines start number (m ∷ ms) own = ap (λ ls. ls ++ members_lines (length start)
    (number + 1) (map (with_start start) ms)) (lines_behind start number m (All-head IsOwn m ms own))
    ∙ ap (λ ls. (own_head (length start) number m ∷ entry_lines m.history) ++ ls)
    (all_lines start (number + 1) ms (All-tail IsOwn m ms own))

all_from : (start : List Entry) (line : ℕ) (ms : List ReportMember) → All IsOwn ms → OwnFrom line ms
    → MembersFrom (length start) line (map (with_start start) ms)
all_from start line [] own from = tt
all_from start line (m ∷ ms) own from = (
  line_behind start m ∙ from.0,
  subst (λ (n : ℕ). MembersFrom (length start) (line + (1 + n)) (map (with_start start) ms))
      (sym (length_behind start m (All-head IsOwn m ms own)))
      (all_from start (line + (1 + length m.history)) ms (All-tail IsOwn m ms own) from.1),
)

length_own : (start number : ℕ) (m : ReportMember) (ms : List ReportMember) → length (own_lines start number (m ∷ ms))
    ≡ (1 + length m.history) + length (own_lines start (number + 1) ms)
length_own start number m ms = omega (
  arith,
  length-append (own_head start number m ∷ entry_lines m.history) (own_lines start (number + 1) ms),
  length-map m.history (λ e. EntryLine e),
)

-- ---- what was read closes what was to come

pub record Closes (members : ℕ) (c : Course) (n : ℕ) (ls : List Line) (t : Read) : Type 0 where
  pub many : length t.entries ≡ c.left
  pub all : c.member + length t.members ≡ members
  pub lines : ls ≡ entry_lines t.entries
      ++ (own_lines c.start c.member t.members ++ (flat_map age_lines t.ages ++ Last ∷ []))
  pub own : All IsOwn t.members
  pub own_from : OwnFrom (n + length t.entries) t.members
  pub whole : All (IsWholeAge members) t.ages
  pub from : AgesFrom (n + (length t.entries + length (own_lines c.start c.member t.members))) t.ages

closes_entry : (members : ℕ) (c : Course) (n : ℕ) (e : Entry) (ls : List Line) (t : Read) → 0 < c.left
    → Closes members (record c { left = c.left - 1 }) (suc n) ls t
    → Closes members c n (EntryLine e ∷ ls) (put_line n (EntryLine e) t)
closes_entry members c n e ls t some rest = record {
  many = omega (arith, some, rest.many);
  all = rest.all;
  lines = ap (λ xs. EntryLine e ∷ xs) rest.lines;
  own = rest.own;
  own_from = let next : suc n + length t.entries ≡ n + suc (length t.entries) = omega arith in
      subst (λ (k : ℕ). OwnFrom k t.members) next rest.own_from;
  whole = rest.whole;
  from =
      let k = length (own_lines c.start c.member t.members) in
      let next : suc n + (length t.entries + k) ≡ n + (suc (length t.entries) + k) = omega arith in
      subst (λ (k : ℕ). AgesFrom k t.ages) next rest.from;
}

-- a member more, with these entries
closes_member : (members : ℕ) (c : Course) (n : ℕ) (l : Line) (ls : List Line) (t : Read) (m : ReportMember)
    (left : ℕ) → c.left ≡ 0 → m.line ≡ n → m.history ≡ t.entries → IsOwn m → l ≡ own_head c.start c.member m
    → Closes members (record c { left = left; member = c.member + 1 }) (suc n) ls t
    → Closes members c n (l ∷ ls) (record t { entries = []; members = m ∷ t.members })
closes_member members c n l ls t m left none at history own is rest = record {
  many = sym none;
  all = omega (arith, rest.all);
  lines = whole_lines;
  own = All-cons IsOwn m t.members own rest.own;
  own_from = (
    omega (arith, at),
    (let next : suc n + length t.entries ≡ (n + 0) + (1 + length m.history) = omega (arith, ap length history) in
        subst (λ (k : ℕ). OwnFrom k t.members) next rest.own_from),
  );
  whole = rest.whole;
  from =
      let next : suc n + (length t.entries + length (own_lines c.start (c.member + 1) t.members))
      ≡ n + (0 + length (own_lines c.start c.member (m ∷ t.members))) =
      omega (arith, ap length history, length_own c.start c.member m t.members) in
      subst (λ (k : ℕ). AgesFrom k t.ages) next rest.from;
}
  where
    ages : List Line
    ages = flat_map age_lines t.ages ++ Last ∷ []

    others : List Line
    others = own_lines c.start (c.member + 1) t.members

    whole_lines : l ∷ ls ≡ own_lines c.start c.member (m ∷ t.members) ++ ages
    whole_lines = ap (λ (x : Line). x ∷ ls) is ∙ (ap (λ xs. own_head c.start c.member m ∷ xs)
        (rest.lines ∙ ap (λ es. entry_lines es ++ (others ++ ages)) (sym history))
        ∙ sym (append_assoc (own_head c.start c.member m ∷ entry_lines m.history) others ages))

closes_age : (members : ℕ) (c : Course) (n age start : ℕ) (ls : List Line) (t : Read) → c.left ≡ 0
    → c.member ≡ members
    → Closes members (record { start = start; left = start; member = 0; ended = false }) (suc n) ls t
    → Closes members c n (Age age start ∷ ls) (put_line n (Age age start) t)
closes_age members c n age start ls t none all rest = record {
  many = sym none;
  all = omega (arith, all);
  lines = whole_lines;
  own = All-nil IsOwn;
  own_from = tt;
  whole = All-cons (IsWholeAge members) here t.ages (
    length-map t.members (with_start t.entries) ∙ omega (arith, rest.all),
    all_whole t.entries t.members rest.own,
  ) rest.whole;
  from = (
    omega arith,
    (let next : suc n + length t.entries ≡ (n + (0 + 0)) + (1 + length t.entries) = omega arith in
        subst (λ (k : ℕ). MembersFrom (length t.entries) k (map (with_start t.entries) t.members)) next
        (all_from t.entries (suc n + length t.entries) t.members rest.own rest.own_from)),
    (let next : suc n + (length t.entries + length (own_lines start 0 t.members))
        ≡ (n + (0 + 0)) + length (age_lines here) = omega (arith, long) in
        subst (λ (k : ℕ). AgesFrom k t.ages) next rest.from),
  );
}
  where
    here : ReportAge
    here = record { age = age; line = n; start = t.entries; members = map (with_start t.entries) t.members }

    ages : List Line
    ages = flat_map age_lines t.ages ++ Last ∷ []

    mine : age_lines here ≡ Age age start ∷ (entry_lines t.entries ++ own_lines start 0 t.members)
    mine = ap (λ ls. Age age (length t.entries) ∷ (entry_lines t.entries ++ ls))
        (all_lines t.entries 0 t.members rest.own)
        ∙ ap (λ (k : ℕ). Age age k ∷ (entry_lines t.entries ++ own_lines k 0 t.members)) rest.many

    long : length (age_lines here) ≡ 1 + (length t.entries + length (own_lines start 0 t.members))
    long = ap length mine ∙ omega (
      arith,
      length-append (entry_lines t.entries) (own_lines start 0 t.members),
      length-map t.entries (λ e. EntryLine e),
    )

    whole_lines : Age age start ∷ ls ≡ (age_lines here ++ flat_map age_lines t.ages) ++ Last ∷ []
    whole_lines = ap (λ xs. Age age start ∷ xs) (rest.lines
        ∙ sym (append_assoc (entry_lines t.entries) (own_lines start 0 t.members) ages)) ∙ (ap (λ xs. xs ++ ages)
        (sym mine) ∙ sym (append_assoc (age_lines here) (flat_map age_lines t.ages) (Last ∷ [])))

closes_last : (members : ℕ) (c : Course) (n : ℕ) → c.left ≡ 0 → c.member ≡ members
    → Closes members c n (Last ∷ []) (record { entries = []; members = []; ages = [] })
closes_last members c n none all = record {
  many = sym none;
  all = omega (arith, all);
  lines = refl;
  own = All-nil IsOwn;
  own_from = tt;
  whole = All-nil (IsWholeAge members);
  from = tt;
}

pub closes : (members : ℕ) (ls : List Line) (n : ℕ) (c d : Course) → c.member ≤ members → c.ended ≡ false
    → course_after members c ls ≡ Some d → d.ended ≡ true → Closes members c n ls (read_from n ls)
unfolding course_after read_from
closes members [] n c d within goes is ended =
    absurd (false≢true (sym goes ∙ (ap (λ (e : Course). e.ended) (same_Some c d is) ∙ ended)))
closes members (l ∷ ls) n c d within goes is ended =
    let first = after_first members c d l ls is in
    step (λ e w g i. closes members ls (suc n) e d w g i ended) l first.0
    (next_comes members c first.0 l first.1).1 first.2
  where
    Rest : Type 0
    Rest = (e : Course) → e.member ≤ members → e.ended ≡ false → course_after members e ls ≡ Some d
        → Closes members e (suc n) ls (read_from (suc n) ls)

    so : (e f : Course) → e ≡ f → course_after members f ls ≡ Some d → course_after members e ls ≡ Some d
    so e f same later = ap (λ (g : Course). course_after members g ls) same ∙ later

    step : Rest → (l : Line) (e : Course) → Comes members c l e → course_after members e ls ≡ Some d
        → Closes members c n (l ∷ ls) (put_line n l (read_from (suc n) ls))
    step rest (EntryLine x) e (inl (some, w)) later =
        let f : Course = record c { left = c.left - 1 } in
        closes_entry members c n x ls (read_from (suc n) ls) some
        (rest f within goes (so f e (same_Some f e w) later))
    step rest (EntryLine x) e (inr (none, inl (less, w))) later = absurd (none-some e w)
    step rest (EntryLine x) e (inr (none, inr (all, w))) later = absurd (none-some e w)
    step rest (Present i h lo du) e (inl (some, w)) later = absurd (none-some e w)
    step rest (Present i h lo du) e (inr (none, inl (less, w))) later =
        let comes = member_comes c e i h lo du w in
        let f : Course = record c { left = h - c.start; member = c.member + 1 } in
        let t = read_from (suc n) ls in
        let below = rest f (omega (arith, less)) goes (so f e comes.2 later) in
        let sum : h ≡ c.start + length t.entries = omega (arith, comes.1, below.many) in
        closes_member members c n (Present i h lo du) ls t
        (record { line = n; present = true; history = t.entries; logged = lo; durable = du }) (h - c.start)
        none refl refl (inl refl)
        (ap (λ (k : ℕ). Present k h lo du) comes.0 ∙ ap (λ (k : ℕ). Present c.member k lo du) sum) below
    step rest (Present i h lo du) e (inr (none, inr (all, w))) later = absurd (none-some e w)
    step rest (Absent i) e (inl (some, w)) later = absurd (none-some e w)
    step rest (Absent i) e (inr (none, inl (less, w))) later =
        let comes = absent_comes c e i w in
        let f : Course = record c { member = c.member + 1 } in
        let t = read_from (suc n) ls in
        let below = rest f (omega (arith, less)) goes (so f e comes.1 later) in
        closes_member members c n
        (Absent i) ls t (record { line = n; present = false; history = []; logged = 0; durable = 0 }) c.left none refl
        (empty t.entries (below.many ∙ none)) (inr (refl, refl, refl, refl)) (ap (λ (k : ℕ). Absent k) comes.0) below
    step rest (Absent i) e (inr (none, inr (all, w))) later = absurd (none-some e w)
    step rest (Age age start) e (inl (some, w)) later = absurd (none-some e w)
    step rest (Age age start) e (inr (none, inl (less, w))) later = absurd (none-some e w)
    step rest (Age age start) e (inr (none, inr (all, w))) later =
        let f : Course = record { start = start; left = start; member = 0; ended = false } in
        closes_age members c n age start ls (read_from (suc n) ls) none (omega (arith, within, all))
        (rest f (omega arith) refl (so f e (same_Some f e w) later))
    step rest Last e (inl (some, w)) later = absurd (none-some e w)
    step rest Last e (inr (none, inl (less, w))) later = absurd (none-some e w)
    step rest Last e (inr (none, inr (all, w))) later =
        let f : Course = record c { ended = true } in
        let none_left : ls ≡ [] = nothing_more members f d ls refl (so f e (same_Some f e w) later) in
        subst (λ (xs : List Line). Closes members c n (Last ∷ xs) (read_from (suc n) xs)) (sym none_left)
        (closes_last members c n none (omega (arith, within, all)))
