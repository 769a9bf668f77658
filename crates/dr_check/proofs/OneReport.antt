-- A text is one report at most: its values are those of its lines.
use Rattle.std.{specs.List.{AllZip, flat_map}, proofs.lemmas.List.Elements.{All-head, All-tail}}
use Rattle.std.proofs.Common.{◌≡◌, inl, inr, refl, sym, ap, ◌∙◌, subst, ℕ, ◌+◌, arith, All, Bool, true, false, List, [], ◌∷◌, ◌++◌, length, map, drop, append_assoc}
use Rattle.dr_entry.{specs.declared.entry.Entry.Entry, proofs.Entries.length_behind}
use Rattle.dr_history.proofs.Lists.{behind_start}
use Rattle.dr_check.specs.Grammar.{AgesFrom, HasStart, IsReport, IsWholeAge, MembersFrom, age_lines, member_lines, members_lines, report_lines}
use Rattle.dr_check.{specs.Lines.{IsLineText, lines_of}, proofs.OneLine.same_line}
use Rattle.dr_check.specs.declared.line.Line.{Line, TheVariants.{Age, Present, Absent, Entry as EntryLine, Last}}
use Rattle.dr_check.specs.declared.report.{Report.Report, ReportAge.ReportAge, ReportMember.ReportMember}

-- the lines of entries
abbrev entries : List Entry → List Line
entries es = map (λ e. EntryLine e) es

-- as many entries in front of other lines are the same
same_entries : (xs ys : List Entry) (us vs : List Line) → length xs ≡ length ys → entries xs ++ us ≡ entries ys ++ vs
    → (xs ≡ ys) × (us ≡ vs)
same_entries [] [] us vs long same = (refl, same)
same_entries [] (y ∷ ys) us vs long same = absurd (omega (arith, long))
same_entries (x ∷ xs) [] us vs long same = absurd (omega (arith, long))
same_entries (x ∷ xs) (y ∷ ys) us vs long same =
    let head : EntryLine x ≡ EntryLine y = cc in
    let one : x ≡ y = cc in
    let tail : entries xs ++ us ≡ entries ys ++ vs = cc in
    let rest = same_entries xs ys us vs (omega (arith, long)) tail in
    (ap (λ (z : Entry). z ∷ xs) one ∙ ap (λ zs. y ∷ zs) rest.0, rest.1)

-- members with the same values are the same
equal_members : (m o : ReportMember) → m.line ≡ o.line → m.present ≡ o.present → m.history ≡ o.history
    → m.logged ≡ o.logged → m.durable ≡ o.durable → m ≡ o
equal_members m o line present history logged durable = ap (λ (x : ℕ). record m { line = x }) line
    ∙ (ap (λ (x : Bool). record m { line = o.line; present = x }) present
    ∙ (ap (λ (x : List Entry). record m { line = o.line; present = o.present; history = x }) history
    ∙ (ap (λ (x : ℕ). record m { line = o.line; present = o.present; history = o.history; logged = x }) logged
    ∙ ap (λ (x : ℕ). record o { durable = x }) durable)))

-- and so are ages
equal_ages : (a b : ReportAge) → a.age ≡ b.age → a.line ≡ b.line → a.start ≡ b.start → a.members ≡ b.members → a ≡ b
equal_ages a b age line start members = ap (λ (x : ℕ). record a { age = x }) age
    ∙ (ap (λ (x : ℕ). record a { age = b.age; line = x }) line
    ∙ (ap (λ (x : List Entry). record a { age = b.age; line = b.line; start = x }) start
    ∙ ap (λ (x : List ReportMember). record b { members = x }) members))

-- two members that stand at the same line, and have the same lines before others
same_member : (start : List Entry) (i line : ℕ) (m o : ReportMember) (us vs : List Line) → HasStart start m
    → HasStart start o → m.line ≡ line → o.line ≡ line
    → member_lines (length start) (i, m) ++ us ≡ member_lines (length start) (i, o) ++ vs → (m ≡ o) × (us ≡ vs)
same_member start i line m o us vs (inl there) (inl also) at to same =
    let heads : Present i (length m.history) m.logged m.durable ∷ (entries (drop (length start) m.history) ++ us)
    ≡ Present i (length o.history) o.logged o.durable ∷ (entries (drop (length start) o.history) ++ vs) =
    sym (present m us there.0) ∙ (same ∙ present o vs also.0) in
    let long : length m.history ≡ length o.history = cc in
    let logged : m.logged ≡ o.logged = cc in
    let durable : m.durable ≡ o.durable = cc in
    let tails : entries (drop (length start) m.history) ++ us ≡ entries (drop (length start) o.history) ++ vs = cc in
    let own = same_entries (drop (length start) m.history) (drop (length start) o.history) us vs
    (length_behind (length start) m.history o.history long) tails in
    let history : m.history ≡ o.history = behind_start start m.history there.1
    ∙ (ap (λ xs. start ++ xs) own.0 ∙ sym (behind_start start o.history also.1)) in
    (equal_members m o (at ∙ sym to) (there.0 ∙ sym also.0) history logged durable, own.1)
  where
    present : (m : ReportMember) (us : List Line) → m.present ≡ true → member_lines (length start) (i, m) ++ us
        ≡ Present i (length m.history) m.logged m.durable ∷ (entries (drop (length start) m.history) ++ us)
    present m us is = rw is refl
same_member start i line m o us vs (inl there) (inr gone) at to same =
    let heads : Present i (length m.history) m.logged m.durable ≡ Absent i =
    ap first (sym (present there.0) ∙ (same ∙ absent gone.0)) in
    absurd (cc)
  where
    first : List Line → Line
    first [] = Last
    first (l ∷ ls) = l

    present : m.present ≡ true → member_lines (length start) (i, m) ++ us
        ≡ Present i (length m.history) m.logged m.durable ∷ (entries (drop (length start) m.history) ++ us)
    present is = rw is refl

    absent : o.present ≡ false → member_lines (length start) (i, o) ++ vs
        ≡ Absent i ∷ (entries (drop (length start) o.history) ++ vs)
    absent is = rw is refl
same_member start i line m o us vs (inr gone) (inl there) at to same =
    let heads : Absent i ≡ Present i (length o.history) o.logged o.durable =
    ap first (sym (absent gone.0) ∙ (same ∙ present there.0)) in
    absurd (cc)
  where
    first : List Line → Line
    first [] = Last
    first (l ∷ ls) = l

    present : o.present ≡ true → member_lines (length start) (i, o) ++ vs
        ≡ Present i (length o.history) o.logged o.durable ∷ (entries (drop (length start) o.history) ++ vs)
    present is = rw is refl

    absent : m.present ≡ false → member_lines (length start) (i, m) ++ us
        ≡ Absent i ∷ (entries (drop (length start) m.history) ++ us)
    absent is = rw is refl
same_member start i line m o us vs (inr gone) (inr also) at to same =
    let heads : Absent i ∷ (entries (drop (length start) m.history) ++ us) ≡ Absent i
    ∷ (entries (drop (length start) o.history) ++ vs) = sym (absent m us gone.0) ∙ (same ∙ absent o vs also.0) in
    let tails : entries (drop (length start) m.history) ++ us ≡ entries (drop (length start) o.history) ++ vs = cc in
    let history : m.history ≡ o.history = gone.1 ∙ sym also.1 in
    let own = same_entries (drop (length start) m.history) (drop (length start) o.history) us vs
    (ap (λ h. length (drop (length start) h)) history) tails in (
      equal_members m o (at ∙ sym to) (gone.0 ∙ sym also.0) history (gone.2 ∙ sym also.2) (gone.3 ∙ sym also.3),
      own.1,
    )
  where
    absent : (m : ReportMember) (us : List Line) → m.present ≡ false
        → member_lines (length start) (i, m) ++ us ≡ Absent i ∷ (entries (drop (length start) m.history) ++ us)
    absent m us is = rw is refl

same_members : (start : List Entry) (i line : ℕ) (ms os : List ReportMember) (us vs : List Line)
    → length ms ≡ length os → All (HasStart start) ms → All (HasStart start) os
    → MembersFrom (length start) line ms → MembersFrom (length start) line os
    → members_lines (length start) i ms ++ us ≡ members_lines (length start) i os ++ vs → (ms ≡ os) × (us ≡ vs)
same_members start i line [] [] us vs long whole also at to same = (refl, same)
same_members start i line [] (o ∷ os) us vs long whole also at to same = absurd (omega (arith, long))
same_members start i line (m ∷ ms) [] us vs long whole also at to same = absurd (omega (arith, long))
same_members start i line (m ∷ ms) (o ∷ os) us vs long whole also at to same =
    let mine = members_lines (length start) (i + 1) ms ++ us in
    let other = members_lines (length start) (i + 1) os ++ vs in
    let head = same_member start i line m o mine other (All-head (HasStart start) m ms whole)
    (All-head (HasStart start) o os also) at.0 to.0
    (sym (append_assoc (member_lines (length start) (i, m)) (members_lines (length start) (i + 1) ms) us)
    ∙ (same ∙ append_assoc (member_lines (length start) (i, o)) (members_lines (length start) (i + 1) os) vs)) in
    let next : MembersFrom (length start) (line + (1 + length (drop (length start) m.history))) os =
    subst (λ (n : ReportMember). MembersFrom (length start) (line + (1 + length (drop (length start) n.history))) os)
    (sym head.0) to.1 in
    let tail = same_members start (i + 1) (line + (1 + length (drop (length start) m.history))) ms os us vs
    (omega (arith, long)) (All-tail (HasStart start) m ms whole) (All-tail (HasStart start) o os also) at.1
    next head.1 in
    (ap (λ (n : ReportMember). n ∷ ms) head.0 ∙ ap (λ ns. o ∷ ns) tail.0, tail.1)

same_age : (members line : ℕ) (a b : ReportAge) (us vs : List Line) → IsWholeAge members a → IsWholeAge members b
    → a.line ≡ line → b.line ≡ line → MembersFrom (length a.start) (line + (1 + length a.start)) a.members
    → MembersFrom (length b.start) (line + (1 + length b.start)) b.members
    → age_lines a ++ us ≡ age_lines b ++ vs → (a ≡ b) × (us ≡ vs)
same_age members line a b us vs whole also at to from until same =
    let mine = members_lines (length a.start) 0 a.members in
    let other = members_lines (length b.start) 0 b.members in
    let heads : Age a.age (length a.start) ∷ (entries a.start ++ (mine ++ us))
    ≡ Age b.age (length b.start) ∷ (entries b.start ++ (other ++ vs)) =
    sym (ap (λ ls. Age a.age (length a.start) ∷ ls) (append_assoc (entries a.start) mine us))
    ∙ (same ∙ ap (λ ls. Age b.age (length b.start) ∷ ls) (append_assoc (entries b.start) other vs)) in
    let age : a.age ≡ b.age = cc in
    let long : length a.start ≡ length b.start = cc in
    let tails : entries a.start ++ (mine ++ us) ≡ entries b.start ++ (other ++ vs) = cc in
    let starts = same_entries a.start b.start (mine ++ us) (other ++ vs) long tails in
    let rest : mine ++ us ≡ members_lines (length a.start) 0 b.members ++ vs =
    starts.1 ∙ ap (λ (n : ℕ). members_lines n 0 b.members ++ vs) (sym long) in
    let as_whole : All (HasStart a.start) b.members =
    subst (λ (es : List Entry). All (HasStart es) b.members) (sym starts.0) also.1 in
    let as_from : MembersFrom (length a.start) (line + (1 + length a.start)) b.members =
    subst (λ (n : ℕ). MembersFrom n (line + (1 + n)) b.members) (sym long) until in
    let ms = same_members a.start 0 (line + (1 + length a.start)) a.members b.members us vs
    (whole.0 ∙ sym also.0) whole.1 as_whole from as_from rest in
    (equal_ages a b age (at ∙ sym to) starts.0 ms.0, ms.1)

same_ages : (members line : ℕ) (ages others : List ReportAge) → All (IsWholeAge members) ages
    → All (IsWholeAge members) others → AgesFrom line ages → AgesFrom line others
    → flat_map age_lines ages ++ Last ∷ [] ≡ flat_map age_lines others ++ Last ∷ [] → ages ≡ others
same_ages members line [] [] whole also at to same = refl
same_ages members line [] (b ∷ others) whole also at to same =
    let heads : Last ≡ Age b.age (length b.start) = ap first same in absurd (cc)
  where
    first : List Line → Line
    first [] = Last
    first (l ∷ ls) = l
same_ages members line (a ∷ ages) [] whole also at to same =
    let heads : Age a.age (length a.start) ≡ Last = ap first same in absurd (cc)
  where
    first : List Line → Line
    first [] = Last
    first (l ∷ ls) = l
same_ages members line (a ∷ ages) (b ∷ others) whole also at to same =
    let head = same_age members line a b (flat_map age_lines ages ++ Last ∷ [])
    (flat_map age_lines others ++ Last ∷ [])
    (All-head (IsWholeAge members) a ages whole) (All-head (IsWholeAge members) b others also) at.0 to.0 at.1 to.1
    (sym (append_assoc (age_lines a) (flat_map age_lines ages) (Last ∷ []))
    ∙ (same ∙ append_assoc (age_lines b) (flat_map age_lines others) (Last ∷ []))) in
    let next : AgesFrom (line + length (age_lines a)) others =
    subst (λ (n : ReportAge). AgesFrom (line + length (age_lines n)) others) (sym head.0) to.2 in
    let tail = same_ages members (line + length (age_lines a)) ages others
    (All-tail (IsWholeAge members) a ages whole) (All-tail (IsWholeAge members) b others also) at.2 next head.1 in
    ap (λ (n : ReportAge). n ∷ ages) head.0 ∙ ap (λ ns. b ∷ ns) tail

-- lines that bytes are are the same
same_lines : (ls ks : List Line) (bytes : List (List ℕ)) → AllZip IsLineText ls bytes → AllZip IsLineText ks bytes
    → ls ≡ ks
same_lines [] [] [] is also = refl
same_lines [] (k ∷ ks) [] is also = absurd also
same_lines (l ∷ ls) ks [] is also = absurd is
same_lines [] ks (b ∷ bytes) is also = absurd is
same_lines (l ∷ ls) [] (b ∷ bytes) is also = absurd also
same_lines (l ∷ ls) (k ∷ ks) (b ∷ bytes) is also = ap (λ (x : Line). x ∷ ls) (same_line l k b is.0 also.0)
    ∙ ap (λ xs. k ∷ xs) (same_lines ls ks bytes is.1 also.1)

pub one_report : (members : ℕ) (text : List ℕ) (r other : Report) → IsReport members text r
    → IsReport members text other → r ≡ other
one_report members text r other is also =
    let ages : r.ages ≡ other.ages =
    same_ages members 1 r.ages other.ages is.whole also.whole is.numbered also.numbered
    (same_lines (report_lines r) (report_lines other) (lines_of text) is.lines also.lines) in
    ap (λ (xs : List ReportAge). record r { ages = xs }) ages
