-- What is printed of ages is a report with their values.
use Rattle.std.specs.{Fmt.decimal, List.{AllZip, concat, enumerate_from, flat_map}}
use Rattle.std.proofs.Common.{◌≡◌, refl, sym, ap, ◌∙◌, subst, ℕ, zero, suc, ◌+◌, ◌<◌, ◌≤◌, ◌^◌, ◌==◌, inl, inr, arith, All, Bool, not, true, false, if◌then◌else◌, List, [], ◌∷◌, ◌++◌, codes, length, map, drop, None, Some, append_assoc, append-nil}
use Rattle.std.proofs.lemmas.{Bool.{eqb-true, false≢true}, List.Elements.{All-cons, All-head, All-nil, All-tail}}
use Rattle.std.proofs.lemmas.List.Folds.{concat-append}
use Rattle.dr_entry.specs.declared.end.{AgeEnd.AgeEnd, End.End}
use Rattle.dr_entry.specs.declared.end.End.TheVariants.{Done, Crashed, Suspected, Excluded, NoMajority, DiskFault, LogFull, Spent, Absent}
use Rattle.dr_entry.specs.declared.{end.MemberEnd.MemberEnd, entry.Entry.{Entry, TheVariants.{View, Msg}}}
use Rattle.dr_entry.proofs.ListFacts.{AreFed, IsFed, free_both, is_free, fed_parts}
use Rattle.dr_text.specs.Report.{age_head, age_text, end_text, entry_text, is_absent, last_text, mask_text, member_line, member_text, message_text, report_text, whole_text}
use Rattle.dr_text.{specs.declared.last.Last.Last, proofs.Reports.entries_text}
use Rattle.dr_text.specs.declared.last.Last.TheVariants as lasts
use Rattle.dr_check.{specs.Fields.is_end, proofs.Feeds.{lines_fed, lines_none}}
use Rattle.dr_check.specs.Grammar.{AgesFrom, HasStart, IsReport, IsWholeAge, MembersFrom, age_lines, member_head, members_lines, report_lines}
use Rattle.dr_check.specs.Lines.{EndFits, EntryFits, IsLineText, LastFits, absent_text, age_start_text, lines_of, present_text}
use Rattle.dr_check.specs.{Values.{HasAge, HasMember, HasValues, IsTellable, IsTellableAge}, declared.line.Line.Line}
use Rattle.dr_check.specs.declared.report.{Report.Report, ReportAge.ReportAge, ReportMember.ReportMember}
use Rattle.dr_check.proofs.{Printed.absent_fed, Splitting.{IsPlain, plain_decimal, plain_mask, plain_message}}
use Rattle.dr_check.specs.declared.line.Line.TheVariants as lines

-- ---- no line feed within a line

plain_free : (bytes : List ℕ) → IsPlain bytes → is_free bytes ≡ true
plain_free [] plain = refl
plain_free (b ∷ bytes) plain =
    let rest = plain_free bytes (All-tail (λ b. is_end b ≡ false) b bytes plain) in
    by (b == 10) refl rest (All-head (λ b. is_end b ≡ false) b bytes plain)
  where
    by : (t : Bool) → (b == 10) ≡ t → is_free bytes ≡ true → is_end b ≡ false → is_free (b ∷ bytes) ≡ true
    by true is rest other =
        let e : b ≡ 10 = eqb-true b 10 is in
        let ends : is_end 10 ≡ false = ap is_end (sym e) ∙ other in absurd (false≢true (sym ends))
    by false is rest other = rw (is, rest) refl

number_free : (n : ℕ) → n < 2 ^ 64 → is_free (decimal n) ≡ true
number_free n small = plain_free (decimal n) (plain_decimal n small)

entry_fed : (e : Entry) → EntryFits e → IsFed (entry_text e)
entry_fed (View age number members) fits = fed_parts
    (codes "  view " ∷ decimal age ∷ codes " " ∷ decimal number ∷ codes " " ∷ mask_text members ∷ []) (
      refl,
      (
        number_free age (omega (arith, fits.0)),
        (
          refl,
          (
            number_free number (omega (arith, fits.1)),
            (refl, (plain_free (mask_text members) (plain_mask members), tt)),
          ),
        ),
      ),
    )
entry_fed (Msg sender index bytes) fits = fed_parts
    (codes "  msg " ∷ decimal sender ∷ codes " " ∷ decimal index ∷ codes " " ∷ message_text bytes ∷ []) (
      refl,
      (
        number_free sender (omega (arith, fits.0)),
        (
          refl,
          (
            number_free index (omega (arith, fits.1)),
            (refl, (plain_free (message_text bytes) (plain_message bytes), tt)),
          ),
        ),
      ),
    )

end_free : (e : End) → EndFits e → is_free (end_text e) ≡ true
end_free Done fits = refl
end_free Crashed fits = refl
end_free (Suspected by) fits = free_both (codes "suspected ") (decimal by) refl (number_free by (omega (arith, fits)))
end_free (Excluded view) fits =
    free_both (codes "excluded ") (decimal view) refl (number_free view (omega (arith, fits)))
end_free (NoMajority mask) fits =
    free_both (codes "nomajority ") (mask_text mask) refl (plain_free (mask_text mask) (plain_mask mask))
end_free DiskFault fits = refl
end_free (LogFull len) fits = free_both (codes "logfull ") (decimal len) refl (number_free len fits)
end_free (Spent turns) fits =
    free_both (codes "spent ") (decimal turns) refl (number_free turns (omega (arith, fits)))
end_free Absent fits = absurd fits

present_fed : (member : ℕ) (e : End) (history logged durable : ℕ) → member < 16 → EndFits e → history < 2 ^ 64
    → logged < 2 ^ 64 → durable < 2 ^ 64 → IsFed (present_text member e history logged durable)
present_fed member e history logged durable m fits h l d = fed_parts
    (codes "member " ∷ decimal member ∷ codes " " ∷ end_text e ∷ codes " history " ∷ decimal history
    ∷ codes " logged " ∷ decimal logged ∷ codes " durable " ∷ decimal durable ∷ []) (
      refl,
      (
        number_free member (omega (arith, m)),
        (
          refl,
          (
            end_free e fits,
            (refl, (number_free history h, (refl, (number_free logged l, (refl, (number_free durable d, tt)))))),
          ),
        ),
      ),
    )

start_fed : (age start : ℕ) → age < 2 ^ 16 → start < 2 ^ 64 → IsFed (age_start_text age start)
start_fed age start a s = fed_parts (codes "age " ∷ decimal age ∷ codes " start " ∷ decimal start ∷ [])
    (refl, (number_free age (omega (arith, a)), (refl, (number_free start s, tt))))

last_fed : (l : Last) → LastFits l → IsFed (last_text l)
last_fed lasts.Done fits = (codes "ok", refl, refl)
last_fed (lasts.DiskFault member) fits = fed_parts (codes "fault: disk of member " ∷ decimal member ∷ [])
    (refl, (number_free member (omega (arith, fits)), tt))
last_fed (lasts.Damaged member at) fits =
    fed_parts (codes "refused: damaged log of member " ∷ decimal member ∷ codes " at " ∷ decimal at ∷ [])
    (refl, (number_free member (omega (arith, fits.0)), (refl, (number_free at fits.1, tt))))
last_fed (lasts.Foreign member place) fits =
    fed_parts (codes "refused: foreign log of member " ∷ decimal member ∷ codes " at entry " ∷ decimal place ∷ [])
    (refl, (number_free member (omega (arith, fits.0)), (refl, (number_free place fits.1, tt))))
last_fed (lasts.Disagree a b place) fits = fed_parts
    (codes "refused: logs of members " ∷ decimal a ∷ codes " and " ∷ decimal b ∷ codes " disagree at entry "
    ∷ decimal place ∷ []) (
      refl,
      (
        number_free a (omega (arith, fits.0)),
        (refl, (number_free b (omega (arith, fits.1)), (refl, (number_free place fits.2, tt)))),
      ),
    )
last_fed (lasts.NoQuorum None have need) fits = fed_parts
    (codes "refused: quorum of " ∷ whole_text None ∷ codes " has " ∷ decimal have ∷ codes " of " ∷ decimal need ∷ [])
    (refl, (refl, (refl, (number_free have fits.1, (refl, (number_free need fits.2, tt))))))
last_fed (lasts.NoQuorum (Some view) have need) fits = fed_parts
    (codes "refused: quorum of " ∷ whole_text (Some view) ∷ codes " has " ∷ decimal have ∷ codes " of "
    ∷ decimal need ∷ []) (
      refl,
      (
        free_both (codes "view ") (decimal view) refl (number_free view (omega (arith, fits.0))),
        (refl, (number_free have fits.1, (refl, (number_free need fits.2, tt)))),
      ),
    )
last_fed lasts.AgesUsedUp fits = (codes "refused: ages used up", refl, refl)
last_fed lasts.Unfinished fits = (codes "unfinished", refl, refl)
last_fed lasts.NoMajority fits = (codes "no majority", refl, refl)
last_fed (lasts.LogFull member) fits = fed_parts (codes "fault: log full of member " ∷ decimal member ∷ [])
    (refl, (number_free member (omega (arith, fits)), tt))
last_fed lasts.Usage fits = absurd fits
last_fed lasts.TooLong fits = absurd fits
last_fed lasts.NotJson fits = absurd fits
last_fed (lasts.Rule rule path) fits = absurd fits
last_fed lasts.SourceFault fits = absurd fits
last_fed (lasts.NoShard n m) fits = absurd fits
last_fed (lasts.ManyAges n) fits = absurd fits
last_fed (lasts.Crosses n) fits = absurd fits
last_fed lasts.NotCheck fits = absurd fits
last_fed (lasts.NoReport n) fits = absurd fits
last_fed lasts.Right fits = absurd fits
last_fed (lasts.Wrong k n) fits = absurd fits

-- ---- lines, their texts, and the whole text

-- lines have these texts, each of which is one line of a text
abbrev Printed : List Line → List (List ℕ) → Type 0
Printed ls texts = AllZip IsLineText ls texts × AreFed texts

none_printed : Printed [] []
none_printed = (tt, tt)

one_printed : (l : Line) (ls : List Line) (text : List ℕ) (texts : List (List ℕ)) → IsLineText l text → IsFed text
    → Printed ls texts → Printed (l ∷ ls) (text ∷ texts)
one_printed l ls text texts is fed rest = ((is, rest.0), (fed, rest.1))

both_printed : (ls ks : List Line) (texts others : List (List ℕ)) → Printed ls texts → Printed ks others
    → Printed (ls ++ ks) (texts ++ others)
both_printed [] ks [] others one other = other
both_printed [] ks (t ∷ texts) others one other = absurd one.0
both_printed (l ∷ ls) ks [] others one other = absurd one.0
both_printed (l ∷ ls) ks (t ∷ texts) others one other = one_printed l (ls ++ ks) t (texts ++ others) one.0.0 one.1.0
    (both_printed ls ks texts others (one.0.1, one.1.1) other)

-- ---- entries

entries_printed : (es : List Entry) → All EntryFits es → Printed (map (λ e. lines.Entry e) es) (map entry_text es)
entries_printed [] fit = none_printed
entries_printed (e ∷ es) fit =
    let head = All-head EntryFits e es fit in
    one_printed (lines.Entry e) (map (λ e. lines.Entry e) es) (entry_text e) (map entry_text es) (head, refl)
    (entry_fed e head) (entries_printed es (All-tail EntryFits e es fit))

fit_behind : (n : ℕ) (es : List Entry) → All EntryFits es → All EntryFits (drop n es)
fit_behind zero es fit = fit
fit_behind (suc n) [] fit = fit
fit_behind (suc n) (e ∷ es) fit = fit_behind n es (All-tail EntryFits e es fit)

-- ---- members

-- whoever took part is not absent
pub not_absent : (e : End) → EndFits e → is_absent e ≡ false
not_absent Done fits = refl
not_absent Crashed fits = refl
not_absent (Suspected by) fits = refl
not_absent (Excluded view) fits = refl
not_absent (NoMajority mask) fits = refl
not_absent DiskFault fits = refl
not_absent (LogFull len) fits = refl
not_absent (Spent turns) fits = refl
not_absent Absent fits = absurd fits

abbrev told_member : ℕ → MemberEnd → ReportMember
told_member line e = record {
  line = line;
  present = not (is_absent e.end);
  history = e.history;
  logged = e.logged;
  durable = e.durable;
}

abbrev told_members : ℕ → ℕ → List MemberEnd → List ReportMember
told_members start line [] = []
told_members start line (e ∷ es) =
    told_member line e ∷ told_members start (line + (1 + length (drop start e.history))) es

abbrev head_of : ℕ → MemberEnd → List ℕ
head_of i e = if is_absent e.end then absent_text i else present_text i e.end (length e.history) e.logged e.durable

abbrev member_texts : ℕ → ℕ → MemberEnd → List (List ℕ)
member_texts start i e = head_of i e ∷ map entry_text (drop start e.history)

abbrev members_texts : ℕ → ℕ → List MemberEnd → List (List ℕ)
members_texts start i [] = []
members_texts start i (e ∷ es) = member_texts start i e ++ members_texts start (i + 1) es

-- the line of a member
line_printed : (start : List Entry) (i line : ℕ) (e : MemberEnd) → i < 16 → IsTellable start e
    → IsLineText (member_head i (told_member line e)) (head_of i e) × IsFed (head_of i e)
line_printed start i line e small (inl part) = subst (λ (t : Bool). IsLineText
    (if not t then lines.Present i (length e.history) e.logged e.durable else lines.Absent i)
    (if t then absent_text i else present_text i e.end (length e.history) e.logged e.durable)
    × IsFed (if t then absent_text i else present_text i e.end (length e.history) e.logged e.durable))
    (sym (not_absent e.end part.ended)) (
      (small, part.history, part.logged, part.durable, (e.end, part.ended, refl)),
      present_fed i e.end (length e.history) e.logged e.durable small part.ended part.history part.logged
          part.durable,
    )
line_printed start i line e small (inr nothing) = subst (λ (t : Bool). IsLineText
    (if not t then lines.Present i (length e.history) e.logged e.durable else lines.Absent i)
    (if t then absent_text i else present_text i e.end (length e.history) e.logged e.durable)
    × IsFed (if t then absent_text i else present_text i e.end (length e.history) e.logged e.durable))
    (sym (ap is_absent nothing.absent)) ((small, refl), absent_fed i small)

-- the entries of a history are such as lines tell
entries_of : (start : List Entry) (e : MemberEnd) → IsTellable start e → All EntryFits e.history
entries_of start e (inl part) = part.entries
entries_of start e (inr nothing) = subst (All EntryFits) (sym nothing.history) (All-nil EntryFits)

members_printed : (start : List Entry) (i line : ℕ) (es : List MemberEnd) → i + length es ≤ 16
    → All (IsTellable start) es → Printed (members_lines (length start) i (told_members (length start) line es))
    (members_texts (length start) i es)
members_printed start i line [] few fit = none_printed
members_printed start i line (e ∷ es) few fit =
    let head = All-head (IsTellable start) e es fit in
    let own = drop (length start) e.history in
    let next = line + (1 + length own) in
    let small : i < 16 = omega (arith, few) in
    let its = line_printed start i line e small head in
    both_printed (member_head i (told_member line e) ∷ map (λ e. lines.Entry e) own)
    (members_lines (length start) (i + 1) (told_members (length start) next es)) (member_texts (length start) i e)
    (members_texts (length start) (i + 1) es) (one_printed (member_head i (told_member line e))
    (map (λ e. lines.Entry e) own) (head_of i e) (map entry_text own) its.0 its.1
    (entries_printed own (fit_behind (length start) e.history (entries_of start e head))))
    (members_printed start (i + 1) next es (omega (arith, few)) (All-tail (IsTellable start) e es fit))

-- the parts of an absent member's line, joined in another order
absent_told : (i : ℕ) → absent_text i
    ≡ concat (codes "member " ∷ decimal i ∷ codes " " ∷ codes "absent" ∷ []) ++ codes "\n"
absent_told i = ap (λ z. codes "member " ++ z) (sym (append_assoc (decimal i) (codes " absent") (codes "\n")))
    ∙ sym (append_assoc (codes "member ") (decimal i ++ codes " absent") (codes "\n"))

line_told : (start : List Entry) (i : ℕ) (e : MemberEnd) → IsTellable start e → head_of i e ≡ member_line i e
line_told start i e (inl part) =
    rw (not_absent e.end part.ended) (concat-append (codes "member " ∷ decimal i ∷ codes " " ∷ end_text e.end ∷ [])
    (codes " history " ∷ decimal (length e.history)
    ∷ codes " logged " ∷ decimal e.logged ∷ codes " durable " ∷ decimal e.durable ∷ codes "\n" ∷ []))
line_told start i e (inr nothing) = rw nothing.absent (absent_told i)

members_told_text : (start : List Entry) (n i : ℕ) (es : List MemberEnd) → All (IsTellable start) es
    → concat (members_texts n i es) ≡ flat_map (λ t. member_text n t.0 t.1) (enumerate_from i es)
members_told_text start n i [] fit = refl
members_told_text start n i (e ∷ es) fit =
    let rest = concat (members_texts n (i + 1) es) in
    concat-append (member_texts n i e) (members_texts n (i + 1) es) ∙ (ap (λ z. (head_of i e ++ z) ++ rest)
    (entries_text (drop n e.history)) ∙ (ap (λ z. (z ++ flat_map entry_text (drop n e.history)) ++ rest)
    (line_told start i e (All-head (IsTellable start) e es fit)) ∙ ap (λ z. member_text n i e ++ z)
    (members_told_text start n (i + 1) es (All-tail (IsTellable start) e es fit))))

members_from : (start line : ℕ) (es : List MemberEnd) → MembersFrom start line (told_members start line es)
members_from start line [] = tt
members_from start line (e ∷ es) = (refl, members_from start (line + (1 + length (drop start e.history))) es)

members_many : (start line : ℕ) (es : List MemberEnd) → length (told_members start line es) ≡ length es
members_many start line [] = refl
members_many start line (e ∷ es) =
    let rest = members_many start (line + (1 + length (drop start e.history))) es in omega (arith, rest)

-- a member that is told has the start, or nothing where it was absent
member_whole : (start : List Entry) (line : ℕ) (e : MemberEnd) → IsTellable start e
    → HasStart start (told_member line e)
member_whole start line e (inl part) = inl (ap not (not_absent e.end part.ended), part.begins)
member_whole start line e (inr nothing) =
    inr (ap (λ end. not (is_absent end)) nothing.absent, nothing.history, nothing.logged, nothing.durable)

members_whole : (start : List Entry) (line : ℕ) (es : List MemberEnd) → All (IsTellable start) es
    → All (HasStart start) (told_members (length start) line es)
members_whole start line [] fit = All-nil (HasStart start)
members_whole start line (e ∷ es) fit =
    let next = line + (1 + length (drop (length start) e.history)) in
    All-cons (HasStart start) (told_member line e) (told_members (length start) next es) (member_whole start line e
    (All-head (IsTellable start) e es fit)) (members_whole start next es (All-tail (IsTellable start) e es fit))

members_values : (start line : ℕ) (es : List MemberEnd) → AllZip HasMember es (told_members start line es)
members_values start line [] = tt
members_values start line (e ∷ es) = (
  record { present = refl; history = refl; logged = refl; durable = refl },
  members_values start (line + (1 + length (drop start e.history))) es,
)

-- ---- ages

abbrev told_age : ℕ → AgeEnd → ReportAge
told_age line a = record {
  age = a.age;
  line = line;
  start = a.start;
  members = told_members (length a.start) (line + (1 + length a.start)) a.members;
}

abbrev told_ages : ℕ → List AgeEnd → List ReportAge
told_ages line [] = []
told_ages line (a ∷ ages) = told_age line a ∷ told_ages (line + length (age_lines (told_age line a))) ages

abbrev age_texts : AgeEnd → List (List ℕ)
age_texts a = age_start_text a.age (length a.start)
    ∷ (map entry_text a.start ++ members_texts (length a.start) 0 a.members)

abbrev ages_texts : List AgeEnd → List (List ℕ)
ages_texts [] = []
ages_texts (a ∷ ages) = age_texts a ++ ages_texts ages

age_printed : (members line : ℕ) (a : AgeEnd) → members ≤ 16 → IsTellableAge members a
    → Printed (age_lines (told_age line a)) (age_texts a)
age_printed members line a few fit =
    let first = line + (1 + length a.start) in
    one_printed (lines.Age a.age (length a.start)) (map (λ e. lines.Entry e) a.start
    ++ members_lines (length a.start) 0 (told_members (length a.start) first a.members))
    (age_start_text a.age (length a.start))
    (map entry_text a.start ++ members_texts (length a.start) 0 a.members) (fit.age, fit.start, refl)
    (start_fed a.age (length a.start) fit.age fit.start) (both_printed (map (λ e. lines.Entry e) a.start)
    (members_lines (length a.start) 0 (told_members (length a.start) first a.members))
    (map entry_text a.start) (members_texts (length a.start) 0 a.members) (entries_printed a.start fit.entries)
    (members_printed a.start 0 first a.members (omega (arith, few, fit.all)) fit.ends))

-- the text of an age's line and of its start
head_text : (a : AgeEnd) → age_start_text a.age (length a.start) ++ flat_map entry_text a.start ≡ age_head a
head_text a =
    let parts : List (List ℕ) =
    codes "age " ∷ decimal a.age ∷ codes " start " ∷ decimal (length a.start) ∷ codes "\n" ∷ [] in
    let starts = flat_map entry_text a.start in
    ap (λ z. concat parts ++ z) (sym (append-nil starts)) ∙ sym (concat-append parts (starts ∷ []))

age_told_text : (a : AgeEnd) → All (IsTellable a.start) a.members → concat (age_texts a) ≡ age_text a
age_told_text a fit =
    let first = age_start_text a.age (length a.start) in
    let starts = map entry_text a.start in
    let members = members_texts (length a.start) 0 a.members in
    ap (λ z. first ++ z) (concat-append starts members) ∙ (sym (append_assoc first (concat starts) (concat members))
    ∙ (ap (λ z. (first ++ z) ++ concat members) (entries_text a.start) ∙ (ap (λ z. z ++ concat members) (head_text a)
    ∙ ap (λ z. age_head a ++ z) (members_told_text a.start (length a.start) 0 a.members fit))))

ages_printed : (members line : ℕ) (ages : List AgeEnd) → members ≤ 16 → All (IsTellableAge members) ages
    → Printed (flat_map age_lines (told_ages line ages)) (ages_texts ages)
ages_printed members line [] few fit = none_printed
ages_printed members line (a ∷ ages) few fit =
    let next = line + length (age_lines (told_age line a)) in
    both_printed (age_lines (told_age line a)) (flat_map age_lines (told_ages next ages)) (age_texts a)
    (ages_texts ages) (age_printed members line a few (All-head (IsTellableAge members) a ages fit))
    (ages_printed members next ages few (All-tail (IsTellableAge members) a ages fit))

ages_told_text : (members : ℕ) (ages : List AgeEnd) → All (IsTellableAge members) ages
    → concat (ages_texts ages) ≡ flat_map age_text ages
ages_told_text members [] fit = refl
ages_told_text members (a ∷ ages) fit = concat-append (age_texts a) (ages_texts ages)
    ∙ (ap (λ z. z ++ concat (ages_texts ages)) (age_told_text a (All-head (IsTellableAge members) a ages fit).ends)
    ∙ ap (λ z. age_text a ++ z) (ages_told_text members ages (All-tail (IsTellableAge members) a ages fit)))

ages_whole : (members line : ℕ) (ages : List AgeEnd) → All (IsTellableAge members) ages
    → All (IsWholeAge members) (told_ages line ages)
ages_whole members line [] fit = All-nil (IsWholeAge members)
ages_whole members line (a ∷ ages) fit =
    let head = All-head (IsTellableAge members) a ages fit in
    let first = line + (1 + length a.start) in
    let next = line + length (age_lines (told_age line a)) in
    All-cons (IsWholeAge members) (told_age line a) (told_ages next ages) (
      members_many (length a.start) first a.members ∙ head.all,
      members_whole a.start first a.members head.ends,
    ) (ages_whole members next ages (All-tail (IsTellableAge members) a ages fit))

ages_from : (line : ℕ) (ages : List AgeEnd) → AgesFrom line (told_ages line ages)
ages_from line [] = tt
ages_from line (a ∷ ages) = (
  refl,
  members_from (length a.start) (line + (1 + length a.start)) a.members,
  ages_from (line + length (age_lines (told_age line a))) ages,
)

ages_values : (line : ℕ) (ages : List AgeEnd) → AllZip HasAge ages (told_ages line ages)
ages_values line [] = tt
ages_values line (a ∷ ages) = (
  record {
    age = refl;
    start = refl;
    members = members_values (length a.start) (line + (1 + length a.start)) a.members;
  },
  ages_values (line + length (age_lines (told_age line a))) ages,
)

-- ---- the whole text

pub told : (members : ℕ) (ages : List AgeEnd) (last : Last) → members ≤ 16 → All (IsTellableAge members) ages
    → LastFits last → (r : Report) × IsReport members (report_text ages last) r × HasValues ages r
told members ages last few fit last_fits =
    let texts = ages_texts ages ++ last_text last ∷ [] in
    let r : Report = record { ages = told_ages 1 ages } in
    let printed : Printed (report_lines r) texts = both_printed (flat_map age_lines (told_ages 1 ages))
    (lines.Last ∷ []) (ages_texts ages) (last_text last ∷ []) (ages_printed members 1 ages few fit)
    (one_printed lines.Last [] (last_text last) [] (last, last_fits, refl) (last_fed last last_fits) none_printed) in
    let text : concat texts ++ [] ≡ report_text ages last =
    append-nil (concat texts) ∙ (concat-append (ages_texts ages) (last_text last ∷ [])
    ∙ (ap (λ z. z ++ (last_text last ++ [])) (ages_told_text members ages fit)
    ∙ ap (λ z. flat_map age_text ages ++ z) (append-nil (last_text last)))) in
    let all : lines_of (report_text ages last) ≡ texts = ap lines_of (sym text)
    ∙ (lines_fed texts [] printed.1 ∙ (ap (λ ls. texts ++ ls) lines_none ∙ append-nil texts)) in (
      r,
      record {
        lines = subst (λ (ls : List (List ℕ)). AllZip IsLineText (report_lines r) ls) (sym all) printed.0;
        whole = ages_whole members 1 ages fit;
        numbered = ages_from 1 ages;
      },
      ages_values 1 ages,
    )
