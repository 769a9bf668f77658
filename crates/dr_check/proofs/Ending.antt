-- Where a text is read no further: it is a report, or none at a line.
use Rattle.std.specs.{List.{AllZip, concat, flat_map}, Prelude.option_and_then}
use Rattle.std.proofs.Common.{◌≡◌, ◌⊎◌, inl, inr, refl, sym, ap, ◌∙◌, subst, ℕ, zero, suc, ◌+◌, ◌-◌, ◌<◌, ◌≤◌, arith, eqb, Bool, true, false, List, [], ◌∷◌, ◌++◌, codes, length, take, None, Some, slice_get, append_assoc, append-nil, take_at}
use Rattle.std.proofs.lemmas.{Bool.{cases_lt, false≢true}, Option.{none-some, same_Some}}
use Rattle.dr_entry.proofs.Entries.{empty, filler}
use Rattle.dr_entry.proofs.ListFacts.{AreFed, IsFed, whole_part, no_members, zip_long, fed_both, zip_push}
use Rattle.dr_entry.proofs.{ListPlaces.{zip_at, zip_to, slice_get-append}, PlainFacts.last_fed}
use Rattle.dr_text.{specs.Report.entry_text, proofs.Reports.filler_fed}
use Rattle.dr_check.specs.Course.{course_after, beginning, next_course, read_from, member_course}
use Rattle.dr_check.specs.Grammar.{AgesFrom, IsNoReportAt, IsReport, age_lines, report_lines}
use Rattle.dr_check.{specs.Lines.{IsLineText, absent_text, lines_of}, proofs.Closing.{closes, entry_lines, own_lines}}
use Rattle.dr_check.specs.{Progress.{AreWhole, HasRead, IsOnly}, declared.report.{Report.Report, ReportAge.ReportAge}}
use Rattle.dr_check.{specs.declared.course.Course.Course, proofs.Feeds.{AreParts, lines_fed, lines_none, parts_of}}
use Rattle.dr_check.specs.declared.line.Line.{Line, TheVariants.{Absent, Age, Entry as EntryLine, Last, Present}}
use Rattle.dr_check.proofs.Accepting.{Comes, absent_comes, after_append, after_first, after_next, member_comes, next_age, next_comes, next_left, next_member}
use Rattle.dr_check.proofs.{Coming.report_comes, Printed.{absent_fed, absent_line, filler_line, last_line, line_ends}}

-- ---- whole texts

-- the report that whole lines are
pub report_of : (members : ℕ) (text : List ℕ) (found : List Line) → AreWhole members text found
    → IsReport members text (record { ages = (read_from 1 found).ages })
report_of members text found whole =
    let t = read_from 1 found in
    let c = closes members found 1 (beginning members) whole.course (omega arith) refl whole.come whole.ended in
    let no_entries : t.entries ≡ [] = sym (empty t.entries c.many) in
    let nobody : t.members ≡ [] = no_members t.members (omega (arith, c.all)) in
    let ages = flat_map age_lines t.ages ++ Last ∷ [] in
    let all : found ≡ ages =
    c.lines ∙ (ap (λ es. entry_lines es ++ (own_lines 0 members t.members ++ ages)) no_entries
    ∙ ap (λ ms. own_lines 0 members ms ++ ages) nobody) in
    let first : 1 + (length t.entries + length (own_lines 0 members t.members)) ≡ 1 =
    omega (arith, c.many, ap (λ ms. length (own_lines 0 members ms)) nobody) in
    record {
      lines = subst (λ (ls : List Line). AllZip IsLineText ls (lines_of text)) all whole.lines;
      whole = c.whole;
      numbered = subst (λ (n : ℕ). AgesFrom n t.ages) first c.from;
    }

-- ---- an end for what was read

record Completion (members : ℕ) (c : Course) : Type 0 where
  lines : List Line
  bytes : List (List ℕ)
  zip : AllZip IsLineText lines bytes
  fed : AreFed bytes
  last : Course
  come : course_after members c lines ≡ Some last
  ended : last.ended ≡ true

-- a line more in front
more : (members : ℕ) (c d : Course) (l : Line) (b : List ℕ) → IsLineText l b → IsFed b
    → next_course members c l ≡ Some d → Completion members d → Completion members c
more members c d l b is fed is_next rest = record {
  lines = l ∷ rest.lines;
  bytes = b ∷ rest.bytes;
  zip = (is, rest.zip);
  fed = (fed, rest.fed);
  last = rest.last;
  come = after_next members c d l rest.lines is_next ∙ rest.come;
  ended = rest.ended;
}

at_end : (members : ℕ) (c : Course) → c.ended ≡ true → Completion members c
unfolding course_after
at_end members c ended = record { lines = []; bytes = []; zip = tt; fed = tt; last = c; come = refl; ended = ended }

at_age : (members : ℕ) (c : Course) → c.ended ≡ false → c.left ≡ 0 → members ≤ c.member → Completion members c
at_age members c goes none all = more members c (record c { ended = true }) Last (codes "ok\n") last_line last_fed
    (next_age members c Last goes none all) (at_end members (record c { ended = true }) refl)

at_member : (members k : ℕ) (c : Course) → members ≤ 16 → c.ended ≡ false → c.left ≡ 0 → members ≤ c.member + k
    → Completion members c
at_member members zero c few goes none all = at_age members c goes none (omega (arith, all))
at_member members (suc k) c few goes none all = by (at_member members k
    (record c { member = c.member + 1 }) few goes none (omega (arith, all))) (cases_lt c.member members)
  where
    by : Completion members (record c { member = c.member + 1 }) → (c.member < members) ⊎ (members ≤ c.member)
        → Completion members c
    by rest (inl less) =
        let d : Course = record c { member = c.member + 1 } in
        let same : eqb c.member c.member ≡ true = grind arith in
        let comes : member_course c (Absent c.member) ≡ Some d = rw same refl in
        let small : c.member < 16 = omega (arith, less, few) in
        more members c d (Absent c.member) (absent_text c.member) (absent_line c.member small)
        (absent_fed c.member small) (next_member members c (Absent c.member) goes none less ∙ comes) rest
    by rest (inr done) = at_age members c goes none done

at_entry : (members k : ℕ) (c : Course) → members ≤ 16 → c.ended ≡ false → c.left ≡ k → Completion members c
at_entry members zero c few goes is = at_member members members c few goes is (omega arith)
at_entry members (suc k) c few goes is =
    let d : Course = record c { left = c.left - 1 } in
    more members c d (EntryLine filler) (entry_text filler) filler_line filler_fed (next_left members c
    (EntryLine filler) goes (omega (arith, is))) (at_entry members k d few goes (omega (arith, is)))

completes : (members : ℕ) (c : Course) → members ≤ 16 → Completion members c
completes members c few = by c.ended refl
  where
    by : (b : Bool) → c.ended ≡ b → Completion members c
    by true ended = at_end members c ended
    by false goes = at_entry members c.left c few goes refl

-- ---- lines that were read

zip_lines : (found : List Line) (done : List (List ℕ)) → AllZip IsOnly found done → AllZip IsLineText found done
zip_lines [] [] zip = tt
zip_lines [] (b ∷ done) zip = absurd zip
zip_lines (l ∷ found) [] zip = absurd zip
zip_lines (l ∷ found) (b ∷ done) zip = (zip.0.0, zip_lines found done zip.1)

zip_both : (xs us : List Line) (ys vs : List (List ℕ)) → AllZip IsLineText xs ys → AllZip IsLineText us vs
    → AllZip IsLineText (xs ++ us) (ys ++ vs)
zip_both [] us [] vs zip other = other
zip_both [] us (y ∷ ys) vs zip other = absurd zip
zip_both (x ∷ xs) us [] vs zip other = absurd zip
zip_both (x ∷ xs) us (y ∷ ys) vs zip other = (zip.0, zip_both xs us ys vs zip.1 other)

-- they are whole
done_fed : (found : List Line) (done rest : List (List ℕ)) → AllZip IsOnly found done → AreParts (done ++ rest)
    → AreFed done
done_fed [] [] rest zip parts = tt
done_fed [] (b ∷ done) rest zip parts = absurd zip
done_fed (l ∷ found) [] rest zip parts = absurd zip
done_fed (l ∷ found) (b ∷ done) rest zip parts =
    (whole_part b parts.0 (line_ends l b zip.0.0), done_fed found done rest zip.1 parts.1)

-- whatever has these lines has them as these
same_found : (found xs : List Line) (done ys : List (List ℕ)) → AllZip IsOnly found done → AllZip IsLineText xs ys
    → take (length done) ys ≡ done → (others : List Line) × (xs ≡ found ++ others)
same_found [] xs [] ys only zip same = (xs, refl)
same_found [] xs (b ∷ done) ys only zip same = absurd only
same_found (l ∷ found) xs [] ys only zip same = absurd only
same_found (l ∷ found) [] (b ∷ done) [] only zip same = absurd (omega (arith, ap length same))
same_found (l ∷ found) [] (b ∷ done) (y ∷ ys) only zip same = absurd zip
same_found (l ∷ found) (x ∷ xs) (b ∷ done) [] only zip same = absurd zip
same_found (l ∷ found) (x ∷ xs) (b ∷ done) (y ∷ ys) only zip same =
    let head : y ≡ b = cc in
    let tail : take (length done) ys ≡ done = cc in
    let one : x ≡ l = only.0.1 x (subst (IsLineText x) head zip.0) in
    let others = same_found found xs done ys only.1 zip.1 tail in
    (others.0, ap (λ (z : Line). z ∷ xs) one ∙ ap (λ zs. l ∷ zs) others.1)

after_none : (members : ℕ) (c : Course) → course_after members c [] ≡ Some c
unfolding course_after
after_none members c = refl

-- no more members come than there are
next_within : (members : ℕ) (c d : Course) (l : Line) → c.member ≤ members → next_course members c l ≡ Some d
    → d.member ≤ members
next_within members c d l within is = by l (next_comes members c d l is).1
  where
    by : (l : Line) → Comes members c l d → d.member ≤ members
    by (EntryLine e) (inl (some, w)) = omega (arith, within, ap (λ (x : Course). x.member) (same_Some _ d w))
    by (EntryLine e) (inr (none, inl (less, w))) = absurd (none-some d w)
    by (EntryLine e) (inr (none, inr (all, w))) = absurd (none-some d w)
    by (Present i h lo du) (inl (some, w)) = absurd (none-some d w)
    by (Present i h lo du) (inr (none, inl (less, w))) =
        omega (arith, less, ap (λ (x : Course). x.member) (member_comes c d i h lo du w).2)
    by (Present i h lo du) (inr (none, inr (all, w))) = absurd (none-some d w)
    by (Absent i) (inl (some, w)) = absurd (none-some d w)
    by (Absent i) (inr (none, inl (less, w))) =
        omega (arith, less, ap (λ (x : Course). x.member) (absent_comes c d i w).1)
    by (Absent i) (inr (none, inr (all, w))) = absurd (none-some d w)
    by (Age age start) (inl (some, w)) = absurd (none-some d w)
    by (Age age start) (inr (none, inl (less, w))) = absurd (none-some d w)
    by (Age age start) (inr (none, inr (all, w))) = omega (arith, ap (λ (x : Course). x.member) (same_Some _ d w))
    by Last (inl (some, w)) = absurd (none-some d w)
    by Last (inr (none, inl (less, w))) = absurd (none-some d w)
    by Last (inr (none, inr (all, w))) = omega (arith, within, ap (λ (x : Course). x.member) (same_Some _ d w))

-- ---- no report

module _ (members : ℕ) (text rest : List ℕ) (found : List Line) (c : Course) (few : members ≤ 16)
    (read : HasRead members text rest found c) where
  long : length found ≡ length read.done
  long = zip_long IsOnly found read.done read.lines

  taken : take (length found) (lines_of text) ≡ read.done
  taken = ap (take (length found)) read.parts ∙ take_at read.done (lines_of rest) (length found) (sym long)

  front : (other : List ℕ) × (r : Report) × IsReport members other r
      × (take (length found) (lines_of other) ≡ take (length found) (lines_of text))
  front =
      let fin = completes members c few in
      let ls = read.done ++ fin.bytes in
      let other = concat ls ++ [] in
      let fed = fed_both read.done fin.bytes
      (done_fed found read.done (lines_of rest) read.lines (subst AreParts read.parts (parts_of text))) fin.fed in
      let all : lines_of other ≡ ls = lines_fed ls [] fed ∙ (ap (λ zs. ls ++ zs) lines_none ∙ append-nil ls) in
      let whole : AreWhole members other (found ++ fin.lines) = record {
        lines = subst (λ (zs : List (List ℕ)). AllZip IsLineText (found ++ fin.lines) zs) (sym all)
            (zip_both found fin.lines read.done fin.bytes (zip_lines found read.done read.lines) fin.zip);
        course = fin.last;
        come = after_append members (beginning members) found fin.lines
            ∙ (ap (λ o. option_and_then (λ d. course_after members d fin.lines) o) read.come ∙ fin.come);
        ended = fin.ended;
      } in (
        other,
        record { ages = (read_from 1 (found ++ fin.lines)).ages },
        report_of members other (found ++ fin.lines) whole,
        ap (take (length found)) all ∙ (take_at read.done fin.bytes (length found) (sym long) ∙ sym taken),
      )

  -- a report with these lines goes on as what has come allows
  goes_on : (other : List ℕ) (r : Report) → IsReport members other r
      → take (length found) (lines_of other) ≡ take (length found) (lines_of text)
      → (others : List Line) × (report_lines r ≡ found ++ others)
      × ((d : Course) × (course_after members c others ≡ Some d) × (d.ended ≡ true))
  goes_on other r is same =
      let mine : take (length read.done) (lines_of other) ≡ read.done =
      ap (λ n. take n (lines_of other)) (sym long) ∙ (same ∙ taken) in
      let others = same_found found (report_lines r) read.done (lines_of other) read.lines is.lines mine in
      let comes = report_comes members r is.whole in (
        others.0,
        others.1,
        (
          comes.0,
          sym (ap (λ o. option_and_then (λ d. course_after members d others.0) o) read.come)
              ∙ (sym (after_append members (beginning members) found others.0)
              ∙ (ap (course_after members (beginning members)) (sym others.1) ∙ comes.1)),
          comes.2,
        ),
      )

  next_is : slice_get (lines_of text) (length found) ≡ slice_get (lines_of rest) 0
  next_is = ap (λ ls. slice_get ls (length found)) read.parts
      ∙ (ap (slice_get (read.done ++ lines_of rest)) long ∙ slice_get-append read.done (lines_of rest))

  -- the next line is none
  pub no_line : (b : List ℕ) → slice_get (lines_of rest) 0 ≡ Some b → ((l : Line) → IsLineText l b → ⊥)
      → IsNoReportAt members text (length found + 1)
  no_line b at not = record {
    place = length found;
    counted = refl;
    front = front;
    none = λ other r is same there.
        let l = zip_at IsLineText (report_lines r) (lines_of other) is.lines (length found) b
        (there ∙ (next_is ∙ at)) in
        not l.0 l.2;
  }

  -- it may not come
  pub no_next : (b : List ℕ) (l : Line) → slice_get (lines_of rest) 0 ≡ Some b → IsOnly l b
      → next_course members c l ≡ None → IsNoReportAt members text (length found + 1)
  no_next b l at only stuck = record {
    place = length found;
    counted = refl;
    front = front;
    none = λ other r is same there.
        let m = zip_at IsLineText (report_lines r) (lines_of other) is.lines (length found) b
        (there ∙ (next_is ∙ at)) in
        let on = goes_on other r is same in
        let first : slice_get on.0 0 ≡ Some l = sym (slice_get-append found on.0)
        ∙ (ap (λ ls. slice_get ls (length found)) (sym on.1) ∙ (m.1 ∙ ap Some (only.1 m.0 m.2))) in
        refused on.0 on.2.0 first (on.2.1, on.2.2);
  }
    where
      refused : (others : List Line) (d : Course) → slice_get others 0 ≡ Some l
          → (course_after members c others ≡ Some d) × (d.ended ≡ true) → ⊥
      refused [] d first comes = none-some l first
      refused (x ∷ others) d first comes =
          let e = after_first members c d x others comes.0 in
          none-some e.0 (sym (ap (next_course members c) (same_Some x l first) ∙ stuck) ∙ e.1)

  -- either of these
  pub stops : (b : List ℕ) → slice_get (lines_of rest) 0 ≡ Some b → ((l : Line) → IsLineText l b → ⊥)
      ⊎ ((l : Line) × IsOnly l b × (next_course members c l ≡ None)) → IsNoReportAt members text (length found + 1)
  stops b at (inl not) = no_line b at not
  stops b at (inr may) = no_next b may.0 at may.1 may.2

  -- there is none, and what has come isn't the end
  pub no_end : rest ≡ [] → c.ended ≡ false → IsNoReportAt members text (length found + 1)
  no_end none goes = record {
    place = length found;
    counted = refl;
    front = front;
    none = λ other r is same there.
        let on = goes_on other r is same in
        let out : slice_get (lines_of other) (length found) ≡ None =
        there ∙ (next_is ∙ ap (λ ls. slice_get ls 0) (ap lines_of none ∙ lines_none)) in
        refused other r is out on.0 on.1 on.2.0 (on.2.1, on.2.2);
  }
    where
      refused : (other : List ℕ) (r : Report) → IsReport members other r
          → slice_get (lines_of other) (length found) ≡ None → (others : List Line) → report_lines r ≡ found
          ++ others → (d : Course) → (course_after members c others ≡ Some d) × (d.ended ≡ true) → ⊥
      refused other r is out [] parts d comes = false≢true (sym goes
          ∙ (ap (λ (e : Course). e.ended) (same_Some c d (sym (after_none members c) ∙ comes.0)) ∙ comes.1))
      refused other r is out (x ∷ others) parts d comes =
          let here : slice_get (report_lines r) (length found) ≡ Some x =
          ap (λ ls. slice_get ls (length found)) parts ∙ slice_get-append found (x ∷ others) in
          let b = zip_to IsLineText (report_lines r) (lines_of other) is.lines (length found) x here in
          none-some b.0 (sym out ∙ b.1)

  -- it has come
  pub one_more : (b : List ℕ) (l : Line) (e : Course) (others : List ℕ) → lines_of rest ≡ b ∷ lines_of others
      → IsOnly l b → next_course members c l ≡ Some e → HasRead members text others (found ++ l ∷ []) e
  one_more b l e others parts only is_next = record {
    done = read.done ++ b ∷ [];
    parts = read.parts ∙ (ap (λ ls. read.done ++ ls) parts ∙ sym (append_assoc read.done (b ∷ []) (lines_of others)));
    lines = zip_push IsOnly found read.done l b read.lines only;
    come = after_append members (beginning members) found (l ∷ [])
        ∙ (ap (λ o. option_and_then (λ d. course_after members d (l ∷ [])) o) read.come ∙ one is_next);
    within = next_within members c e l read.within is_next;
  }
    where
      one : next_course members c l ≡ Some e → course_after members c (l ∷ []) ≡ Some e
      one is_next = after_next members c e l [] is_next ∙ after_none members e

  -- there is none, and what has come is the end
  pub all_read : rest ≡ [] → c.ended ≡ true → AreWhole members text found
  all_read none ended = record {
    lines = subst (λ (ls : List (List ℕ)). AllZip IsLineText found ls)
        (sym (read.parts ∙ (ap (λ ls. read.done ++ ls) (ap lines_of none ∙ lines_none) ∙ append-nil read.done)))
        (zip_lines found read.done read.lines);
    course = c;
    come = read.come;
    ended = ended;
  }

-- nothing was read yet
pub none_read : (members : ℕ) (text : List ℕ) → HasRead members text text [] (beginning members)
unfolding course_after
none_read members text = record { done = []; parts = refl; lines = tt; come = refl; within = omega arith }

-- a report is its ages
pub same_report : (r : Report) (ages : List ReportAge) → r.ages ≡ ages → r ≡ record { ages = ages }
same_report r ages same = ap (λ (xs : List ReportAge). record r { ages = xs }) same
