-- Each line ends with its line feed, and some lines as they are printed.
use Rattle.std.specs.Fmt.{decimal}
use Rattle.std.proofs.Common.{◌≡◌, refl, sym, ap, ◌∙◌, subst, ℕ, ◌<◌, arith, List, [], ◌∷◌, ◌++◌, codes, append_assoc}
use Rattle.dr_entry.proofs.{Entries.filler, ListFacts.{EndsFed, IsFed, free_both, ends_concat}, PlainFacts.feed}
use Rattle.dr_entry.proofs.Texts.{free_number}
use Rattle.dr_text.specs.{Report.{end_text, entry_text, last_text, whole_text}, declared.last.Last.Last}
use Rattle.dr_text.proofs.Reports.{entry_ends}
use Rattle.dr_text.specs.declared.last.Last.TheVariants as lasts
use Rattle.dr_check.specs.{Lines.{IsLineText, LastFits, absent_text}, declared.line.Line.Line}
use Rattle.dr_check.specs.declared.line.Line.TheVariants as lines

last_ends : (l : Last) → LastFits l → EndsFed (last_text l)
last_ends lasts.Done fits = (codes "ok", refl)
last_ends (lasts.DiskFault member) fits =
    ends_concat (codes "fault: disk of member ") (decimal member ∷ codes "\n" ∷ []) feed
last_ends (lasts.Damaged member at) fits =
    ends_concat (codes "refused: damaged log of member ") (decimal member ∷ codes " at " ∷ decimal at
    ∷ codes "\n" ∷ []) feed
last_ends (lasts.Foreign member place) fits = ends_concat (codes "refused: foreign log of member ")
    (decimal member ∷ codes " at entry " ∷ decimal place ∷ codes "\n" ∷ []) feed
last_ends (lasts.Disagree a b place) fits = ends_concat (codes "refused: logs of members ")
    (decimal a ∷ codes " and " ∷ decimal b ∷ codes " disagree at entry " ∷ decimal place ∷ codes "\n" ∷ []) feed
last_ends lasts.AgesUsedUp fits = (codes "refused: ages used up", refl)
last_ends lasts.Unfinished fits = (codes "unfinished", refl)
last_ends lasts.NoMajority fits = (codes "no majority", refl)
last_ends (lasts.LogFull member) fits =
    ends_concat (codes "fault: log full of member ") (decimal member ∷ codes "\n" ∷ []) feed
last_ends (lasts.NoQuorum view have need) fits = ends_concat (codes "refused: quorum of ")
    (whole_text view ∷ codes " has " ∷ decimal have ∷ codes " of " ∷ decimal need ∷ codes "\n" ∷ []) feed
last_ends lasts.Usage fits = absurd fits
last_ends lasts.TooLong fits = absurd fits
last_ends lasts.NotJson fits = absurd fits
last_ends (lasts.Rule rule path) fits = absurd fits
last_ends lasts.SourceFault fits = absurd fits
last_ends (lasts.NoShard n m) fits = absurd fits
last_ends (lasts.ManyAges n) fits = absurd fits
last_ends (lasts.Crosses n) fits = absurd fits
last_ends lasts.NotCheck fits = absurd fits
last_ends (lasts.NoReport n) fits = absurd fits
last_ends lasts.Right fits = absurd fits
last_ends (lasts.Wrong k n) fits = absurd fits

pub line_ends : (l : Line) (bytes : List ℕ) → IsLineText l bytes → EndsFed bytes
line_ends (lines.Age age start) bytes is = subst EndsFed (sym is.2)
    (ends_concat (codes "age ") (decimal age ∷ codes " start " ∷ decimal start ∷ codes "\n" ∷ []) feed)
line_ends (lines.Present member history logged durable) bytes is = subst EndsFed (sym is.4.2)
    (ends_concat (codes "member ") (decimal member ∷ codes " " ∷ end_text is.4.0 ∷ codes " history " ∷ decimal history
    ∷ codes " logged " ∷ decimal logged ∷ codes " durable " ∷ decimal durable ∷ codes "\n" ∷ []) feed)
line_ends (lines.Absent member) bytes is = subst EndsFed (sym is.1)
    (ends_concat (codes "member ") (decimal member ∷ codes " absent\n" ∷ []) (codes " absent", refl))
line_ends (lines.Entry e) bytes is = subst EndsFed (sym is.1) (entry_ends e)
line_ends lines.Last bytes is = subst EndsFed (sym is.2) (last_ends is.0 is.1)

pub filler_line : IsLineText (lines.Entry filler) (entry_text filler)
filler_line = (
  (omega arith, omega arith, record { few = omega arith; small = λ k d within. absurd (omega (arith, within)) }),
  refl,
)

pub last_line : IsLineText lines.Last (codes "ok\n")
last_line = (lasts.Done, tt, refl)

pub absent_line : (n : ℕ) → n < 16 → IsLineText (lines.Absent n) (absent_text n)
absent_line n l = (l, refl)

pub absent_fed : (n : ℕ) → n < 16 → IsFed (absent_text n)
absent_fed n l = (
  codes "member " ++ (decimal n ++ codes " absent"),
  free_both (codes "member ") (decimal n ++ codes " absent") refl
      (free_both (decimal n) (codes " absent") (free_number n l) refl),
  (let e : codes " absent\n" ++ [] ≡ codes " absent" ++ 10 ∷ [] = refl in
      ap (λ xs. codes "member " ++ (decimal n ++ xs)) e
      ∙ (ap (λ xs. codes "member " ++ xs) (sym (append_assoc (decimal n) (codes " absent") (10 ∷ [])))
      ∙ sym (append_assoc (codes "member ") (decimal n ++ codes " absent") (10 ∷ [])))),
)
