-- What is printed of a script that was played is judged right.
use Rattle.std.proofs.Common.{◌≡◌, ◌↔◌, inl, inr, refl, sym, ap, ◌∙◌, subst, ℕ, arith, List, ◌++◌, Option, None, Some}
use Rattle.dr_entry.proofs.NumberFacts.{IsRunEnd}
use Rattle.dr_ages.specs.declared.part.Part.{Part}
use Rattle.dr_check.specs.{Flaws.IsFirstFlaw, Verdicts.{IsVerdict, verdict_line}, declared.report.Report.Report}
use Rattle.dr_check.{specs.declared.verdict.Verdict.Verdict, proofs.{Flawless.unflawed, OneReport.one_report}}
use Rattle.dr_check.specs.declared.verdict.Verdict.TheVariants as verdicts
use Rattle.dr_intake.specs.Status.{status_of}
use Rattle.dr_outcome.specs.declared.outcome.Body.TheVariants as bodies
use Rattle.dr_outcome.specs.Outcome.{HasPlayed, HasRun, OfScript, Plays, WasPlayedOrNot, body_text, outcome_text}
use Rattle.dr_outcome.specs.{Playing.{InFolder, Playing, part_in}, declared.outcome.{Body.Body, Outcome.Outcome}}
use Rattle.dr_outcome.proofs.{KindsFurther.unplayed, OutcomeKinds.refused}
use Rattle.dr_script.specs.{Json.json_of, Reading.{NotJson, Reading, Reads, TooLong, Wrong, reading_of}}
use Rattle.dr_script.specs.declared.script.Script.{Script}
use Rattle.dr_text.specs.{Report.{last_text, report_text}, declared.last.Last.Last}
use Rattle.dr_text.specs.declared.last.Last.TheVariants as lasts
use Rattle.dr_yard.specs.Yards.{YardState, empty_yard}
use Rattle.dr_commands.specs.Check.{DisksTell, HandsIn, IsChecked, IsJudgedRight, SaysOfScript, SaysOfStrings, SaysOfValue, TellsVerdict}
use Rattle.dr_commands.proofs.RunsRight.{run_right}

-- ---- one verdict

-- of a text that is right nothing else is said
one_verdict : (script : Script) (text : List ℕ) (last : Last) → TellsVerdict script text lasts.Right
    → TellsVerdict script text last → last ≡ lasts.Right
one_verdict script text last (v, right, told) (w, is, said) = sym said ∙ by v w right told is
  where
    by : (v w : Verdict) → IsVerdict script text v → verdict_line v ≡ lasts.Right → IsVerdict script text w
        → verdict_line w ≡ lasts.Right
    by v (verdicts.Right r) right told is = refl
    by (verdicts.Right q) (verdicts.NoReport line) right told is = absurd (is.none text q right.0 refl refl)
    by (verdicts.Right q) (verdicts.Wrong r flaw) right told is = absurd (unflawed script q flaw right.1
        (subst (λ (x : Report). IsFirstFlaw script x flaw) (one_report script.members text r q is.0 right.0) is.1))
    by (verdicts.Wrong q flaw) w right told is = absurd (cc told)
    by (verdicts.NoReport line) w right told is = absurd (cc told)

-- ---- a script that was played

played_right : (play : Playing) (script : Script) (before after : YardState) (o : Outcome) (last : Last)
    → HasPlayed play script before after o → o.body ≡ bodies.Report → o.last ≡ Some last → IsRunEnd (status_of last)
    → DisksTell play.folder script.members before → TellsVerdict script (outcome_text o last) lasts.Right
played_right play script before after o last played report is end tell =
    subst (λ text. TellsVerdict script (text ++ last_text last) lasts.Right)
    (ap (λ (b : Body). body_text b o.ages) (sym report)) (by play.folder played.run tell)
  where
    part : Part
    part = part_in play

    by : (folder : Option InFolder) → HasRun play.mode folder part script before after o.ages o.stop
        → DisksTell folder script.members before → TellsVerdict script (report_text o.ages last) lasts.Right
    by (Some folder) run tell = run_right script part play.mode before after o.ages o.stop last played.ranges tell run
        (sym played.line ∙ is) end
    by None run tell = run_right script part play.mode empty_yard run.1.after o.ages o.stop last played.ranges
        (λ m below. refl) run.1.run (sym played.line ∙ is) end

reading_right : (play : Playing) (before after : YardState) (o : Outcome) (last : Last) (r : Reading)
    → OfScript (λ script result. WasPlayedOrNot play script before after result) r before after o → o.last ≡ Some last → IsRunEnd (status_of last)
    → ((script : Script) → r ≡ Reads script → DisksTell play.folder script.members before)
    → (script : Script) × (r ≡ Reads script) × TellsVerdict script (outcome_text o last) lasts.Right
reading_right play before after o last (Reads script) (inl played) is end tell = (
  script,
  refl,
  played_right play script before after o last played.0 played.1 is end (tell script refl),
)
reading_right play before after o last (Reads script) (inr says) is end tell =
    absurd (unplayed last before after o says.1 is end)
reading_right play before after o last TooLong says is end tell =
    absurd (refused lasts.TooLong last before after o refl says is end)
reading_right play before after o last NotJson says is end tell =
    absurd (refused lasts.NotJson last before after o refl says is end)
reading_right play before after o last (Wrong rule path) says is end tell =
    absurd (refused (lasts.Rule rule path) last before after o refl says is end)

-- what is right is judged so
judged_right : (bytes text : List ℕ) (script : Script) → reading_of bytes ≡ Reads script
    → TellsVerdict script text lasts.Right → IsJudgedRight bytes text
judged_right bytes text script read right = record {
  right = subst (λ r. SaysOfScript r text lasts.Right) (sym read) right;
  only = λ last says. one_verdict script text last right (subst (λ r. SaysOfScript r text last) read says);
}

pub plays_right : (play : Playing) (bytes : List ℕ) (before after : YardState) (o : Outcome) (last : Last)
    → Plays play bytes before after o → o.last ≡ Some last → IsRunEnd (status_of last)
    → ((script : Script) → reading_of bytes ≡ Reads script → DisksTell play.folder script.members before)
    → IsJudgedRight bytes (outcome_text o last)
plays_right play bytes before after o last plays is end tell =
    let right = reading_right play before after o last (reading_of bytes) plays is end tell in
    judged_right bytes (outcome_text o last) right.0 right.1 right.2

-- ---- what a check says

-- what is said of what bytes hand in is what is said of the texts
said_of : (bytes script text : List ℕ) (last : Last) → HandsIn bytes script text
    → SaysOfValue (json_of bytes) last ↔ SaysOfScript (reading_of script) text last
said_of bytes script text last hands = (
  λ says. subst (λ (t : Option (List ℕ × List ℕ)). SaysOfStrings t last) hands.texts
      (subst (λ d. SaysOfValue d last) hands.spelled says),
  λ says. subst (λ d. SaysOfValue d last) (sym hands.spelled)
      (subst (λ (t : Option (List ℕ × List ℕ)). SaysOfStrings t last) (sym hands.texts) says),
)

pub tells_right : (bytes script text : List ℕ) (last : Last) → HandsIn bytes script text
    → IsJudgedRight script text → IsChecked bytes last ↔ (last ≡ lasts.Right)
tells_right bytes script text last hands right = (
  λ checked. right.only last ((said_of bytes script text last hands).0 (checked.read hands.few)),
  λ is. record {
    long = λ more. absurd (omega (arith, more, hands.few));
    read = λ few. (said_of bytes script text last hands).1
        (subst (λ (l : Last). SaysOfScript (reading_of script) text l) (sym is) right.right);
  },
)
