-- What is printed of a script that was played is judged right.
use Rattle.std.proofs.Common.{◌≡◌, refl, sym, ◌∙◌, subst, inl, inr, ℕ, arith, List, Option, None, Some}
use Rattle.std.proofs.lemmas.Option.{none-some, same_Some}
use Rattle.dr_entry.proofs.NumberFacts.{IsRunEnd, apart, not_early}
use Rattle.dr_intake.specs.{Answer.{WasReadFor, done, no_memory, no_source, usage}, Status.status_of}
use Rattle.dr_io.specs.Sink.{Gains}
use Rattle.dr_outcome.specs.{Outcome.{Plays, outcome_text}, Playing.Playing, declared.outcome.Outcome.Outcome}
use Rattle.dr_text.specs.declared.last.Last.{Last}
use Rattle.dr_commands.specs.{Outcome.{Does, IsWritten, WasJudgedRight, WroteOrNot}, Words.{asked_by, reads}}
use Rattle.dr_commands.specs.declared.words.Command.{Command, TheVariants.Play}
use Rattle.dr_commands.proofs.{Course.{Call, IsCourse, Writes, unsaid}, PlayedRight.plays_right}

-- the whole text was written, with the status of its last line
written : (held holds : Option (List ℕ)) (fell falls status : ℕ) (o : Outcome) (line : Last)
    → WroteOrNot held holds fell falls status o → o.last ≡ Some line → IsRunEnd status
    → (status ≡ status_of line) × Gains held holds (outcome_text o line)
written held holds fell falls status o line wrote is end = by (subst (Writes held holds fell falls status o) is wrote)
  where
    by : IsWritten held holds fell falls status (status_of line) (outcome_text o line)
        → (status ≡ status_of line) × Gains held holds (outcome_text o line)
    by (inl gave) = absurd (not_early status end (inl gave.0))
    by (inr (inl whole)) = whole
    by (inr (inr part)) = absurd (not_early status end (inr part.0))

-- a call that was to play a script, and ended with one of the statuses of a run
pub judged_so : (c : Call) (held holds : Option (List ℕ)) (fell falls status : ℕ) (play : Playing) → IsCourse c
    → WroteOrNot held holds fell falls status c.outcome → asked_by c.words ≡ Some (Play play)
    → IsRunEnd status → WasJudgedRight play.folder c.old c.new held holds c.before
judged_so c held holds fell falls status play course wrote asked end = elim course [
  | usage none kept alone ↦ absurd (none-some (Play play) (sym none ∙ asked))
  | no_source k known reading rose alone ↦
      let due = (written held holds fell falls status c.outcome _ wrote alone.line end).0 in
      absurd (apart 4 status (λ e. omega (arith, e)) (λ e. omega (arith, e)) (λ e. omega (arith, e)) due end)
  | no_memory k known alone ↦
      absurd (not_early status end (unsaid held holds fell falls status c.outcome wrote alone.line))
  | done k known bytes was has ↦
      let same : k ≡ Play play = same_Some k (Play play) (sym known ∙ asked) in
      by bytes (subst (λ (j : Command). WasReadFor (reads j) c.old c.new bytes) same was)
      (subst (λ (j : Command). Does j bytes c.before c.after c.outcome) same has.does) c.outcome.last refl
]
  where
    by : (bytes : List ℕ) → WasReadFor (reads (Play play)) c.old c.new bytes
        → Plays play bytes c.before c.after c.outcome → (last : Option Last) → c.outcome.last ≡ last
        → WasJudgedRight play.folder c.old c.new held holds c.before
    by bytes was plays None is =
        absurd (not_early status end (unsaid held holds fell falls status c.outcome wrote is))
    by bytes was plays (Some line) is =
        let text = written held holds fell falls status c.outcome line wrote is end in
        record {
          bytes = bytes;
          read = was;
          text = outcome_text c.outcome line;
          written = text.1;
          right = λ tell. plays_right play bytes c.before c.after c.outcome line plays is
              (subst IsRunEnd text.0 end) tell;
        }
