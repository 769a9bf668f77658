-- Why the status of a call is what it is, and what its clauses say in each case.
use Rattle.std.{specs.{Prelude.MatchOption, declared.alloc.Global.Global}, proofs.lemmas.Option.same_Some}
use Rattle.std.proofs.Common.{◌≡◌, ◌⊎◌, refl, sym, ap, ◌∙◌, subst, inl, inr, ℕ, ◌<◌, Bool, true, false, true≢false, IsTrue, arith, List, [], ◌∷◌, Contains, Option, None, Some, IfSome, is_some, if◌then◌else◌, String}
use Rattle.dr_entry.proofs.{Bits.lacks, ListParts.{contains_more, in_early}}
use Rattle.dr_entry.proofs.NumberFacts.{IsEarly, IsUnrun, late, not_unrun}
use Rattle.dr_intake.specs.{Answer.{WasReadFor, done, no_memory, no_source, usage}, Reading.WasRead, Status.status_of}
use Rattle.dr_intake.proofs.Intakes.{same_read}
use Rattle.dr_io.specs.{Faults.Rose, Sink.Gains}
use Rattle.dr_script.specs.Reading.{Reading, Reads, reading_of}
use Rattle.dr_text.specs.declared.last.Last.{Last}
use Rattle.dr_text.specs.declared.last.Last.TheVariants as lasts
use Rattle.dr_yard.specs.Yards.{YardState}
use Rattle.dr_outcome.specs.Last.{refusal_of, some_end, some_so}
use Rattle.dr_outcome.specs.Outcome.{HasDone, OfScript, Plays, TellsDisks, WasPlayedOrNot, by_run, outcome_text, unrun, unrun_ends}
use Rattle.dr_outcome.specs.declared.last.Kind.TheVariants.{DiskFault, LogFull, NoMajority, Spent}
use Rattle.dr_outcome.{specs.declared.outcome.Outcome.Outcome, proofs.Due.{late_reading, run_rank}}
use Rattle.dr_outcome.proofs.OutcomeKinds.{IsQuiet, Rank, by_disk, by_logs, by_full, by_turns, by_split, by_none, quiet, usage_or_not, ranked, unplayed}
use Rattle.dr_commands.specs.Outcome.{AsksLate, Course, Does, Exactly, IsWritten, WroteOrNot}
use Rattle.dr_commands.specs.Words.{IsCommand, asked_by, ends_of, reads, statuses_of, told_by}
use Rattle.dr_commands.specs.declared.words.Command.{Command, TheVariants.{Check, Drill, Live, Play, Shards, Store}}

-- a call: its words, its source and its yard before and after, and what it came to
pub record Call : Type 0 where
  pub words : List (String Global)
  pub old : Option (List ℕ)
  pub new : Option (List ℕ)
  pub failed : ℕ
  pub fails : ℕ
  pub before : YardState
  pub after : YardState
  pub outcome : Outcome

abbrev pub IsCourse : Call → Type 0
IsCourse c = Course c.words c.old c.new c.failed c.fails c.before c.after c.outcome

-- why the status is what it is
pub data Standing (c : Call) (status : ℕ) : Type 0 where
  early : IsEarly status → Standing c status
  bad_words : status ≡ 2 → asked_by c.words ≡ None → IsQuiet c.outcome → Standing c status
  all_late : status ≡ 2 → (k : Command) → asked_by c.words ≡ Some k → Contains (ends_of k) status
      → AsksLate c.words c.old c.new → IsQuiet c.outcome → Standing c status
  bad_source : status ≡ 4 → (k : Command) → asked_by c.words ≡ Some k → IsTrue (reads k)
      → Rose c.failed c.fails → IsQuiet c.outcome → Standing c status
  has_run : (k : Command) → asked_by c.words ≡ Some k → Contains (ends_of k) status → Rank c.outcome status
      → Standing c status
  has_not : (k : Command) → asked_by c.words ≡ Some k → Contains (ends_of k) status → IsUnrun status
      → IsQuiet c.outcome → Standing c status

-- the status behind what was written, of a last line, and of none
status_by : (held holds : Option (List ℕ)) (fell falls status due : ℕ) (text : List ℕ)
    → IsWritten held holds fell falls status due text → IsEarly status ⊎ (status ≡ due)
status_by held holds fell falls status due text (inl gave) = inl (inl gave.0)
status_by held holds fell falls status due text (inr (inl whole)) = inr whole.0
status_by held holds fell falls status due text (inr (inr part)) = inl (inr part.0)

-- what is written of an outcome with this last line
abbrev pub Writes : Option (List ℕ) → Option (List ℕ) → ℕ → ℕ → ℕ → Outcome → Option Last → Type 0
Writes held holds fell falls status o last = MatchOption last ((status ≡ 10) × Gains held holds [])
    (λ line. IsWritten held holds fell falls status (status_of line) (outcome_text o line))

pub said : (held holds : Option (List ℕ)) (fell falls status : ℕ) (o : Outcome) (line : Last)
    → WroteOrNot held holds fell falls status o → o.last ≡ Some line → IsEarly status ⊎ (status ≡ status_of line)
said held holds fell falls status o line wrote is = status_by held holds fell falls status
    (status_of line) (outcome_text o line) (subst (Writes held holds fell falls status o) is wrote)

pub unsaid : (held holds : Option (List ℕ)) (fell falls status : ℕ) (o : Outcome)
    → WroteOrNot held holds fell falls status o → o.last ≡ None → IsEarly status
unsaid held holds fell falls status o wrote is = inl (subst (Writes held holds fell falls status o) is wrote).0

-- ---- the usage

-- so it is where the last line of any command is the usage: no other one has that status
late_asked : (c : Call) (k : Command) (bytes : List ℕ) (line : Last) → asked_by c.words ≡ Some k
    → WasReadFor (reads k) c.old c.new bytes → Does k bytes c.before c.after c.outcome → c.outcome.last ≡ Some line
    → status_of line ≡ 2 → Contains (ends_of k) 2 → AsksLate c.words c.old c.new
late_asked c (Play play) bytes line asked was plays is two known =
    let found = late_reading play c.before c.after c.outcome line (reading_of bytes) plays is two in
    record { play = play; asked = asked; script = found.0; read = (bytes, was, found.1); late = found.2 }
late_asked c (Store key version) bytes line asked was does is two known = absurd (lacks 2 (3 ∷ 0 ∷ 8 ∷ 9 ∷ [])
    (λ e. omega (arith, e), (λ e. omega (arith, e), (λ e. omega (arith, e), (λ e. omega (arith, e), tt)))) known)
late_asked c (Drill number) bytes line asked was does is two known =
    absurd (lacks 2 (0 ∷ 8 ∷ 9 ∷ []) (λ e. omega (arith, e), (λ e. omega (arith, e), (λ e. omega (arith, e), tt))) known)
late_asked c (Shards sharding) bytes line asked was does is two known = absurd (lacks 2 (3 ∷ 12 ∷ 0 ∷ 8 ∷ 9 ∷ []) (
  λ e. omega (arith, e),
  (λ e. omega (arith, e), (λ e. omega (arith, e), (λ e. omega (arith, e), (λ e. omega (arith, e), tt)))),
) known)
late_asked c (Live rounds) bytes line asked was does is two known =
    absurd (lacks 2 (3 ∷ 0 ∷ 8 ∷ []) (λ e. omega (arith, e), (λ e. omega (arith, e), (λ e. omega (arith, e), tt))) known)
late_asked c Check bytes line asked was does is two known =
    absurd (lacks 2 (0 ∷ 3 ∷ 13 ∷ []) (λ e. omega (arith, e), (λ e. omega (arith, e), (λ e. omega (arith, e), tt))) known)

-- a command that did what it does, and whose last line is written
done_standing : (c : Call) (held holds : Option (List ℕ)) (fell falls status : ℕ) (k : Command)
    (bytes : List ℕ) → asked_by c.words ≡ Some k → WasReadFor (reads k) c.old c.new bytes
    → HasDone (Does k bytes) (ends_of k) c.before c.after c.outcome
    → WroteOrNot held holds fell falls status c.outcome → (last : Option Last) → c.outcome.last ≡ last
    → Standing c status
done_standing c held holds fell falls status k bytes asked was has wrote None is =
    early (unsaid held holds fell falls status c.outcome wrote is)
done_standing c held holds fell falls status k bytes asked was has wrote (Some line) is =
    elim (said held holds fell falls status c.outcome line wrote is) [
      | inl first ↦ early first
      | inr due ↦ elim has.due [
        | by_run told ↦ has_run k asked (known due) (run_rank c.outcome status line (sym told ∙ is) due)
        | unrun none unstopped tells ↦ by due (quiet c.outcome none unstopped)
            (usage_or_not status (subst (Contains unrun_ends) (sym due)
            (subst (λ (l : Option Last). IfSome l (λ x. Contains unrun_ends (status_of x))) is tells)))
      ]
    ]
  where
    known : status ≡ status_of line → Contains (ends_of k) status
    known due = subst (Contains (ends_of k)) (sym due)
        (subst (λ (l : Option Last). IfSome l (λ x. Contains (ends_of k) (status_of x))) is has.known)

    by : status ≡ status_of line → IsQuiet c.outcome → (status ≡ 2) ⊎ IsUnrun status → Standing c status
    by due calm (inl two) = all_late two k asked (known due) (late_asked c k bytes line asked was has.does is
        (sym due ∙ two) (subst (Contains (ends_of k)) two (known due))) calm
    by due calm (inr few) = has_not k asked (known due) few calm

-- a call that has been written
pub standing_of : (c : Call) (held holds : Option (List ℕ)) (fell falls status : ℕ) → IsCourse c
    → WroteOrNot held holds fell falls status c.outcome → Standing c status
standing_of c held holds fell falls status course wrote = elim course [
  | usage none kept alone ↦ elim (said held holds fell falls status c.outcome _ wrote alone.line) [
    | inl first ↦ early first
    | inr due ↦ bad_words due none (quiet c.outcome alone.none alone.unstopped)
  ]
  | no_source k asked reading rose alone ↦ elim (said held holds fell falls status c.outcome _ wrote alone.line) [
    | inl first ↦ early first
    | inr due ↦ bad_source due k asked reading rose (quiet c.outcome alone.none alone.unstopped)
  ]
  | no_memory k asked alone ↦ early (unsaid held holds fell falls status c.outcome wrote alone.line)
  | done k asked bytes was has ↦
      done_standing c held holds fell falls status k bytes asked was has wrote c.outcome.last refl
]

-- a disk that failed is told by the status, unless an earlier one is
pub disk_told_of : (c : Call) (held holds : Option (List ℕ)) (fell falls status : ℕ) → IsCourse c
    → WroteOrNot held holds fell falls status c.outcome
    → ((m : ℕ) → c.after.faults m ≡ c.before.faults m) ⊎ Contains (6 ∷ 10 ∷ 5 ∷ []) status
disk_told_of c held holds fell falls status course wrote = elim course [
  | usage none kept alone ↦ inl (λ m. ap (λ (yard : YardState). yard.faults m) alone.untouched)
  | no_source k asked reading rose alone ↦ inl (λ m. ap (λ (yard : YardState). yard.faults m) alone.untouched)
  | no_memory k asked alone ↦ inl (λ m. ap (λ (yard : YardState). yard.faults m) alone.untouched)
  | done k asked bytes was has ↦ by c.outcome.last refl has.told
]
  where
    sooner : IsEarly status → Contains (6 ∷ 10 ∷ 5 ∷ []) status
    sooner (inl is) = (1, omega arith, sym is)
    sooner (inr is) = (2, omega arith, sym is)

    by : (last : Option Last) → c.outcome.last ≡ last → TellsDisks c.before c.after c.outcome.last
        → ((m : ℕ) → c.after.faults m ≡ c.before.faults m) ⊎ Contains (6 ∷ 10 ∷ 5 ∷ []) status
    by None is told = inr (sooner (unsaid held holds fell falls status c.outcome wrote is))
    by (Some line) is told = elim (said held holds fell falls status c.outcome line wrote is) [
      | inl first ↦ inr (sooner first)
      | inr due ↦ elim (subst (TellsDisks c.before c.after) is told) [
        | inl none ↦ inl none
        | inr six ↦ inr (0, omega arith, sym (due ∙ six))
      ]
    ]

-- a high status tells of a run
rank_of : (c : Call) (due status : ℕ) → status ≡ due → 5 < due → due < 12 → (due ≡ 10 → ⊥) → Standing c status
    → Rank c.outcome status
rank_of c due status is above below ten standing = elim standing [
  | early e ↦ absurd (late due status is ten (λ five. omega (arith, above, five)) e)
  | bad_words e none calm ↦ absurd (omega (arith, above, is, e))
  | all_late e k asked known late calm ↦ absurd (omega (arith, above, is, e))
  | bad_source e k asked reading rose calm ↦ absurd (omega (arith, above, is, e))
  | has_run k asked known rank ↦ rank
  | has_not k asked known few calm ↦ absurd (not_unrun status few
      (λ e. omega (arith, above, is, e)) (λ e. omega (arith, above, is, e)) (omega (arith, is, below)))
]

-- what has come is told, unless something earlier is
unless_of : (c : Call) (status due : ℕ) (rest : List ℕ) (test : Bool) → test ≡ true
    → (IsQuiet c.outcome → test ≡ false) → (Rank c.outcome status → (status ≡ due) ⊎ Contains (10 ∷ 5 ∷ rest) status)
    → Standing c status → (status ≡ due) ⊎ Contains (10 ∷ 5 ∷ rest) status
unless_of c status due rest test came silent ranks standing = elim standing [
  | early e ↦ inr (in_early rest status e)
  | bad_words e none calm ↦ absurd (true≢false (sym came ∙ silent calm))
  | all_late e k asked known late calm ↦ absurd (true≢false (sym came ∙ silent calm))
  | bad_source e k asked reading rose calm ↦ absurd (true≢false (sym came ∙ silent calm))
  | has_run k asked known rank ↦ ranks rank
  | has_not k asked known few calm ↦ absurd (true≢false (sym came ∙ silent calm))
]

pub usage_of : {c : Call} {status : ℕ} → Standing c status → status ≡ 2
    → (IsCommand c.words → ⊥) ⊎ AsksLate c.words c.old c.new
usage_of {c} {status} standing is = elim standing [
  | early e ↦ absurd (late 2 status is (λ e. omega (arith, e)) (λ e. omega (arith, e)) e)
  | bad_words e none calm ↦ inl (λ known. true≢false (sym known ∙ ap is_some none))
  | all_late e k asked known asks calm ↦ inr asks
  | bad_source e k asked reading rose calm ↦ absurd (omega (arith, is, e))
  | has_run k asked known rank ↦ absurd (ranked c.outcome status rank (omega (arith, is)) (omega (arith, is)))
  | has_not k asked known few calm ↦
      absurd (not_unrun status few (λ e. omega (arith, is, e)) (λ e. omega (arith, is, e)) (omega (arith, is)))
]

pub usage_told_of : {c : Call} {status : ℕ} → Standing c status → (IsCommand c.words → ⊥)
    → (status ≡ 2) ⊎ Contains (10 ∷ 5 ∷ []) status
usage_told_of {c} {status} standing other = elim standing [
  | early e ↦ inr (in_early [] status e)
  | bad_words e none calm ↦ inl e
  | all_late e k asked known asks calm ↦ inl e
  | bad_source e k asked reading rose calm ↦ absurd (other (ap is_some asked))
  | has_run k asked known rank ↦ absurd (other (ap is_some asked))
  | has_not k asked known few calm ↦ absurd (other (ap is_some asked))
]

pub late_told_of : (c : Call) (held holds : Option (List ℕ)) (fell falls status : ℕ) → IsCourse c
    → WroteOrNot held holds fell falls status c.outcome → IsTrue (is_some c.old) → AsksLate c.words c.old c.new
    → (status ≡ 2) ⊎ Contains (10 ∷ 5 ∷ 4 ∷ []) status
late_told_of c held holds fell falls status course wrote tells asks = elim course [
  | usage none kept alone ↦ by lasts.Usage alone.line (inl refl)
  | no_source k asked reading rose alone ↦ by lasts.SourceFault alone.line (inr refl)
  | no_memory k asked alone ↦
      inr (in_early (4 ∷ []) status (unsaid held holds fell falls status c.outcome wrote alone.line))
  | done k asked bytes was has ↦
      let same : k ≡ Play asks.play = same_Some k (Play asks.play) (sym asked ∙ asks.asked) in
      by lasts.Usage (comes_to bytes (subst (λ (j : Command). WasReadFor (reads j) c.old c.new bytes) same was)
      (subst (λ (j : Command). Does j bytes c.before c.after c.outcome) same has.does)) (inl refl)
]
  where
    by : (line : Last) → c.outcome.last ≡ Some line → (status_of line ≡ 2) ⊎ (status_of line ≡ 4)
        → (status ≡ 2) ⊎ Contains (10 ∷ 5 ∷ 4 ∷ []) status
    by line is which = elim (said held holds fell falls status c.outcome line wrote is) [
      | inl first ↦ inr (in_early (4 ∷ []) status first)
      | inr due ↦ elim which [ inl two ↦ inl (due ∙ two) | inr four ↦ inr (2, omega arith, sym (due ∙ four)) ]
    ]

    comes_to : (bytes : List ℕ) → WasRead c.old c.new bytes → Plays asks.play bytes c.before c.after c.outcome
        → c.outcome.last ≡ Some lasts.Usage
    comes_to bytes was plays =
        let read : reading_of bytes ≡ Reads asks.script =
        ap reading_of (same_read c.old c.new bytes asks.read.0 tells was asks.read.1) ∙ asks.read.2 in
        unplayed asks.play asks.script c.before c.after c.outcome asks.late (subst (λ (r : Reading). OfScript
        (λ script result. WasPlayedOrNot asks.play script c.before c.after result) r c.before c.after c.outcome) read
        plays)

pub disk_fault_of : {c : Call} {status : ℕ} → Standing c status
    → Exactly status 6 (10 ∷ 5 ∷ []) (IsTrue (some_so DiskFault c.outcome.ages c.outcome.stop))
disk_fault_of {c} {status} standing = record {
  only = λ is. elim (rank_of c 6 status is (omega arith) (omega arith) (λ e. omega (arith, e)) standing) [
    | by_disk e disk ↦ disk
    | by_logs e disk logs ↦ absurd (omega (arith, is, e))
    | by_full e disk logs full ↦ absurd (omega (arith, is, e))
    | by_turns e disk logs full turns ↦ absurd (omega (arith, is, e))
    | by_split e disk logs full turns split ↦ absurd (omega (arith, is, e))
    | by_none e calm ↦ absurd (omega (arith, is, e))
  ];
  unless = λ came. unless_of c status 6 [] (some_so DiskFault c.outcome.ages c.outcome.stop) came (λ calm. calm.disk)
      (λ rank. elim rank [
        | by_disk e disk ↦ inl e
        | by_logs e disk logs ↦ absurd (true≢false (sym came ∙ disk))
        | by_full e disk logs full ↦ absurd (true≢false (sym came ∙ disk))
        | by_turns e disk logs full turns ↦ absurd (true≢false (sym came ∙ disk))
        | by_split e disk logs full turns split ↦ absurd (true≢false (sym came ∙ disk))
        | by_none e calm ↦ absurd (true≢false (sym came ∙ calm.disk))
      ]) standing;
}

pub logs_refused_of : {c : Call} {status : ℕ} → Standing c status
    → Exactly status 7 (10 ∷ 5 ∷ 6 ∷ []) (IsTrue (is_some (refusal_of c.outcome.stop)))
logs_refused_of {c} {status} standing = record {
  only = λ is. elim (rank_of c 7 status is (omega arith) (omega arith) (λ e. omega (arith, e)) standing) [
    | by_disk e disk ↦ absurd (omega (arith, is, e))
    | by_logs e disk logs ↦ logs
    | by_full e disk logs full ↦ absurd (omega (arith, is, e))
    | by_turns e disk logs full turns ↦ absurd (omega (arith, is, e))
    | by_split e disk logs full turns split ↦ absurd (omega (arith, is, e))
    | by_none e calm ↦ absurd (omega (arith, is, e))
  ];
  unless = λ came. unless_of c status 7 (6 ∷ []) (is_some (refusal_of c.outcome.stop)) came (λ calm. calm.logs)
      (λ rank. elim rank [
        | by_disk e disk ↦ inr (2, omega arith, sym e)
        | by_logs e disk logs ↦ inl e
        | by_full e disk logs full ↦ absurd (true≢false (sym came ∙ logs))
        | by_turns e disk logs full turns ↦ absurd (true≢false (sym came ∙ logs))
        | by_split e disk logs full turns split ↦ absurd (true≢false (sym came ∙ logs))
        | by_none e calm ↦ absurd (true≢false (sym came ∙ calm.logs))
      ]) standing;
}

pub log_full_of : {c : Call} {status : ℕ} → Standing c status
    → Exactly status 11 (10 ∷ 5 ∷ 6 ∷ 7 ∷ []) (IsTrue (some_so LogFull c.outcome.ages c.outcome.stop))
log_full_of {c} {status} standing = record {
  only = λ is. elim (rank_of c 11 status is (omega arith) (omega arith) (λ e. omega (arith, e)) standing) [
    | by_disk e disk ↦ absurd (omega (arith, is, e))
    | by_logs e disk logs ↦ absurd (omega (arith, is, e))
    | by_full e disk logs full ↦ full
    | by_turns e disk logs full turns ↦ absurd (omega (arith, is, e))
    | by_split e disk logs full turns split ↦ absurd (omega (arith, is, e))
    | by_none e calm ↦ absurd (omega (arith, is, e))
  ];
  unless = λ came. unless_of c status 11 (6 ∷ 7 ∷ []) (some_so LogFull c.outcome.ages c.outcome.stop) came
      (λ calm. calm.full) (λ rank. elim rank [
        | by_disk e disk ↦ inr (2, omega arith, sym e)
        | by_logs e disk logs ↦ inr (3, omega arith, sym e)
        | by_full e disk logs full ↦ inl e
        | by_turns e disk logs full turns ↦ absurd (true≢false (sym came ∙ full))
        | by_split e disk logs full turns split ↦ absurd (true≢false (sym came ∙ full))
        | by_none e calm ↦ absurd (true≢false (sym came ∙ calm.full))
      ]) standing;
}

pub unfinished_of : {c : Call} {status : ℕ} → Standing c status
    → Exactly status 8 (10 ∷ 5 ∷ 6 ∷ 7 ∷ 11 ∷ []) (IsTrue (some_end Spent c.outcome.ages))
unfinished_of {c} {status} standing = record {
  only = λ is. elim (rank_of c 8 status is (omega arith) (omega arith) (λ e. omega (arith, e)) standing) [
    | by_disk e disk ↦ absurd (omega (arith, is, e))
    | by_logs e disk logs ↦ absurd (omega (arith, is, e))
    | by_full e disk logs full ↦ absurd (omega (arith, is, e))
    | by_turns e disk logs full turns ↦ turns
    | by_split e disk logs full turns split ↦ absurd (omega (arith, is, e))
    | by_none e calm ↦ absurd (omega (arith, is, e))
  ];
  unless = λ came. unless_of c status 8 (6 ∷ 7 ∷ 11 ∷ []) (some_end Spent c.outcome.ages) came (λ calm. calm.turns)
      (λ rank. elim rank [
        | by_disk e disk ↦ inr (2, omega arith, sym e)
        | by_logs e disk logs ↦ inr (3, omega arith, sym e)
        | by_full e disk logs full ↦ inr (4, omega arith, sym e)
        | by_turns e disk logs full turns ↦ inl e
        | by_split e disk logs full turns split ↦ absurd (true≢false (sym came ∙ turns))
        | by_none e calm ↦ absurd (true≢false (sym came ∙ calm.turns))
      ]) standing;
}

pub no_majority_of : {c : Call} {status : ℕ} → Standing c status
    → Exactly status 9 (10 ∷ 5 ∷ 6 ∷ 7 ∷ 11 ∷ 8 ∷ []) (IsTrue (some_end NoMajority c.outcome.ages))
no_majority_of {c} {status} standing = record {
  only = λ is. elim (rank_of c 9 status is (omega arith) (omega arith) (λ e. omega (arith, e)) standing) [
    | by_disk e disk ↦ absurd (omega (arith, is, e))
    | by_logs e disk logs ↦ absurd (omega (arith, is, e))
    | by_full e disk logs full ↦ absurd (omega (arith, is, e))
    | by_turns e disk logs full turns ↦ absurd (omega (arith, is, e))
    | by_split e disk logs full turns split ↦ split
    | by_none e calm ↦ absurd (omega (arith, is, e))
  ];
  unless = λ came. unless_of c status 9 (6 ∷ 7 ∷ 11 ∷ 8 ∷ []) (some_end NoMajority c.outcome.ages) came
      (λ calm. calm.split) (λ rank. elim rank [
        | by_disk e disk ↦ inr (2, omega arith, sym e)
        | by_logs e disk logs ↦ inr (3, omega arith, sym e)
        | by_full e disk logs full ↦ inr (4, omega arith, sym e)
        | by_turns e disk logs full turns ↦ inr (5, omega arith, sym e)
        | by_split e disk logs full turns split ↦ inl e
        | by_none e calm ↦ absurd (true≢false (sym came ∙ calm.split))
      ]) standing;
}

-- a source that was not read had failed
pub read_fault_of : {c : Call} {status : ℕ} → Standing c status → status ≡ 4 → Rose c.failed c.fails
read_fault_of {c} {status} standing is = elim standing [
  | early e ↦ absurd (late 4 status is (λ e. omega (arith, e)) (λ e. omega (arith, e)) e)
  | bad_words e none calm ↦ absurd (omega (arith, is, e))
  | all_late e k asked known asks calm ↦ absurd (omega (arith, is, e))
  | bad_source e k asked reading rose calm ↦ rose
  | has_run k asked known rank ↦ absurd (ranked c.outcome status rank (omega (arith, is)) (omega (arith, is)))
  | has_not k asked known few calm ↦
      absurd (not_unrun status few (λ e. omega (arith, is, e)) (λ e. omega (arith, is, e)) (omega (arith, is)))
]

-- the status of each call is one of those that its words allow
of_command : (k : Command) (asked : Option Command) → asked ≡ Some k → (status : ℕ)
    → Contains (ends_of k) status → Contains (statuses_of asked) status
of_command k asked is status known = subst (λ a. Contains (statuses_of a) status) (sym is)
    (contains_more 10 (5 ∷ told_by (Some k)) status (contains_more 5 (told_by (Some k)) status (by (reads k))))
  where
    by : (b : Bool) → Contains (if b then 4 ∷ ends_of k else ends_of k) status
    by true = contains_more 4 (ends_of k) status known
    by false = known

pub status_known : {c : Call} {status : ℕ} → Standing c status → Contains (statuses_of (asked_by c.words)) status
status_known {c} {status} standing = elim standing [
  | early e ↦ in_early (told_by (asked_by c.words)) status e
  | bad_words e none calm ↦ subst (λ a. Contains (statuses_of a) status) (sym none) (2, omega arith, sym e)
  | all_late e k asked known asks calm ↦ of_command k (asked_by c.words) asked status known
  | bad_source e k asked reading rose calm ↦ subst (λ a. Contains (statuses_of a) status) (sym asked)
      (subst (λ (b : Bool). Contains (10 ∷ 5 ∷ (if b then 4 ∷ ends_of k else ends_of k)) status) (sym reading)
      (2, omega arith, sym e))
  | has_run k asked known rank ↦ of_command k (asked_by c.words) asked status known
  | has_not k asked known few calm ↦ of_command k (asked_by c.words) asked status known
]

-- a source that failed is told by the status, unless an earlier one is
pub fault_told : (held holds : Option (List ℕ)) (fell falls status : ℕ) (o : Outcome) (line : Last)
    → o.last ≡ Some line → status_of line ≡ 4 → WroteOrNot held holds fell falls status o
    → Contains (4 ∷ 10 ∷ 5 ∷ []) status
fault_told held holds fell falls status o line is four wrote =
    elim (said held holds fell falls status o line wrote is) [
      | inl first ↦ elim first [ inl e ↦ (1, omega arith, sym e) | inr e ↦ (2, omega arith, sym e) ]
      | inr due ↦ (0, omega arith, sym (due ∙ four))
    ]
