-- What is mounted without a record and with one, damaged bytes are some, a group has members, and each that is
-- there has a fresh log.
use Rattle.std.proofs.Common.{◌≡◌, refl, ap, sym, subst, ◌∙◌, true, false, inl, inr, ℕ, ◌<◌, arith, List, [], ◌∷◌, ◌++◌, length, length-append, Option, None, Some, IfSome}
use Rattle.std.proofs.lemmas.{Bool.cases_lt, List.{get_or_append_left, get_or_push}}
use Rattle.dr_play.specs.Logged.{AreAmple, AreOpened}
use Rattle.dr_disk.specs.Disk.{Told, content_of}
use Rattle.dr_entry.specs.declared.entry.Entry.TheVariants.{View}
use Rattle.dr_fresh.specs.Fresh.{HasNoRecord, HaveLimit, IsEmpty, IsFresh, IsFreshAt}
use Rattle.dr_history.specs.Members.{has}
use Rattle.dr_log.specs.State.{LogState}
use Rattle.dr_log_bytes.specs.{Content.{OnLog, empty_of}, Grammar.StandFor}
use Rattle.dr_machine.{specs.Group.{IsGroup, roster}, proofs.Presence.late_few}
use Rattle.dr_program.{specs.Presence.present_at, proofs.Present.present_within}
use Rattle.dr_restart.specs.{Groups.group_of, declared.start.Start.Start}
use Rattle.dr_script.specs.declared.script.Script.{Script}

-- a log without a record
pub empty_log : {D : Type 0} (most : ℕ) (log : LogState D) → log.content ≡ empty_of log.content.newer
    → log.limit ≡ most → log.failed ≡ false → IsEmpty most log
empty_log most log same limit whole = record {
  entries = ap (λ (c : OnLog). c.entries) same;
  votes = ap (λ (c : OnLog). c.votes) same;
  age_votes = ap (λ (c : OnLog). c.age_votes) same;
  long = ap (λ (c : OnLog). c.length) same;
  limit = limit;
  whole = whole;
}

-- it was read from bytes without one
pub without_record : (told : Option Told) (c : OnLog) → c ≡ empty_of c.newer
    → IfSome told (λ t. StandFor (content_of t) c) → IfSome told HasNoRecord
without_record None c same stands = tt
without_record (Some t) c same stands = (c.newer, subst (StandFor (content_of t)) same stands)

-- ---- the logs of all

-- at each place stands what is to
abbrev pub AllFresh : {D : Type 0} → Start → ℕ → List (Option (LogState D)) → Type 0
AllFresh start most logs = (m : ℕ) → m < length logs → IsFreshAt start most m (present_at logs m)

pub none_fresh : {D : Type 0} (start : Start) (most : ℕ) (logs : List (Option (LogState D))) → logs ≡ []
    → AllFresh start most logs
none_fresh start most logs none m within = absurd (omega (arith, within, ap length none))

-- one place more
pub fresh_more : {D : Type 0} (start : Start) (most n : ℕ) (logs news : List (Option (LogState D)))
    (o : Option (LogState D)) → length logs ≡ n → AllFresh start most logs → IsFreshAt start most n o
    → news ≡ logs ++ o ∷ [] → AllFresh start most news
fresh_more start most n logs news o long fresh is more m within = elim (cases_lt m n) [
  | inl before ↦ subst (IsFreshAt start most m)
      (sym (ap (λ l. present_at l m) more ∙ get_or_append_left logs (o ∷ []) None m (omega (arith, before, long))))
      (fresh m (omega (arith, before, long)))
  | inr past ↦
      let here : n ≡ m = omega (arith, past, within, ap length more, length-append logs (o ∷ []), long) in
      subst (IsFreshAt start most m) (sym (ap (λ l. present_at l m) more ∙ get_or_push logs o None m (long ∙ here)))
      (subst (λ k. IsFreshAt start most k o) here is)
]

-- who has a log is there, and its log is fresh
fresh_there : {D : Type 0} (start : Start) (most m : ℕ) (logs : List (Option (LogState D))) (log : LogState D)
    → AllFresh start most logs → present_at logs m ≡ Some log → (has start.present m ≡ true) × IsFresh start most log
fresh_there start most m logs log fresh there =
    subst (IsFreshAt start most m) there (fresh m (present_within logs m log there))

-- the logs of a group, as an age without entries of earlier ones begins
pub fresh_opened : {D : Type 0} (script : Script) (start : Start) (most : ℕ)
    (logs : List (Option (LogState D))) → start.entries ≡ [] → length logs ≡ roster (group_of script start)
    → AllFresh start most logs → AreOpened (group_of script start) logs
fresh_opened {D} script start most logs none long fresh = record {
  all = long;
  each = λ m log there.
      let (present, is) = fresh_there start most m logs log fresh there in (
        present,
        record {
          entries = is.entries ∙ ap (λ es. es ++ View start.age 0 start.members ∷ []) (sym none);
          whole = is.whole;
        },
      );
  there = λ m below here. by m here (present_at logs m) refl (fresh m (omega (arith, below, long)));
}
  where
    by : (m : ℕ) → has start.present m ≡ true → (o : Option (LogState D)) → present_at logs m ≡ o
        → IsFreshAt start most m (present_at logs m) → (log : LogState D) × (present_at logs m ≡ Some log)
    by m here None none is = absurd (subst (IsFreshAt start most m) none is here)
    by m here (Some log) there is = (log, there)

pub fresh_limit : {D : Type 0} (start : Start) (most : ℕ) (logs : List (Option (LogState D)))
    → AllFresh start most logs → HaveLimit most logs
fresh_limit start most logs fresh m log there = (fresh_there start most m logs log fresh there).1.limit

pub fresh_ample : {D : Type 0} (script : Script) (start : Start) (logs : List (Option (LogState D)))
    → IsGroup (group_of script start) → start.entries ≡ [] → AllFresh start 2147483648 logs
    → AreAmple (group_of script start) logs
fresh_ample script start logs group none fresh m log there =
    let is = (fresh_there start 2147483648 m logs log fresh there).1 in record {
      limit = omega (
        arith,
        is.long,
        is.limit,
        ap length none,
        ap length is.entries,
        group.most_members,
        late_few (group_of script start),
      );
    }
